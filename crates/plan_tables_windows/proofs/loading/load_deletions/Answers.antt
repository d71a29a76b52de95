use Rattle.std.proofs.Common.{◌≡◌, ◌+◌, ◌++◌, ◌∷◌, ◌∙◌, Err, List, Ok, [], ap, arith, subst, sym, take}
use Rattle.std.proofs.lemmas.List.{take_all, take_more}
use Rattle.occurrences.specs.declared.place.Deletion.{Deletion}
use Rattle.plan_store.specs.Contents.{content_of}
use Rattle.plan_tables_windows.specs.Loading.{LoadsEach}
use Rattle.plan_tables_windows.proofs.BarLemmas.{brings_more, brings_none, brings_part}
use Rattle.plan_tables_windows.proofs.EachLemmas.{of_front}
use Rattle.plan_tables_windows.proofs.loading.load_deletions.Goals as goal

pub loop-deletion-init : goal.loop-deletion-init
loop-deletion-init c = brings_none (content_of c.args.lists.now)

-- one more deletion
pub loop-deletion-preserved : goal.loop-deletion-preserved
loop-deletion-preserved c =
    let all = c.args.deletions.now in
    let index = c.loop-deletion.deletion-index in
    let deletion = c.deletion-item.result in
    let was = content_of c.args.lists.now in
    let mid = content_of c.loop-deletion.lists in
    let now = content_of c.load_deletion.new.lists in
    let front : take (index + 1) all ≡ take index all ++ deletion ∷ [] =
    take_more all index deletion c.loop-deletion-test.true ∙ ap (λ x. take index all ++ x ∷ []) (sym c.deletion-item.is)
    in
    subst (λ (l : List Deletion). LoadsEach l was now (Ok tt)) (sym front)
    (brings_more (take index all) deletion was mid now (Ok tt) c.loop-deletion.invariant c.in_ok-load_deletion.ensures)

pub returns-in_err-load_deletion : goal.returns-in_err-load_deletion
returns-in_err-load_deletion c =
    let all = c.args.deletions.now in
    let index = c.loop-deletion.deletion-index in
    let deletion = c.deletion-item.result in
    let was = content_of c.args.lists.now in
    let mid = content_of c.loop-deletion.lists in
    let now = content_of c.load_deletion.new.lists in
    let front : take (index + 1) all ≡ take index all ++ deletion ∷ [] =
    take_more all index deletion c.loop-deletion-test.true ∙ ap (λ x. take index all ++ x ∷ []) (sym c.deletion-item.is)
    in
    brings_part (take (index + 1) all) all was now c.in_err-load_deletion.field-0.0 (of_front (index + 1) all)
    (subst (λ (l : List Deletion). LoadsEach l was now (Err c.in_err-load_deletion.field-0.0)) (sym front)
    (brings_more (take index all) deletion was mid now (Err c.in_err-load_deletion.field-0.0) c.loop-deletion.invariant
    c.in_err-load_deletion.ensures)) c.from_residual.result c.from_residual.ensures.1

-- all deletions
pub returns : goal.returns
returns c =
    subst (λ (l : List Deletion). LoadsEach l (content_of c.args.lists.now) (content_of c.loop-deletion.lists) (Ok tt))
    (take_all c.loop-deletion.deletion-index c.args.deletions.now (omega arith)) c.loop-deletion.invariant
