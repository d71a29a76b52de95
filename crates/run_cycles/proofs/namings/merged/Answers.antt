use Rattle.std.proofs.Common.{rules, ◌≡◌, List, refl, sym, subst}
use Rattle.std.specs.Iterator.{YieldsFirst}
use Rattle.std.proofs.lemmas.Iterator.Adapters.{YieldsList-from_vec}
use Rattle.itertools.specs.KMerge.{SourcesGive}
use Rattle.run_cycles.specs.declared.namings.Naming.{Naming}
use Rattle.run_cycles.proofs.MergeLemmas.{each_sorted_by, first_order, in_order_by, merge_has, run_drains_from}
use Rattle.run_cycles.proofs.MergeLemmas.{sources_give, whole_run}
use Rattle.run_cycles.proofs.namings.merged.Goals as goal

pub returns-clause-each : goal.returns-clause-each
returns-clause-each c =
    let ss = c.args.sources.items in
    let (p, from, whole, gives) = c.in_ok-merge.ensures.items in
    let road = YieldsList-from_vec ss c.into_iter.ensures.rest (search rules) in
    let is : p.items ≡ ss = whole_run p c.into_iter.result ss from whole road in
    let Gives : List (List Naming) → Type 0 = λ us. SourcesGive
    (λ (s r : List Naming). r ≡ s) (YieldsFirst (λ (left : List Naming). left)) us ss in
    let all = gives ss (subst Gives (sym is) (sources_give ss)) in
    let (q, from2, whole2, same) = c.in_ok-list.ensures.runs in
    let (rest, permutes, none) = all q.items q.whole (run_drains_from q c.in_ok-merge.merge from2) in
    rw same (merge_has ss q.items rest permutes (none whole2))

pub returns-clause-order : goal.returns-clause-order
returns-clause-order c =
    let ss = c.args.sources.items in
    let (p, from, whole, gives) = c.in_ok-merge.ensures.in_order in
    let road = YieldsList-from_vec ss c.into_iter.ensures.rest (search rules) in
    let is : p.items ≡ ss = whole_run p c.into_iter.result ss from whole road in
    let Gives : List (List Naming) → Type 0 = λ us. SourcesGive
    (λ (s r : List Naming). r ≡ s) (YieldsFirst (λ (left : List Naming). left)) us ss in
    let ordered = gives (first_order _ (λ x y. refl)) ss (subst Gives (sym is) (sources_give ss))
    (each_sorted_by _ (λ x y. refl) ss c.requires) in
    let (q, from2, whole2, same) = c.in_ok-list.ensures.runs in
    rw same (in_order_by _ (λ x y. refl) q.items (ordered q.items q.whole
    (run_drains_from q c.in_ok-merge.merge from2)))
