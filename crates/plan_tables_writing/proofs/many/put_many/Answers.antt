use Rattle.std.proofs.Common.{◌∙◌, ◌++◌, [], append_assoc, arith, List, refl, sym, ap, subst}
use Rattle.plan_tables_writing.proofs.ManyLemmas.{PutsEach, accepts_both, none_put, put_more}
use Rattle.plan_tables_writing.proofs.TakingLemmas.{writes_no_more}
use Rattle.plan_tables_writing.specs.Accepted.{AcceptsEach}
use Rattle.plan_tables_writing.proofs.many.put_many.Goals as goal

pub loop-rest-init : goal.loop-rest-init
loop-rest-init g c = ([], refl, none_put g.S.Store c.args.table g.R.Fact.values c.args.tx.now)

pub returns-in_err-put_several : goal.returns-in_err-put_several
returns-in_err-put_several g c =
    let was = c.loop-rest.invariant in
    let few = c.split_at.result.0.now in
    writes_no_more c.from_residual.result c.from_residual.ensures.1
    (λ all h. (accepts_both g.S.Store c.args.table g.R.Fact.values (was.0 ++ few) c.split_at.result.1.now all
    (subst (λ (xs : List g.row.R.Denot). AcceptsEach c.args.table g.R.Fact.values xs all)
    (was.1 ∙ ap (λ xs. was.0 ++ xs) c.split_at.ensures.by_index.0 ∙ sym (append_assoc was.0 few c.split_at.result.1.now)) h)).0)
    (put_more g.S.Store c.args.table g.R.Fact.values was.0 few _ was.2 c.in_err-put_several.ensures)

pub loop-rest-smaller : goal.loop-rest-smaller
loop-rest-smaller g c = omega (arith, c.at_once-count.ensures, c.split_at.ensures.back_len)

pub loop-rest-preserved : goal.loop-rest-preserved
loop-rest-preserved g c =
    let was = c.loop-rest.invariant in
    let few = c.split_at.result.0.now in (
      was.0 ++ few,
      was.1 ∙ ap (λ xs. was.0 ++ xs) c.split_at.ensures.by_index.0 ∙ sym (append_assoc was.0 few c.split_at.result.1.now),
      put_more g.S.Store c.args.table g.R.Fact.values was.0 few _ was.2 c.in_ok-put_several.ensures,
    )

pub returns : goal.returns
returns g c =
    let was = c.loop-rest.invariant in
    subst (λ (xs : List g.row.R.Denot). PutsEach g.S.Store c.args.table g.R.Fact.values xs c.args.tx.now c.put_each.new.tx
    c.put_each.result) (sym was.1)
    (put_more g.S.Store c.args.table g.R.Fact.values was.0 c.loop-rest.rest.now _ was.2 c.put_each.ensures)
