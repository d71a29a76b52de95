use Rattle.std.proofs.Common.{arith}
use Rattle.plan_tables_schema.proofs.InTurn.{turns_fail}
use Rattle.plan_migrations_remaking.proofs.RefillLemmas.{one_length, accepts, then_changed, then_meta, whole_length}
use Rattle.plan_migrations_remaking.proofs.refilling.refill.Goals as goal

pub slice_bounds-put_all-end : goal.slice_bounds-put_all-end
slice_bounds-put_all-end g c =
    let all = whole_length c.args.reads.now c.requires in
    let first = one_length c.args.reads.now c.requires in
    omega (arith, all, first)

pub slice_bounds-put_all-end-2 : goal.slice_bounds-put_all-end-2
slice_bounds-put_all-end-2 g c = let all = whole_length c.args.reads.now c.requires in omega (arith, all)

pub returns-in_err-delete_meta : goal.returns-in_err-delete_meta
returns-in_err-delete_meta g c =
    turns_fail (accepts c.args.reads.now c.in_err-delete_meta.ensures.writes c.in_err-delete_meta.ensures.accepts)
    c.from_residual.ensures.1

pub returns-in_err-put_all : goal.returns-in_err-put_all
returns-in_err-put_all g c =
    turns_fail (then_meta c.args.reads.now c.in_ok-delete_meta.ensures.writes c.in_ok-delete_meta.ensures.accepts
    c.in_err-put_all.ensures.writes c.in_err-put_all.ensures.puts) c.from_residual-in_err-put_all.ensures.1

pub returns : goal.returns
returns g c =
    then_changed c.args.reads.now (then_meta c.args.reads.now c.in_ok-delete_meta.ensures.writes c.in_ok-delete_meta.ensures.accepts
    c.in_ok-put_all.ensures.writes c.in_ok-put_all.ensures.puts) c.put_all-2.ensures.writes c.put_all-2.ensures.puts
