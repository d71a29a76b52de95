use Rattle.std.proofs.Common.{true, false, refl, subst, sym}
use Rattle.std.proofs.lemmas.Result.{err_from_is_err_and}
use Rattle.sqlite.specs.Held.{state}
use Rattle.plan_tables_loading.proofs.LookLemmas.{clean_before, looks_then, plan_still, tables_still, vain_then}
use Rattle.plan_tables_loading.proofs.TableLemmas.{at_some}
use Rattle.plan_tables_loading.proofs.parts.Tuple2TablePart.read.Goals as goal

pub returns-in-Some-2-clause-looks : goal.returns-in-Some-2-clause-looks
returns-in-Some-2-clause-looks g c =
    looks_then (state g.S.Store c.args.conn.now) (state g.S.Store c.read.new.conn)
    (state g.S.Store c.read-in-Some.new.conn) true c.in_ok-first.ensures.looks c.in_ok-second-in-Some.ensures.looks

pub returns-in-None-2-clause-looks : goal.returns-in-None-2-clause-looks
returns-in-None-2-clause-looks g c =
    looks_then (state g.S.Store c.args.conn.now) (state g.S.Store c.read.new.conn)
    (state g.S.Store c.read-in-Some.new.conn) true c.in_ok-first.ensures.looks c.in_ok-second-in-Some.ensures.looks

pub returns-in_err-second-in-Some-clause-looks : goal.returns-in_err-second-in-Some-clause-looks
returns-in_err-second-in-Some-clause-looks g c =
    let p = err_from_is_err_and c.from_residual-in_err-second-in-Some.result c.from_residual-in_err-second-in-Some.ensures.1 in
    rw p.1 (looks_then (state g.S.Store c.args.conn.now) (state g.S.Store c.read.new.conn)
    (state g.S.Store c.read-in-Some.new.conn) false c.in_ok-first.ensures.looks c.in_err-second-in-Some.ensures.looks)

pub returns-in_err-second-in-Some-clause-fails : goal.returns-in_err-second-in-Some-clause-fails
returns-in_err-second-in-Some-clause-fails g c clean plan =
    let a = state g.S.Store c.args.conn.now in
    let b = state g.S.Store c.read.new.conn in
    let d = state g.S.Store c.read-in-Some.new.conn in
    let first = c.in_ok-first.ensures.looks in
    let second = c.in_err-second-in-Some.ensures.looks in
    let same = first.same (clean_before b d false second clean) plan refl in
    let p = err_from_is_err_and c.from_residual-in_err-second-in-Some.result c.from_residual-in_err-second-in-Some.ensures.1 in
    rw (p.1, p.2) (vain_then a b d false c.in_err-second-in-Some.field-0.0 first second clean plan
    (c.in_err-second-in-Some.ensures.fails clean (plan_still a b same plan)))

pub returns-in-Some-2-clause-told : goal.returns-in-Some-2-clause-told
returns-in-Some-2-clause-told g c clean plan =
    let a = state g.S.Store c.args.conn.now in
    let b = state g.S.Store c.read.new.conn in
    let d = state g.S.Store c.read-in-Some.new.conn in
    let calm = clean_before b d true c.in_ok-second-in-Some.ensures.looks clean in
    let same = c.in_ok-first.ensures.looks.same calm plan refl in
    let second = at_some c.in_ok-second-in-Some.field-0 c.in-Some-2.second _ c.in-Some-2.is
    (c.in_ok-second-in-Some.ensures.told clean (plan_still a b same plan)) in (
      at_some c.in_ok-first.field-0 c.in-Some.first _ c.in-Some.is (c.in_ok-first.ensures.told calm plan),
      subst (λ all. g.B.TablePart.tells all c.in-Some-2.second) (tables_still a b same) second,
    )

pub returns-in-None-2-clause-refused : goal.returns-in-None-2-clause-refused
returns-in-None-2-clause-refused g c clean plan none readable =
    let a = state g.S.Store c.args.conn.now in
    let b = state g.S.Store c.read.new.conn in
    let d = state g.S.Store c.read-in-Some.new.conn in
    let calm = clean_before b d true c.in_ok-second-in-Some.ensures.looks clean in
    let same = c.in_ok-first.ensures.looks.same calm plan refl in
    c.in_ok-second-in-Some.ensures.refused clean (plan_still a b same plan) c.in-None-2.is (subst
    g.B.TablePart.readable (sym (tables_still a b same)) readable.1)
