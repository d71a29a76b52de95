use Rattle.std.proofs.Common.{refl}
use Rattle.std.specs.Prelude.{is_ok}
use Rattle.sqlite.specs.Held.{state}
use Rattle.plan_tables_schema.proofs.ResultLemmas.{if_err, if_ok}
use Rattle.plan_tables_loading.proofs.LookLemmas.{clean_before, looks_then, plan_still, vain_then}
use Rattle.plan_tables_opening.proofs.JudgedLemmas.{judged_since, known_still}
use Rattle.plan_tables_opening.proofs.opening.read_plan.Goals as goal

pub returns-then-branch-clause-judged : goal.returns-then-branch-clause-judged
returns-then-branch-clause-judged g c clean =
    let a = state g.S.Store c.args.conn.now in
    let b = state g.S.Store c.has_version.new.conn in
    let d = state g.S.Store c.read_whole.new.conn in
    let plan = c.requires.plan in
    let calm = clean_before b d _ c.read_whole.ensures.looks clean in
    let same = c.in_ok-has_version.ensures.looks.same calm plan refl in
    let known = (c.in_ok-has_version.ensures.told calm plan).0 c.if-branch.true in
    if_ok c.read_whole.result _ _ (judged_since a b d same)
    (c.read_whole.ensures.judged clean (known_still a b same (plan, known)))

pub returns-then-branch-clause-looks : goal.returns-then-branch-clause-looks
returns-then-branch-clause-looks g c =
    looks_then (state g.S.Store c.args.conn.now) (state g.S.Store c.has_version.new.conn)
    (state g.S.Store c.read_whole.new.conn) (is_ok c.read_whole.result) c.in_ok-has_version.ensures.looks
    c.read_whole.ensures.looks

pub returns-then-branch-clause-fails : goal.returns-then-branch-clause-fails
returns-then-branch-clause-fails g c clean =
    let a = state g.S.Store c.args.conn.now in
    let b = state g.S.Store c.has_version.new.conn in
    let d = state g.S.Store c.read_whole.new.conn in
    let plan = c.requires.plan in
    let one = c.in_ok-has_version.ensures.looks in
    let two = c.read_whole.ensures.looks in
    let same = one.same (clean_before b d _ two clean) plan refl in
    if_err c.read_whole.result _ _ (λ e h. vain_then a b d _ e one two clean plan h)
    (c.read_whole.ensures.fails clean (plan_still a b same plan))
