use Rattle.std.proofs.Common.{◌≡◌, ◌↔◌, ◌∙◌, sym, rules}
use Rattle.std.specs.Bool.{IsTrue}
use Rattle.std.specs.Cmp.Rules.{comparing}
use Rattle.plan_tables_definitions.proofs.PredecessorLemmas.{other_limit, predecessor_joins}
use Rattle.plan_tables_definitions.proofs.predecessors.PredecessorDraftDraft.join.Goals as goal

pub returns-in_default-clause-refused : goal.returns-in_default-clause-refused
returns-in_default-clause-refused c d such is within = let (p, has, at) = is in
    let sound = such.each p has in
    absurd (c.in_default.not-Some p (c.predecessor_at.ensures.found p sound.name sound.within at))

pub returns-in-Some-limit_of-clause-refused : goal.returns-in-Some-limit_of-clause-refused
returns-in-Some-limit_of-clause-refused c d such is within =
    let same : IsTrue c.eq.result ↔ (c.in-Some-limit_of.within ≡ c.in-Some.read.within) = search (comparing, rules) in
    same.1
    (other_limit c.args.name.now c.args.self.now.limits d c.in-Some.read c.in-Some-limit_of.within c.args.row.now such
    (sym c.limit_of.ensures ∙ c.in-Some-limit_of.is) c.in-Some.ensures.value is within)

pub returns-in_ok-insert-in-None-clause-taken : goal.returns-in_ok-insert-in-None-clause-taken
returns-in_ok-insert-in-None-clause-taken c _ = predecessor_joins c.args.name.now c.args.self.now.limits
    c.insert.new.self c.in-Some.read c.in_ok-insert-in-None.ensures.ok c.args.row.now
    (sym c.limit_of.ensures ∙ c.in-None.is) c.in-Some.ensures.value
