use Rattle.std.proofs.Common.{◌≡◌, ◌∙◌, Bool, true, false, ap, refl, subst, sym}
use Rattle.std.specs.Prelude.{is_some, unwrap_or, MatchBool, if◌then◌else◌, ◌||◌, ⊤}
use Rattle.planner_machine.specs.Moves.{or_else}
use Rattle.plan_tables_writing.specs.Accepted.{AcceptsMeta, WritesAccepted}
use Rattle.plan_tables_writing.specs.Writing.{meta_told}
use Rattle.plan_tables_writing.proofs.writing.write_new_meta.Goals as goal
use Rattle.plan_tables_writing.proofs.writing.write_new_meta.Goals.{then-is_some, else-is_some}

either_left : (a b : Bool) → a ≡ true → (a || b) ≡ true
either_left a b is = ap (λ x. x || b) is

either_right : (a b : Bool) → b ≡ true → (a || b) ≡ true
either_right true b is = refl
either_right false b is = is

pub returns-then-is_some-2 : goal.returns-then-is_some-2
returns-then-is_some-2 g c =
    let old = c.args.old.now in
    let change = c.args.change.now in
    let told : (is_some change.bounds || is_some change.issued) ≡ true =
    (elim c.if-is_some.branch [
      | then-is_some w ↦ either_left (is_some change.bounds) (is_some change.issued) (sym w.if-is_some.ensures)
      | else-is_some w ↦ either_right (is_some change.bounds) (is_some change.issued)
          (sym w.is_some-else-is_some.ensures
          ∙ sym w.value-is ∙ c.if-is_some-2.true)
    ]) in
    subst (λ b. WritesAccepted (λ _. ⊤) (λ all. MatchBool b (AcceptsMeta (or_else change.bounds old.bounds)
    (unwrap_or change.issued old.issued) old.definitions.options all) ⊤) g.S.Store c.args.tx.now c.write_meta.new.tx
    c.write_meta.result (λ all. if b then meta_told (or_else change.bounds old.bounds)
    (unwrap_or change.issued old.issued) old.definitions.options all else all)) (sym told)
    (rw (c.new_or_old-bounds.ensures, c.unwrap_or-issued.ensures) at c.write_meta.ensures)
