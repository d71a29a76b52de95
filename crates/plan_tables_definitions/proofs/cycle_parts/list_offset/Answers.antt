use Rattle.std.proofs.Common.{sym, subst, ap, refl, nat_eq, ◌∙◌}
use Rattle.std.specs.FinMap as map
use Rattle.std.specs.Prelude.{IsTrue}
use Rattle.std.proofs.lemmas.Bool.{eq-eqb}
use Rattle.std.proofs.lemmas.Int.{to_z-of_z}
use mir.Val.{of_z}
use mir.Syntax.{w16}
use Rattle.plan_tables_definitions.specs.CycleParts.{offset_tail}
use Rattle.plan_tables_definitions.specs.Gathering.{Joins}
use Rattle.plan_tables_definitions.specs.Placed.{IsPlaced}
use Rattle.plan_tables_definitions.proofs.CycleLemmas.{offset_back}
use Rattle.plan_tables_definitions.proofs.PlaceLemmas.{one_at, placed_gets}
use Rattle.plan_tables_definitions.proofs.cycle_parts.list_offset.Goals as goal

pub returns-in-Some-clause-refused : goal.returns-in-Some-clause-refused
returns-in-Some-clause-refused c d name is within =
    let it = one_at (offset_tail name) (offset_back name) d c.args.offsets.now c.args.place c.args.k c.in-Some.other
    (sym c.get.ensures ∙ c.in-Some.is) is within in
    subst (λ z. IsTrue (nat_eq (of_z w16 c.in-Some.other) (of_z w16 z))) it
    (eq-eqb (of_z w16 c.in-Some.other) (of_z w16 c.in-Some.other) refl)

pub returns-in_ok-put-in-None-clause-taken : goal.returns-in_ok-put-in-None-clause-taken
returns-in_ok-put-in-None-clause-taken c name _ =
    let same = to_z-of_z w16 c.args.k c.ranges.k in
    subst (λ m. Joins (IsPlaced (offset_tail name)
    c.args.offsets.now) (offset_tail name c.args.place c.args.k) (IsPlaced (offset_tail name) m))
    (sym (c.in_ok-put-in-None.ensures ∙ ap (map.insert c.args.offsets.now c.args.place) same))
    (placed_gets (offset_tail name) (offset_back name) c.args.offsets.now c.args.place c.args.k
    (sym c.get.ensures ∙ c.in-None.is))
