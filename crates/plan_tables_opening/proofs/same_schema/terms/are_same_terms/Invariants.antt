use Rattle.std.proofs.Common.{◌≡◌, map, take}
use Rattle.sqlite_schema.specs.Code.{term_in}
use Rattle.plan_tables_opening.proofs.same_schema.terms.are_same_terms.Given as goal

abbrev pub invariant-loop-i : goal.invariant-loop-i
invariant-loop-i l = map (term_in l.nodes) (take l.i l.places) ≡ map (term_in l.others) (take l.i l.other_places)
