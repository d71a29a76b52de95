use Rattle.std.proofs.Common.{subst, sym, ◌∙◌}
use Rattle.std.specs.Prelude.{IfSome, IsSome}
use Rattle.run_cycles.specs.Offset.{IsOffsets}
use Rattle.plan_tables_definitions.specs.Placed.{HoldsPlaces}
use Rattle.plan_tables_definitions.proofs.CycleLemmas.{kept_told, offsets_in_order}
use Rattle.plan_tables_definitions.proofs.PlaceLemmas.{same_list}
use Rattle.plan_tables_definitions.proofs.cycle_parts.PartDraftDraft.finish.Goals as goal

pub returns-in_default-clause-found : goal.returns-in_default-clause-found
returns-in_default-clause-found c d such alike =
    let x = c.args.self.now in
    absurd (c.in_default.not-Some d.told (c.told_of.ensures.found d.told such.told (kept_told c.args.name.now x.row
    x.offsets d alike)))

pub returns-in_default-2-clause-found : goal.returns-in_default-2-clause-found
returns-in_default-2-clause-found c d such alike = let x = c.args.self.now in
    subst IsSome c.in_default-2.is (c.in_ok-items.ensures.found d.offsets (offsets_in_order c.args.name.now x.row
    x.offsets d alike))

pub returns-in-None-clause-found : goal.returns-in-None-clause-found
returns-in-None-clause-found c d such alike = let x = c.args.self.now in
    let wanted = offsets_in_order c.args.name.now x.row x.offsets d alike in
    let order = subst (λ o. IfSome o (λ xs. HoldsPlaces xs.items x.offsets)) c.in-Some-2.is c.in_ok-items.ensures.made in
    let same = same_list d.offsets c.in-Some-2.items.items (λ k. wanted k ∙ sym (order k)) in
    subst IsSome c.in-None.is (c.from_vec.ensures.valid.1 (subst IsOffsets same such.offsets))
