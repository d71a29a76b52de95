use Rattle.std.proofs.Common.{◌≡◌, ℕ, List, map, refl, subst, sym, ◌∙◌}
use Rattle.std.specs.Prelude.{IfSome, IsSome}
use Rattle.std.proofs.lemmas.Option.{IfSome_then}
use Rattle.app_definition_records.specs.ByName.{AreEntriesOf}
use Rattle.app_definition_records.specs.Rising.{AreRising}
use Rattle.run_cycles.specs.declared.cycles.RunCycle.{RunCycle}
use Rattle.plan_tables_definitions.specs.WholeCycles.{cycle_of}
use Rattle.plan_tables_definitions.specs.declared.cycle_parts.CyclePart.{CyclePart}
use Rattle.plan_tables_definitions.proofs.WholeLemmas.{parts_made, rising_map, short_names}
use Rattle.plan_tables_definitions.proofs.whole_cycles.cycles_of.Goals as goal

pub returns-in-Some-clause-made : goal.returns-in-Some-clause-made
returns-in-Some-clause-made c =
    let es = c.deref.result.now in
    let same = c.deref.ensures.value in
    let made = subst (λ o. IfSome o (λ cycles. cycles.items ≡ map cycle_of es)) c.in-Some.is
    c.in_ok-cycles.ensures.made in
    IfSome_then c.from_vec.result c.from_vec.ensures.value (λ cycles is. parts_made es c.args.parts cycles
    (subst (λ l. AreEntriesOf l c.args.parts) (sym same) c.in_ok-parts.ensures.entries)
    (subst (AreRising (λ (e : List ℕ × CyclePart). e.0)) (sym same) c.in_ok-parts.ensures.rising) (is ∙ made))

pub returns-in-Some-clause-found : goal.returns-in-Some-clause-found
returns-in-Some-clause-found c short =
    let es = c.deref.result.now in
    let same = c.deref.ensures.value in
    let made = subst (λ o. IfSome o (λ cycles. cycles.items ≡ map cycle_of es)) c.in-Some.is
    c.in_ok-cycles.ensures.made in
    c.from_vec.ensures.valid.1 (subst (AreRising (λ (x : RunCycle). x.name)) (sym made)
    (rising_map cycle_of (λ (e : List ℕ × CyclePart). e.0) (λ (x : RunCycle). x.name) es (λ e. refl)
    (subst (AreRising (λ (e : List ℕ × CyclePart). e.0)) (sym same) c.in_ok-parts.ensures.rising)))

pub returns-clause-found : goal.returns-clause-found
returns-clause-found c short =
    let es = c.deref.result.now in
    let same = c.deref.ensures.value in
    subst IsSome c.in-None.is (c.in_ok-cycles.ensures.found (short_names es c.args.parts
    (subst (λ l. AreEntriesOf l c.args.parts) (sym same) c.in_ok-parts.ensures.entries)
    (subst (AreRising (λ (e : List ℕ × CyclePart). e.0)) (sym same) c.in_ok-parts.ensures.rising) short))
