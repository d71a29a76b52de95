use Rattle.std.proofs.Common.{◌≡◌, ℕ, List, Option, Some, None, subst, sym}
use Rattle.std.specs.FinMap as maps
use Rattle.std.specs.Prelude.{IfSome, IsSome}
use Rattle.std.proofs.lemmas.Option.{IfSome_then}
use Rattle.std.proofs.lemmas.Result.{IfOk-weaker}
use Rattle.work_calendars.specs.Name.{IsShort}
use Rattle.app_definition_records.specs.Rising.{AreRising}
use Rattle.app_definition_records.proofs.ByNameLemmas.{IfOk-both}
use Rattle.run_cycles.specs.declared.cycles.RunCycle.{RunCycle}
use Rattle.sqlite.specs.Order.{Row as Values}
use Rattle.plan_tables_content.specs.Content.{ByName}
use Rattle.plan_tables_definitions.specs.CycleParts.{IsPartRow}
use Rattle.plan_tables_definitions.specs.Storing.{AreRowsOf}
use Rattle.plan_tables_definitions.specs.Representable.{AreCycles}
use Rattle.plan_tables_definitions.specs.WholeCycles.{ArePartsOf, IsKept}
use Rattle.plan_tables_definitions.specs.declared.cycle_parts.CyclePart.{CyclePart}
use Rattle.plan_tables_definitions.proofs.WholeLemmas.{cycles_alike, cycles_told, its_parts, names_short, parts_rows}
use Rattle.plan_tables_definitions.proofs.WholeLemmas.{parts_sound}
use Rattle.plan_tables_definitions.proofs.whole_cycles.CyclesDraftDraft.finish.Goals as goal

pub returns-in-Some-clause-made : goal.returns-in-Some-clause-made
returns-in-Some-clause-made c =
    let app = c.args._name.now in
    let tails = c.args.self.now.tails.items in
    let rows = subst (λ l. AreRowsOf IsPartRow l c.in-Some.parts) c.deref.ensures.value
    (subst (λ o. IfSome o (AreRowsOf IsPartRow c.deref.result.now)) c.in-Some.is c.in_ok-parts.ensures.made) in
    IfOk-weaker c.cycles_of.result (λ found. IfSome found (ArePartsOf c.in-Some.parts)) _
    (λ found made. IfSome_then found made (λ cycles of. cycles_alike app cycles c.in-Some.parts tails of rows))
    c.cycles_of.ensures.made

told_with : (found : Option (List RunCycle)) (parts : ByName CyclePart) (app : List ℕ) (tails : List Values)
    → IfSome found (ArePartsOf parts) → IfSome found (AreRising (λ (x : RunCycle). x.name))
    → AreRowsOf IsPartRow tails parts → IfSome found (λ d. (v : Values) → IsKept app tails v → AreCycles d)
told_with None parts app tails of rising rows = tt
told_with (Some d) parts app tails of rising rows = λ v kept.
    cycles_told app d v rising ((cycles_alike app d parts tails of rows v).1 kept)

pub returns-in-Some-clause-told : goal.returns-in-Some-clause-told
returns-in-Some-clause-told c =
    let app = c.args._name.now in
    let tails = c.args.self.now.tails.items in
    let rows = subst (λ l. AreRowsOf IsPartRow l c.in-Some.parts) c.deref.ensures.value
    (subst (λ o. IfSome o (AreRowsOf IsPartRow c.deref.result.now)) c.in-Some.is c.in_ok-parts.ensures.made) in
    IfOk-both c.cycles_of.result (λ found. IfSome found (ArePartsOf c.in-Some.parts))
    (λ found. IfSome found (AreRising (λ (x : RunCycle). x.name))) _
    (λ found made rising. told_with found c.in-Some.parts app tails made rising rows)
    c.cycles_of.ensures.made c.cycles_of.ensures.rising

pub returns-in-Some-clause-found : goal.returns-in-Some-clause-found
returns-in-Some-clause-found c =
    let app = c.args._name.now in
    let tails = c.args.self.now.tails.items in
    let parts = c.in-Some.parts in
    let rows = subst (λ l. AreRowsOf IsPartRow l parts) c.deref.ensures.value
    (subst (λ o. IfSome o (AreRowsOf IsPartRow c.deref.result.now)) c.in-Some.is c.in_ok-parts.ensures.made) in
    IfOk-weaker c.cycles_of.result (λ found. ((name : List ℕ) (part : CyclePart) → maps.get parts name ≡ Some part
    → IsShort name) → IsSome found) _
    (λ found some d sound alike. some (names_short app d tails sound alike parts rows)) c.cycles_of.ensures.found

pub returns-in-None-clause-found : goal.returns-in-None-clause-found
returns-in-None-clause-found c d sound alike =
    let app = c.args._name.now in
    let tails = c.args.self.now.tails.items in
    subst IsSome c.in-None.is (c.in_ok-parts.ensures.found (its_parts app d tails sound alike)
    (parts_sound app d tails sound alike)
    (subst (λ l. AreRowsOf IsPartRow l (its_parts app d tails sound alike)) (sym c.deref.ensures.value)
    (parts_rows app d tails sound alike)))
