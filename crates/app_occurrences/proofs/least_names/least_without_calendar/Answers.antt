use Rattle.std.proofs.Common.{◌≡◌, ◌∙◌, sym, subst, ℕ, List, Some}
use Rattle.std.specs.Prelude.{IsTrue}
use Rattle.std.specs.FinMap as map
use Rattle.std.proofs.lemmas.Bool.{false≢true}
use Rattle.app_occurrences.specs.Active.{HasNoCalendar, LacksCalendar}
use Rattle.app_definition_records.specs.ByName.{AreEntriesOf}
use Rattle.app_definition_records.specs.declared.applications.Application.{Application}
use Rattle.app_definitions.specs.declared.definitions.Definitions.{Definitions}
use Rattle.app_occurrences.proofs.LeastLemmas.{before_all, before_none, before_skip, before_take, least_alike}
use Rattle.app_occurrences.proofs.least_names.least_without_calendar.Goals as goal

-- an application that is active and lacks one
abbrev Holds : Definitions → List ℕ → Application → Type 0
Holds all app a = IsTrue a.active × LacksCalendar all a

pub loop-app-init : goal.loop-app-init
loop-app-init c =
    let all = c.args.all.now in
    before_all (Holds all) all.applications c.into_iter-app-iterator.result
    (subst (λ es. AreEntriesOf es all.applications)
    (sym c.into_iter-app-iterator.ensures.into_iter_gives) c.iter-app-items.ensures)

pub loop-app-preserved-then-lacks_calendar : goal.loop-app-preserved-then-lacks_calendar
loop-app-preserved-then-lacks_calendar c =
    let all = c.args.all.now in
    before_take (Holds all) all.applications c.loop-app.app-iterator c.next.new.self c.loop-app.least
    c.in-Some.app.now c.in-Some.application.now c.lesser.result
    c.loop-app.invariant c.in-Some.ensures.steps
    (c.if-application.true, c.lacks_calendar.ensures.0 c.if-lacks_calendar.true)
    c.lesser.ensures.one c.lesser.ensures.name c.lesser.ensures.least

pub loop-app-preserved : goal.loop-app-preserved
loop-app-preserved c =
    let all = c.args.all.now in
    let not : ¬ (Holds all c.in-Some.app.now c.in-Some.application.now) = elim c.else-application.branch [
      | goal.else-application-via-then-application+else-lacks_calendar w ↦ λ h. false≢true
          (sym w.if-lacks_calendar.false ∙ w.lacks_calendar.ensures.1 h.1)
      | goal.else-application-via-else-application w ↦ λ h. false≢true (sym w.if-application.false ∙ h.0)
    ] in
    before_skip (Holds all) all.applications c.loop-app.app-iterator c.next.new.self c.loop-app.least
    c.in-Some.app.now c.in-Some.application.now
    c.loop-app.invariant c.in-Some.ensures.steps not

pub returns : goal.returns
returns c =
    let all = c.args.all.now in
    least_alike (λ app. (a : Application) × (map.get all.applications app ≡ Some a) × Holds all app a)
    (HasNoCalendar all) c.loop-app.least
    (λ app (a, is, h). (a, (is, h.0), h.1))
    (λ app (a, active, lacks). (a, active.0, (active.1, lacks)))
    (before_none (Holds all) all.applications c.loop-app.app-iterator c.loop-app.least c.loop-app.invariant
    c.in-None.ensures.steps.0)
