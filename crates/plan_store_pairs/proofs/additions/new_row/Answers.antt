use Rattle.std.proofs.Common.{rules, ◌≡◌, ◌+◌, ◌∙◌, true, false, refl, subst, sym, Option, None, Some}
use Rattle.std.specs.Prelude.{IfSome, Ok, is_some}
use Rattle.std.proofs.lemmas.Bool.{false≢true}
use Rattle.work_calendars.specs.Minute.{minutes_per_day}
use Rattle.app_occurrences.specs.Active.{IsActive}
use Rattle.app_definitions.specs.declared.definitions.Definitions.{Definitions}
use Rattle.occurrences.specs.declared.row.Origin.TheVariants.{Added}
use Rattle.occurrences.specs.declared.row.Row.{Row}
use Rattle.planner_machine.specs.Plans.{IsPlannedApp}
use Rattle.plan_store.specs.HistoryReads.{ReadsKey}
use Rattle.plan_store.specs.Views.{IsLiveRow, with_hidden}
use Rattle.plan_store.proofs.WindowLemmas.{shows_part}
use Rattle.plan_store_pairs.specs.Additions.{IsNewRow}
use Rattle.plan_store_pairs.proofs.ReadLemmas.{shows_own}
use Rattle.plan_store_pairs.proofs.AdditionLemmas.{due_is, new_row, new_too_many}
use Rattle.plan_store_pairs.proofs.additions.new_row.Goals as goal

none_is : {X : Type 0} (o : Option X) → is_some o ≡ false → o ≡ None
none_is None is = refl
none_is (Some x) is = cc

there_is : {X : Type 0} (P : X → Type 0) (o : Option X) → is_some o ≡ true → IfSome o P → (x : X) × P x
there_is P None is has = cc
there_is P (Some x) is has = (x, has)

-- a live occurrence has the key
pub returns-then-is_some : goal.returns-then-is_some
returns-then-is_some c h sound sees =
    let content = with_hidden h c.args.view.now in
    let key = c.args.key.now in
    let live = c.live_row.ensures h sound.serials (shows_part (ReadsKey content key) h c.args.view.now sees)
    (shows_own h c.args.view.now key sees) in
    search (rules, live)

pub returns-in_default-new_serial : goal.returns-in_default-new_serial
returns-in_default-new_serial c h sound sees =
    let content = with_hidden h c.args.view.now in
    let key = c.args.key.now in
    let bounded : content.sets.bounds ≡ Some c.in-Some.bounds = sym c.bounds.ensures ∙ c.in-Some.is in
    let has : is_some c.active.result ≡ true = c.if-is_none.ensures in
    let active : IsPlannedApp content.definitions key.app =
    subst (λ (all : Definitions). IsPlannedApp all key.app) c.definitions.ensures
    (there_is (IsActive c.definitions.result.now key.app) c.active.result has c.active.ensures.found) in
    let none = none_is c.live_row.result (sym c.is_some.ensures ∙ c.if-is_some.false) in
    let free = subst (IsLiveRow content.sets key) none (c.live_row.ensures h sound.serials
    (shows_part (ReadsKey content key) h c.args.view.now sees) (shows_own h c.args.view.now key sees)) in
    new_too_many content sound c.args.plan key c.in-Some.bounds bounded
    (λ out. false≢true (sym c.if-is_outside.false ∙ c.is_outside.ensures.1 out)) active
    (λ (serial, p, stands, live, keyed). free serial p stands live keyed)
    (c.in_default-new_serial.ensures h sound.serials)

pub returns : goal.returns
returns c h sound sees =
    let content = with_hidden h c.args.view.now in
    let key = c.args.key.now in
    let bounded : content.sets.bounds ≡ Some c.in-Some.bounds = sym c.bounds.ensures ∙ c.in-Some.is in
    let has : is_some c.active.result ≡ true = c.if-is_none.ensures in
    let active : IsPlannedApp content.definitions key.app =
    subst (λ (all : Definitions). IsPlannedApp all key.app) c.definitions.ensures
    (there_is (IsActive c.definitions.result.now key.app) c.active.result has c.active.ensures.found) in
    let none = none_is c.live_row.result (sym c.is_some.ensures ∙ c.if-is_some.false) in
    let free = subst (IsLiveRow content.sets key) none (c.live_row.ensures h sound.serials
    (shows_part (ReadsKey content key) h c.args.view.now sees) (shows_own h c.args.view.now key sees)) in
    let (room, serial) = c.in-Some-new_serial.ensures h sound.serials in
    let made = new_row content sound c.args.plan key c.in-Some.bounds bounded
    (λ out. false≢true (sym c.if-is_outside.false ∙ c.is_outside.ensures.1 out)) active
    (λ (n, p, stands, live, keyed). free n p stands live keyed) room in
    let due : c.new.result ≡ key.ia + minutes_per_day =
    due_is key.ia c.day.result c.in-Some-next.due c.minute.result c.new.result
    c.new.ensures.value c.in-Some-next.ensures.value c.day.ensures.value c.minute.ensures.value in
    subst (λ (row : Row). IsNewRow content c.args.plan key (Ok row))
    (λ i. record { key = key; serial = sym serial i; deadline = sym due i; origin = Added }) made
