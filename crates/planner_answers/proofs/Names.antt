-- What the definitions say of applications can be decided, and what they name is finite.
use Rattle.std.proofs.Common.{◌≡◌, ◌≢◌, ℕ, zero, ◌+◌, ◌*◌, ◌<◌, ◌≤◌, Bool, true, false, List, [], ◌∷◌}
use Rattle.std.proofs.Common.{refl, sym, ap, subst, ◌∙◌, inl, inr, arith, Option, None, Some}
use Rattle.std.proofs.Common.{unwrap_or, cond}
use Rattle.std.specs.FinMap as map
use Rattle.std.specs.Cmp.{Equal-is}
use Rattle.std.specs.Cmp.Lexicographic.{slice_cmp}
use Rattle.std.specs.Ordering.{eq_by_cmp, nat_cmp}
use Rattle.work_calendars.specs.Moment.{moment_of}
use Rattle.run_cycles.specs.Occurrence.{HaveOwnNames, IsOccurrence, IsOccurrenceBetween}
use Rattle.run_cycles.specs.declared.cycles.RunCycle.{RunCycle}
use Rattle.run_cycles.specs.declared.named.Named.{Named}
use Rattle.run_cycles.proofs.OccurrenceLemmas.{one_occurrence}
use Rattle.app_definition_records.specs.ByName.{IsDefinedBy, records_of}
use Rattle.app_definition_records.specs.CycleRecords.{AreRunCyclesOf}
use Rattle.app_definition_records.specs.declared.applications.Application.{Application}
use Rattle.app_definition_records.proofs.RisingLemmas.{own_names}
use Rattle.app_definitions.specs.declared.definitions.Definitions.{Definitions}
use Rattle.app_occurrences.specs.Active.{HasNoCalendar, HasNoPeriod, IsActive, LacksCalendar, LacksPeriod}
use Rattle.app_occurrences.specs.Active.{cycles_of}
use Rattle.app_occurrences.specs.NamedOccurrences.{work_of}
use Rattle.app_occurrences.proofs.LeastLemmas.{IsAtMost, at_most_trans}
use Rattle.external_dependencies.proofs.OrderLemmas.{name_ties}
use Rattle.planner_machine.specs.declared.content.Draft.{Draft}
use Rattle.planner_machine.specs.Drafts.{IsNamed, NamesDraft, NamesWithin, draft_of}
use Rattle.planner_machine.specs.Plans.{IsLeastApp, IsPlannedApp}
use Rattle.planner_machine.specs.Sound.{AreDefinitions}
use Rattle.planner_machine.proofs.RangeLemmas.{cycle_ranges}
use Rattle.planner_answers.proofs.Finite.{Decided, Finite, Has, decided_any, decided_both, decided_le, decided_lt}
use Rattle.planner_answers.proofs.Finite.{decided_not, decided_so, finite_had, finite_if}
use Rattle.planner_answers.proofs.Finite.{finite_made, finite_none, finite_one, finite_over, finite_so}
use Rattle.planner_answers.proofs.Ordered.{least}
use Rattle.planner_answers.proofs.Orders.{name_at_most}
use Rattle.planner_answers.proofs.Equal.{decided_any_in, decided_name, decided_true}
use Rattle.planner_answers.proofs.Cycles.{finite_occurrences}

pub decided_none : {X : Type 0} (o : Option X) → Decided (o ≡ None)
decided_none None = inl refl
decided_none (Some x) = inr (λ h. cc)

-- the entries of a map
module _ {D : Type 0} (m : map.FinMap (slice_cmp nat_cmp) D) where
  abbrev IsEntry : List ℕ × D → Type 0
  IsEntry e = map.get m e.0 ≡ Some e.1

  at_name : (name : List ℕ) (o : Option D) → map.get m name ≡ o
      → Finite (λ (e : List ℕ × D). (name ≡ e.0) × IsEntry e)
  at_name name None is =
      finite_none (λ e (same, at). let no : None ≡ Some e.1 = sym is ∙ ap (map.get m) same ∙ at in cc)
  at_name name (Some d) is = finite_so to back (finite_one (name, d))
    where
      to : (e : List ℕ × D) → ◌≡◌ {A = List ℕ × D} (name, d) e → (name ≡ e.0) × IsEntry e
      to e same = subst (λ x. (name ≡ x.0) × IsEntry x) same (refl, is)

      back : (e : List ℕ × D) → (name ≡ e.0) × IsEntry e → ◌≡◌ {A = List ℕ × D} (name, d) e
      back e (same, at) =
          let whole : Some d ≡ Some e.1 = sym is ∙ ap (map.get m) same ∙ at in
          let value : d ≡ e.1 = cc in
          λ t. (same t, value t)

  found_in : (name : List ℕ) (es : List (List ℕ × D)) (d : D) → map.find (slice_cmp nat_cmp) name es ≡ Some d
      → (e : List ℕ × D) × Has es e × (e.0 ≡ name)
  found_in name [] d is = let no : None ≡ Some d = is in absurd (let x : ⊥ = cc in x)
  found_in name (e ∷ es) d is =
      first (found_in name es d) (eq_by_cmp (slice_cmp nat_cmp) name e.0) refl
    where
      first : (map.find (slice_cmp nat_cmp) name es ≡ Some d → (x : List ℕ × D) × Has es x × (x.0 ≡ name)) → (b : Bool)
          → eq_by_cmp (slice_cmp nat_cmp) name e.0 ≡ b → (x : List ℕ × D) × Has (e ∷ es) x × (x.0 ≡ name)
      first rest true at = (e, inl refl, sym (name_ties name e.0 ((Equal-is (slice_cmp nat_cmp name e.0)).0 at)))
      first rest false at =
          let (x, there, same) = rest (sym (ap (λ b. cond b (Some e.1) (map.find (slice_cmp nat_cmp) name es)) at) ∙ is) in
          (x, inr there, same)

  pub finite_entries : Finite (λ (e : List ℕ × D). map.get m e.0 ≡ Some e.1)
  finite_entries =
      finite_so
      (λ e (x, there, both). both.1)
      (λ e at. let (x, there, same) = found_in e.0 (map.entries m) e.1 (sym (map.get-entries m e.0) ∙ at) in
      (x, there, (same, at)))
      (finite_over (λ x e. (x.0 ≡ e.0) × IsEntry e) (finite_had (map.entries m))
      (λ x there. at_name x.0 (map.get m x.0) refl))

module _ (all : Definitions) where
  abbrev IsActiveEntry : List ℕ × Application → Type 0
  IsActiveEntry e = IsActive all e.0 e.1

  pub finite_active : Finite (λ (e : List ℕ × Application). IsActive all e.0 e.1)
  finite_active = finite_if (finite_entries all.applications) (λ e at. decided_true e.1.active)

  pub decided_planned : (app : List ℕ) → Decided (IsPlannedApp all app)
  decided_planned app =
      decided_so
      (λ (e, active, same). (e.1, subst (λ n. IsActive all n e.1) same active))
      (λ (a, active). ((app, a), active, refl))
      (decided_any finite_active (λ e active. decided_name e.0 app))

  -- active applications that lack something
  module _ (Lacks : List ℕ → Application → Type 0) (test : (app : List ℕ) (a : Application) → Decided (Lacks app a)) where
    abbrev pub HasNone : List ℕ → Type 0
    HasNone app = (a : Application) × IsActive all app a × Lacks app a

    finite_lacking : Finite HasNone
    finite_lacking =
        finite_so to back (finite_made (λ (e : List ℕ × Application). e.0)
        (finite_if finite_active (λ e active. test e.0 e.1)))
      where
        to : (app : List ℕ) → ((e : List ℕ × Application) × (IsActiveEntry e × Lacks e.0 e.1) × (e.0 ≡ app)) → HasNone app
        to app (e, both, same) = subst HasNone same (e.1, both.0, both.1)

        back : (app : List ℕ) → HasNone app → (e : List ℕ × Application) × (IsActiveEntry e × Lacks e.0 e.1) × (e.0 ≡ app)
        back app (a, active, lacks) = ((app, a), (active, lacks), refl)

    pub decided_lacking : (app : List ℕ) → Decided (HasNone app)
    decided_lacking app =
        decided_so
        (λ (e, active, both). subst HasNone both.1 (e.1, active, both.0))
        (λ (a, active, lacks). ((app, a), active, (lacks, refl)))
        (decided_any finite_active (λ e active. decided_both (test e.0 e.1) (decided_name e.0 app)))

    -- the least of them
    pub least_lacking : Decided ((app : List ℕ) × IsLeastApp HasNone app)
    least_lacking = elim (least IsAtMost at_most_trans finite_lacking (λ x y h k. name_at_most x y)) [
      | inl none ↦ inr (λ (app, is). none app is.0)
      | inr found ↦ inl (found.0, (found.1, found.2))
    ]

  decided_lacks_calendar : (app : List ℕ) (a : Application) → Decided (LacksCalendar all a)
  decided_lacks_calendar app a = by_name a.calendar refl
    where
      by_name : (o : Option (List ℕ)) → a.calendar ≡ o → Decided (LacksCalendar all a)
      by_name None is = inr (λ (name, at, undefined, other). let no : None ≡ Some name = sym is ∙ at in cc)
      by_name (Some own) is =
          decided_so
          (λ (undefined, other). (own, is, undefined, other))
          (λ (name, at, undefined, other).
          let whole : Some own ≡ Some name = sym is ∙ at in
          let same : name ≡ own = cc in
          subst (λ n. (map.get all.calendars n ≡ None) × (n ≢ all.options.default_calendar)) same (undefined, other))
          (decided_both (decided_none (map.get all.calendars own))
          (decided_not (decided_name own all.options.default_calendar)))

  decided_lacks_period : (app : List ℕ) (a : Application) → Decided (LacksPeriod all app)
  decided_lacks_period app a = decided_any_in (cycles_of all app) (λ cycle. decided_none (map.get all.periods cycle.period))

  pub decided_no_calendar : (app : List ℕ) → Decided (HasNoCalendar all app)
  decided_no_calendar = decided_lacking (λ app a. LacksCalendar all a) decided_lacks_calendar

  pub decided_no_period : (app : List ℕ) → Decided (HasNoPeriod all app)
  decided_no_period = decided_lacking (λ app a. LacksPeriod all app) decided_lacks_period

  pub least_no_calendar : Decided ((app : List ℕ) × IsLeastApp (HasNoCalendar all) app)
  least_no_calendar = least_lacking (λ app a. LacksCalendar all a) decided_lacks_calendar

  pub least_no_period : Decided ((app : List ℕ) × IsLeastApp (HasNoPeriod all) app)
  least_no_period = least_lacking (λ app a. LacksPeriod all app) decided_lacks_period

  -- what is named
  abbrev NamedBy : ℕ → List ℕ × Application → Named → Type 0
  NamedBy end e x = IsOccurrenceBetween (cycles_of all e.0) all.periods (work_of all e.1) zero end x

  pub finite_drafts : (first end : ℕ) → Finite (NamesWithin all first end)
  finite_drafts first end =
      finite_so to back
      (finite_if
      (finite_over (λ e draft. (x : Named) × NamedBy end e x × (draft_of e.0 x ≡ draft)) finite_active
      (λ e active. finite_made (draft_of e.0)
      (finite_occurrences all.periods (work_of all e.1) (cycles_of all e.0) zero end)))
      (λ draft h. decided_both (decided_le first draft.key.ia) (decided_lt draft.key.ia end)))
    where
      to : (draft : Draft)
          → ((e : List ℕ × Application) × IsActiveEntry e × ((x : Named) × NamedBy end e x × (draft_of e.0 x ≡ draft)))
          × ((first ≤ draft.key.ia) × (draft.key.ia < end))
          → NamesWithin all first end draft
      to draft ((e, active, (x, between, same)), within) =
          ((e.0, x, (e.1, active, between.2), sym same), within.0, within.1)

      back : (draft : Draft) → NamesWithin all first end draft
          → ((e : List ℕ × Application) × IsActiveEntry e × ((x : Named) × NamedBy end e x × (draft_of e.0 x ≡ draft)))
          × ((first ≤ draft.key.ia) × (draft.key.ia < end))
      back draft ((app, x, (a, active, is), same), from, before) =
          let ia : draft.key.ia ≡ moment_of x.day x.time = ap (λ (d : Draft). d.key.ia) same in
          (((app, a), active, (x, (omega arith, omega (arith, ia, before), is), sym same)), (from, before))

  -- no two run cycles of an application have one name
  module _ (are : AreDefinitions all) where
    own_cycles : (app : List ℕ) (o : Option (List RunCycle)) → map.get all.run_cycles app ≡ o
        → HaveOwnNames (unwrap_or o [])
    own_cycles app None is = λ i j d lt within. absurd (omega (arith, within))
    own_cycles app (Some cycles) is =
        let (rows, good, defined) = are.run_cycles app in
        let whole = subst (λ o. IsDefinedBy AreRunCyclesOf o (records_of app rows)) is defined in
        own_names (λ (cycle : RunCycle). cycle.name) cycles whole.1.rising

    -- one occurrence at a time of an application
    pub one_named : (app : List ℕ) (x y : Named) → IsNamed all app x → IsNamed all app y → x.day ≡ y.day
        → x.time ≡ y.time → x ≡ y
    one_named app x y (a, active, is) (b, active', is') days times =
        let whole : Some a ≡ Some b = sym active.0 ∙ active'.0 in
        let same : b ≡ a = cc in
        one_occurrence (cycles_of all app) all.periods (work_of all a) x y
        (own_cycles app (map.get all.run_cycles app) refl) is
        (subst (λ (z : Application). IsOccurrence (cycles_of all app) all.periods (work_of all z) y) same is') days times

    minute_of : (app : List ℕ) (x : Named) → IsNamed all app x → x.time < 1440
    minute_of app x (a, active, is) =
        let (k, cycle, lt, at, (due, names, name)) = is.given in
        let ranges = cycle_ranges all are app (map.get all.run_cycles app) refl cycle (k, lt, at) in
        let time : cycle.ia ≡ x.time = names.0 in
        let minute = ranges.ia in
        omega (arith, time, minute)

    same_day : (d t d' t' : ℕ) → t < 1440 → t' < 1440 → d * 1440 + t ≡ d' * 1440 + t' → (d ≡ d') × (t ≡ t')
    same_day d t d' t' lt lt' same = (omega arith, omega arith)

    -- one draft of a key
    pub one_draft : (a b : Draft) → NamesDraft all a → NamesDraft all b → a.key ≡ b.key → a ≡ b
    one_draft a b (app, x, named, is) (app', y, named', is') keys =
        let of_x : a.key ≡ (draft_of app x).key = ap (λ (d : Draft). d.key) is in
        let of_y : b.key ≡ (draft_of app' y).key = ap (λ (d : Draft). d.key) is' in
        let both = sym of_x ∙ keys ∙ of_y in
        let apps : app' ≡ app = sym (ap (λ k. k.app) both) in
        let moments : moment_of x.day x.time ≡ moment_of y.day y.time = ap (λ k. k.ia) both in
        let named'' = subst (λ n. IsNamed all n y) apps named' in
        let at = same_day x.day x.time y.day y.time (minute_of app x named) (minute_of app y named'') moments in
        let one : x ≡ y = one_named app x y named named'' at.0 at.1 in
        is ∙ ap (draft_of app) one ∙ ap (λ n. draft_of n y) (sym apps) ∙ sym is'
