-- What run cycles name, as lists of days and times.
use Rattle.std.proofs.Common.{◌≡◌, ℕ, ◌+◌, ◌<◌, ◌≤◌, ◌⊎◌, ◌↔◌, Bool, List, [], ◌∷◌, ◌++◌, map, Option, Some}
use Rattle.std.proofs.Common.{length, get_or, take, inl, inr, ⊎_elim, sym, subst, ap, ◌∙◌, arith}
use Rattle.std.specs.Prelude.{AllPairs, Any, Contains, IsSomeAnd}
use Rattle.std.proofs.lemmas.List.{get_or-map, length-map, take_more, take_all}
use Rattle.std.proofs.lemmas.List.Elements.{Contains-append_left, Contains-push, Contains-push_cases}
use Rattle.plan_periods.specs.declared.periods.Period.{Period}
use Rattle.run_cycles.specs.declared.cycles.RunCycle.{RunCycle}
use Rattle.run_cycles.specs.declared.namings.Given.{Given}
use Rattle.run_cycles.specs.declared.namings.Naming.{Naming}
use Rattle.run_cycles.specs.Jump.{ListsNamedDays}
use Rattle.run_cycles.specs.Naming.{AddsNamings, IsNamingWith, RisesByDay, given_by, naming_on}

module _ (t : ℕ) (g : Option Given) where
  -- the days as namings at a time
  pub on_days : (days : List ℕ) (x : Naming) → Contains (map (naming_on t g) days) x ↔
      (Contains days x.day × (x.time ≡ t) × (x.given ≡ g))
  on_days days x = (
    (λ h.
        let (k, in', at) = h in
        let inside : k < length days = omega (arith, length-map days (naming_on t g), in') in
        let is : naming_on t g (get_or days k x.day) ≡ x = sym (get_or-map (naming_on t g) days k x.day x inside) ∙
        at in
        ((k, inside, ap (λ y. y.day) is), sym (ap (λ y. y.time) is), sym (ap (λ y. y.given) is))),
    λ h.
        let (k, in', at) = h.0 in
        let inside : k < length (map (naming_on t g) days) = omega (arith, length-map days (naming_on t g), in') in
        let is : naming_on t g x.day ≡ x = λ i. record { day = x.day; time = sym h.1 i; given = sym h.2 i } in
        (k, inside, get_or-map (naming_on t g) days k x.day x in' ∙ ap (naming_on t g) at ∙ is),
  )

  pub on_rising_days : (days : List ℕ) → AllPairs (λ a b. a < b) days → RisesByDay (map (naming_on t g) days)
  on_rising_days days rising i j d i<j in' =
      let inside : j < length days = omega (arith, length-map days (naming_on t g), in') in
      let at-i : get_or (map (naming_on t g) days) i d ≡ naming_on t g (get_or days i 0) =
      get_or-map (naming_on t g) days i 0 d (omega (arith, i<j, inside)) in
      let at-j : get_or (map (naming_on t g) days) j d ≡ naming_on t g (get_or days j 0) =
      get_or-map (naming_on t g) days j 0 d inside in
      let less : get_or days i 0 < get_or days j 0 = rising i j 0 i<j inside in
      let day-i : (get_or (map (naming_on t g) days) i d).day ≡ get_or days i 0 = ap (λ y. y.day) at-i in
      let day-j : (get_or (map (naming_on t g) days) j d).day ≡ get_or days j 0 = ap (λ y. y.day) at-j in
      omega arith

-- what a run cycle names, by its days
pub cycle_names : (cycle : RunCycle) (period : Period) (work : ℕ →
    Bool) (from to : ℕ) (days : List ℕ) (list : List Naming) →
    ListsNamedDays cycle period work from to days → list ≡ map
    (naming_on cycle.ia (given_by cycle.kind cycle.name)) days →
    (x : Naming) → Contains list x ↔ ((from ≤ x.day) × (x.day ≤ to) × IsNamingWith period work x cycle)
cycle_names cycle period work from to days list lists is x =
    let P : List Naming → Type 0 = λ l. Contains l x in
    let on = on_days cycle.ia (given_by cycle.kind cycle.name) days x in (
      (λ h.
          let (in', time, given) = on.0 (subst P is h) in
          let (low, high, named) = (lists.exactly x.day).0 in' in
          (low, high, (time, given, named))),
      λ (low, high, naming).
          let (time, given, named) = naming in
          subst P (sym is) (on.1 ((lists.exactly x.day).1 (low, high, named), time, given)),
    )

-- ---- lists of namings that grow

any_of : {X : Type 0} (P : X → Type 0) (xs : List X) (x : X) → Contains xs x → P x → Any P xs
any_of P xs x h p = (h.0, x, h.1, h.2, p)

pub any_pushed : {X : Type 0} (P : X → Type 0) (xs : List X) (y : X) → Any P (xs ++ y ∷ []) ↔ (Any P xs ⊎ P y)
any_pushed P xs y = (
  (λ h. ⊎_elim (λ a. inl (any_of P xs h.1 a h.4)) (λ e. inr (subst P (sym e) h.4))
      (Contains-push_cases xs y h.1 (h.0, h.2, h.3))),
  λ s. ⊎_elim (λ a. any_of P (xs ++ y ∷ []) a.1 (Contains-append_left xs (y ∷ []) a.1 (a.0, a.2, a.3)) a.4)
      (λ p. any_of P (xs ++ y ∷ []) y (Contains-push xs y) p) s,
)

pub adds_list : (P : Naming → Type 0) (old new : List (List Naming)) (list : List Naming) →
    new ≡ old ++ list ∷ [] → ((x : Naming) → Contains list x ↔ P x) → AddsNamings P old new
adds_list P old new list is says x =
    let Q : List (List Naming) → Type 0 = λ l. Any (λ s. Contains s x) l in
    let pushed = any_pushed (λ (s : List Naming). Contains s x) old list in (
      (λ h. ⊎_elim (λ o. inl o) (λ c. inr ((says x).0 c)) (pushed.0 (subst Q is h))),
      λ s. subst Q (sym is) (pushed.1 (⊎_elim (λ o. inl o) (λ p. inr ((says x).1 p)) s)),
    )

-- the lists of the first n run cycles
abbrev pub FirstLists : (RunCycle → Naming → Type 0) → List RunCycle → ℕ → List (List Naming) → Type 0
FirstLists G cycles n lists =
    (x : Naming) → Any (λ list. Contains list x) lists ↔ Any (λ cycle. G cycle x) (take n cycles)

module _ (G : RunCycle → Naming → Type 0) (cycles : List RunCycle) where
  pub more_lists : (n : ℕ) (c : RunCycle) → n < length cycles →
      get_or cycles n c ≡ c → (old new : List (List Naming)) →
      FirstLists G cycles n old → AddsNamings (G c) old new → FirstLists G cycles (n + 1) new
  more_lists n c in' at old new before adds x =
      let more : take (n + 1) cycles ≡ take n cycles ++ c ∷ [] =
      take_more cycles n c in' ∙ ap (λ y. take n cycles ++ y ∷ []) at in
      let Q : List RunCycle → Type 0 = λ l. Any (λ cycle. G cycle x) l in
      let pushed = any_pushed (λ cycle. G cycle x) (take n cycles) c in (
        (λ h. subst Q (sym more) (pushed.1 (⊎_elim (λ o. inl ((before x).0 o)) (λ p. inr p) ((adds x).0 h)))),
        λ h. (adds x).1 (⊎_elim (λ o. inl ((before x).1 o)) (λ p. inr p) (pushed.0 (subst Q more h))),
      )

  pub all_lists : (n : ℕ) (lists : List (List Naming)) → length cycles ≤ n →
      FirstLists G cycles n lists → (x : Naming) → Any (λ list. Contains list x) lists ↔ Any (λ cycle. G cycle x) cycles
  all_lists n lists whole h =
      let P : List RunCycle → Type 0 = λ l. (x : Naming) → Any (λ list. Contains list x) lists ↔
      Any (λ cycle. G cycle x) l in
      subst P (take_all n cycles whole) h

-- a day of the window at which some run cycle is so
pub window_any : (from to : ℕ) (P : RunCycle → Naming → Type 0) (cycles : List RunCycle) (x : Naming) →
    Any (λ cycle. (from ≤ x.day) × (x.day ≤ to) × P cycle x) cycles ↔
    ((from ≤ x.day) × (x.day ≤ to) × Any (λ cycle. P cycle x) cycles)
window_any from to P cycles x = (
  (λ (k, c, in', at, h). (h.0, h.1, (k, c, in', at, h.2))),
  λ (low, high, any). let (k, c, in', at, p) = any in (k, c, in', at, (low, high, p)),
)

pub some_period : (o : Option Period) (p : Period) (P : Period → Type 0) → o ≡ Some p → P p ↔ IsSomeAnd o P
some_period o p P is = let Q : Option Period → Type 0 = λ q. P p ↔ IsSomeAnd q P in subst Q (sym is) ((λ h. h), λ h. h)
