-- Which occurrences the first namings of days and times give.
use Rattle.std.proofs.Common.{◌≡◌, ℕ, zero, suc, ◌+◌, ◌<◌, ◌≤◌, ◌⊎◌, ◌↔◌, Bool, List, [], ◌∷◌, ◌++◌, Option, Some}
use Rattle.std.proofs.Common.{None, length, get_or, inl, inr, ⊎_elim, sym, subst, ap, ◌∙◌, refl, arith}
use Rattle.std.specs.Prelude.{All, Any, Contains, IsSomeAnd}
use Rattle.std.proofs.lemmas.Bool.{cases_lt}
use Rattle.std.proofs.lemmas.List.{get_or_default}
use Rattle.std.specs.FinMap as map
use Rattle.plan_periods.specs.declared.periods.Period.{Period}
use Rattle.run_cycles.specs.declared.cycles.CycleType.{CycleType}
use Rattle.run_cycles.specs.declared.cycles.CycleType.TheVariants.{Normal, Negative}
use Rattle.run_cycles.specs.declared.cycles.RunCycle.{RunCycle}
use Rattle.run_cycles.specs.declared.named.Named.{Named}
use Rattle.run_cycles.specs.declared.namings.Given.{Given}
use Rattle.run_cycles.specs.declared.namings.Naming.{Naming}
use Rattle.run_cycles.specs.NamedDay.{NamesDay}
use Rattle.run_cycles.specs.Naming.{DecidesAt, GivesAtMost, InOrder, IsDecidedBefore, IsFirstAt, IsNamingOf}
use Rattle.run_cycles.specs.Naming.{IsNamingWith, IsNotAfter, IsTogether, given_by, named_by}
use Rattle.run_cycles.specs.Occurrence.{PeriodMap, HasDeadline, HaveOwnNames, IsEarlier, IsNameAtMost, IsNegative}
use Rattle.run_cycles.specs.Occurrence.{IsNormal, IsOccurrence, IsOccurrenceBetween, ListsInOrder, NamesAt, TakesAt}
use Rattle.run_cycles.proofs.NameLemmas.{at_most_itself}
use Rattle.run_cycles.proofs.OccurrenceLemmas.{one_occurrence}
use Rattle.run_cycles.proofs.OrderLemmas.{lists_push, lists_same}

-- a place that isn't the first of its day and time decides nothing
pub not_first : (xs : List Naming) (n : ℕ) → n < length xs →
    ¬ ((j : ℕ) (z : Naming) → j + 1 ≡ n → ¬ (IsTogether (get_or xs j z) (get_or xs n z))) →
    (x : Named) → ¬ (DecidesAt xs n x)
not_first xs n in' later x (y, g, in2, first, given, is) =
    later (λ j z e same.
    let at-n : get_or xs n z ≡ y = get_or_default xs n z y in' ∙ first.0 in
    let at-j : get_or xs j z ≡ get_or xs j y = get_or_default xs j z y (omega (arith, e, in')) in
    first.1 j e (subst (λ a. IsTogether a y) at-j (subst (λ b. IsTogether (get_or xs j z) b) at-n same)))

-- what lies in a planned window is planned
pub all_planned : (from to last : ℕ) → to ≤ last → (xs : List Naming) →
    ((x : Naming) → Contains xs x → (from ≤ x.day) × (x.day ≤ to)) → All (λ x. x.day ≤ last) xs
all_planned from to last high xs within k d in' =
    let at = within (get_or xs k d) (k, in', get_or_default xs k _ d in') in
    omega (arith, at.1)

-- ---- namings in order

day_le : (a b : Naming) → IsNotAfter a b → a.day ≤ b.day
day_le a b h = ⊎_elim (λ l. omega (arith, l)) (λ p. let e = p.0 in omega arith) h

time_le : (a b : Naming) → IsNotAfter a b → a.day ≡ b.day → a.time ≤ b.time
time_le a b h same =
    ⊎_elim (λ l. absurd (omega (arith, l, same))) (λ p. ⊎_elim (λ l. omega (arith, l)) (λ q. let e =
    q.0 in omega arith) p.1) h

gives_le : (a b : Naming) → IsNotAfter a b → IsTogether a b → GivesAtMost a.given b.given
gives_le a b h same =
    ⊎_elim
    (λ l. let d = same.0 in absurd (omega (arith, l)))
    (λ p. ⊎_elim (λ l. let t = same.1 in absurd (omega (arith, l))) (λ q. q.1) p.1)
    h

gives_itself : (a : Option Given) → GivesAtMost a a
gives_itself None = tt
gives_itself (Some g) = at_most_itself g.run_cycle

together_or_not : (a b : Naming) → IsTogether a b ⊎ ¬ (IsTogether a b)
together_or_not a b =
    ⊎_elim
    (λ l. inr (λ t. let e = t.0 in absurd (omega (arith, l))))
    (λ g. ⊎_elim
    (λ l. inr (λ t. let e = t.0 in absurd (omega (arith, l))))
    (λ g'. ⊎_elim
    (λ l. inr (λ t. let e = t.1 in absurd (omega (arith, l))))
    (λ k. ⊎_elim
    (λ l. inr (λ t. let e = t.1 in absurd (omega (arith, l))))
    (λ k'. inl (omega (arith, g, g'), omega (arith, k, k')))
    (cases_lt b.time a.time))
    (cases_lt a.time b.time))
    (cases_lt b.day a.day))
    (cases_lt a.day b.day)

module _ (xs : List Naming) (order : InOrder xs) where
  -- what stands before the first of a day and time is of an earlier one
  pub before_first : (n : ℕ) (b : Naming) → IsFirstAt xs n b →
      n < length xs → (k : ℕ) (a : Naming) → get_or xs k a ≡ a → k < n → ¬ (IsTogether a b)
  before_first zero b first in' k a at less same = omega (arith, less)
  before_first (suc m) b first in' k a at less same =
      let c : Naming = get_or xs m b in
      let R : Naming → Naming → Type 0 = IsNotAfter in
      let at-b : get_or xs (suc m) b ≡ b = first.0 in
      let c-b : IsNotAfter c b = subst (λ y. IsNotAfter c y) at-b (order m (suc m) b (omega arith) in') in
      let apart : ¬ (IsTogether c b) = first.1 m (omega arith) in
      ⊎_elim
      (λ (l : k < m).
      let a-c : IsNotAfter a c = subst (λ y. IsNotAfter y c) (sym (get_or_default xs k a b (omega (arith, l, in'))) ∙
      at) (order k m b l (omega (arith, in'))) in
      let day : c.day ≡ b.day = let d = same.0 in omega (arith, day_le a c a-c, day_le c b c-b) in
      let day-a : a.day ≡ c.day = same.0 ∙ sym day in
      let time : c.time ≡ b.time = let t = same.1 in omega (arith, time_le a c a-c day-a, time_le c b c-b day) in
      apart (day, time))
      (λ (g : m ≤ k).
      let e : k ≡ m = omega (arith, g, less) in
      let is : c ≡ a = get_or_default xs m b a (omega (arith, in')) ∙ ap (λ j. get_or xs j a) (sym e) ∙ at in
      apart (subst (λ y. IsTogether y b) (sym is) same))
      (cases_lt k m)

  -- the first of a day and time comes before all others of it
  pub first_gives : (n : ℕ) (b : Naming) → IsFirstAt xs n b →
      n < length xs → (z : Naming) → Contains xs z → IsTogether b z → GivesAtMost b.given z.given
  first_gives n b first in' z (k, in2, at) same =
      ⊎_elim
      (λ (l : k < n). absurd (before_first n b first in' k z at l (sym same.0, sym same.1)))
      (λ (g : n ≤ k). ⊎_elim
      (λ (l : n < k).
      let b-z : IsNotAfter b z = subst (λ y. IsNotAfter b y) at
      (subst (λ y. IsNotAfter y (get_or xs k z)) (get_or_default xs n z b in' ∙ first.0) (order n k z l in2)) in
      gives_le b z b-z same)
      (λ (g' : k ≤ n).
      let e : k ≡ n = omega (arith, g, g') in
      let is : b ≡ z = sym first.0 ∙ get_or_default xs n b z in' ∙ ap (λ j. get_or xs j z) (sym e) ∙ at in
      subst (λ y. GivesAtMost b.given y.given) is (gives_itself b.given))
      (cases_lt n k))
      (cases_lt k n)

  pub first_is_later : (n : ℕ) (b : Naming) → IsFirstAt xs n b →
      n < length xs → (k : ℕ) (a : Naming) → get_or xs k a ≡ a →
      k < n → (a.day < b.day) ⊎ ((a.day ≡ b.day) × (a.time < b.time))
  first_is_later n b first in' k a at less =
      let apart = before_first n b first in' k a at less in
      let a-b : IsNotAfter a b = subst (λ y. IsNotAfter a y) first.0
      (subst (λ y. IsNotAfter y (get_or xs n b)) (get_or_default xs k b a (omega (arith, less, in')) ∙
      at) (order k n b less in')) in
      ⊎_elim (λ l. inl l) (λ p. inr (p.0, ⊎_elim (λ l. l) (λ q. absurd (apart (p.0, q.0))) p.1)) a-b

  -- each naming has a first of its day and time
  pub first_of : (j : ℕ) (z : Naming) → j < length xs → get_or xs j z ≡ z →
      (k : ℕ) × (y : Naming) × (k < length xs) × IsFirstAt xs k y × IsTogether y z
  first_of zero z in' at = (0, z, in', (at, λ j e. absurd (omega (arith, e))), (refl, refl))
  first_of (suc m) z in' at =
      ⊎_elim
      (λ same.
      let c : Naming = get_or xs m z in
      let (k, y, in2, first, together) = first_of m c (omega (
        arith,
        in',
      )) (get_or_default xs m c z (omega (arith, in'))) in
      (k, y, in2, first, (together.0 ∙ same.0, together.1 ∙ same.1)))
      (λ apart. (
        suc m,
        z,
        in',
        (
          at,
          λ j e h. apart (let is : j ≡ m =
              omega (arith, e) in subst (λ i. IsTogether (get_or xs i z) z) is h),
        ),
        (refl, refl),
      ))
      (together_or_not (get_or xs m z) z)

  -- ---- the list of what is decided

  decided_later : (n : ℕ) (x : Named) → DecidesAt xs n x → (y : Named) → IsDecidedBefore xs n y → IsEarlier y x
  decided_later n x (b, h, in', first, given, is) y (k, less, by) =
      let (a, g, in2, first2, given2, is2) = by in
      let later = first_is_later n b first in' k a first2.0 less in
      let day-x : x.day ≡ b.day = ap (λ z. z.day) is in
      let day-y : y.day ≡ a.day = ap (λ z. z.day) is2 in
      let time-x : x.time ≡ b.time = ap (λ z. z.time) is in
      let time-y : y.time ≡ a.time = ap (λ z. z.time) is2 in
      ⊎_elim (λ l. inl (omega (arith, l))) (λ p. inr (day-y ∙ p.0 ∙ sym day-x, let l = p.1 in omega arith)) later

  next_or_before : (n : ℕ) (x : Named) → IsDecidedBefore xs (n + 1) x ↔ (IsDecidedBefore xs n x ⊎ DecidesAt xs n x)
  next_or_before n x = (
    (λ (k, less, at).
        ⊎_elim
        (λ (l : k < n). inl (k, l, at))
        (λ (g : n ≤ k). let e : k ≡ n = omega (arith, g, less) in inr (subst (λ j. DecidesAt xs j x) e at))
        (cases_lt k n)),
    λ s. ⊎_elim (λ (k, less, at). (k, omega (arith, less), at)) (λ at. (n, omega arith, at)) s,
  )

  pub decided_stays : (n : ℕ) (list : List Named) → ((x : Named) → ¬ (DecidesAt xs n x)) →
      ListsInOrder (IsDecidedBefore xs n) list → ListsInOrder (IsDecidedBefore xs (n + 1)) list
  decided_stays n list none h =
      lists_same (IsDecidedBefore xs n) (IsDecidedBefore xs (n + 1)) list h
      (λ x. (
        (λ b. (next_or_before n x).1 (inl b)),
        λ b. ⊎_elim
            (λ a. a) (λ d. absurd (none x d)) ((next_or_before n x).0 b),
      ))

  pub decided_grows : (n : ℕ) (list : List Named) (new : Named) →
      DecidesAt xs n new → ((x : Named) → DecidesAt xs n x → new ≡ x) →
      ListsInOrder (IsDecidedBefore xs n) list → ListsInOrder (IsDecidedBefore xs (n + 1)) (list ++ new ∷ [])
  decided_grows n list new at only h =
      lists_push (IsDecidedBefore xs n) (IsDecidedBefore xs (n + 1)) list new h (decided_later n new at)
      (λ y. (
        (λ b. ⊎_elim (λ a. inl a) (λ d. inr (only y d)) ((next_or_before n y).0 b)),
        λ s. (next_or_before n y).1 (⊎_elim (λ a. inl a) (λ e. inr (subst (λ x. DecidesAt xs n x) e at)) s),
      ))

-- ---- what run cycles give and take

given_normal : (kind : CycleType) (name : List ℕ) (g : Given) →
    Some g ≡ given_by kind name → HasDeadline kind g.deadline × (g.run_cycle ≡ name)
given_normal (Normal own) name g e =
    let is : g ≡ record { run_cycle = name; deadline = own } = cc in
    (ap (λ h. h.deadline) is, ap (λ h. h.run_cycle) is)
given_normal (Negative own) name g e = cc

taken_negative : (kind : CycleType) (name : List ℕ) → None ≡ given_by kind name → IsNegative kind
taken_negative (Normal own) name e = cc
taken_negative (Negative own) name e = tt

normal_at_most : (kind : CycleType) (name : List ℕ) (g : Given) →
    IsNormal kind → GivesAtMost (Some g) (given_by kind name) → IsNameAtMost g.run_cycle name
normal_at_most (Normal own) name g n h = h
normal_at_most (Negative own) name g n h = absurd n

negative_first : (kind : CycleType) (name : List ℕ) (g : Given) →
    IsNegative kind → ¬ (GivesAtMost (Some g) (given_by kind name))
negative_first (Normal own) name g n h = n
negative_first (Negative own) name g n h = h

naming_parts : (o : Option Period) (work : ℕ → Bool) (x : Naming) (c : RunCycle) →
    IsSomeAnd o (λ p. IsNamingWith p work x c) → (x.time ≡ c.ia) ×
    (x.given ≡ given_by c.kind c.name) × IsSomeAnd o (λ p. NamesDay c p work x.day)
naming_parts None work x c h = absurd h
naming_parts (Some p) work x c h = (h.0, h.1, h.2)

parts_naming : (o : Option Period) (work : ℕ → Bool) (x : Naming) (c : RunCycle) →
    x.time ≡ c.ia → x.given ≡ given_by c.kind c.name → IsSomeAnd o (λ p. NamesDay c p work x.day) →
    IsSomeAnd o (λ p. IsNamingWith p work x c)
parts_naming None work x c t g h = absurd h
parts_naming (Some p) work x c t g h = (t, g, h)

module _ (cycles : List RunCycle) (periods : PeriodMap) (work : ℕ →
    Bool) (from to : ℕ) (xs : List Naming) (order : InOrder xs) (each : (x : Naming) →
    Contains xs x ↔ ((from ≤ x.day) × (x.day ≤ to) × Any (IsNamingOf periods work x) cycles)) where
  -- a run cycle that names a day and time stands in the list
  stands : (c : RunCycle) (d t : ℕ) → Contains cycles c → from ≤ d →
      d ≤ to → NamesAt periods work d t c → Contains xs (record { day = d; time = t; given = given_by c.kind c.name })
  stands c d t (k, in', at) low high names =
      let z : Naming = record { day = d; time = t; given = given_by c.kind c.name } in
      (each z).1 (
        low,
        high,
        (
          k,
          c,
          in',
          at,
          parts_naming (map.get periods c.period) work z c
              (sym names.0) refl names.1,
        ),
      )

  -- the occurrence that the first of a day and time gives
  gives_occurrence : (k : ℕ) (y : Naming) (g : Given) → k < length xs →
      IsFirstAt xs k y → y.given ≡ Some g → IsOccurrenceBetween cycles periods work from to
      (named_by y.day y.time g)
  gives_occurrence k y g in' first given =
      let here = (each y).0 (k, in', first.0) in
      let low : from ≤ y.day = here.0 in
      let high : y.day ≤ to = here.1 in
      let (i, c, in-c, at-c, naming) = here.2 in
      let parts = naming_parts (map.get periods c.period) work y c naming in
      let normal = given_normal c.kind c.name g (sym given ∙ parts.1) in
      let reaches : (e : RunCycle) → Contains cycles e → NamesAt periods work y.day y.time e →
      GivesAtMost (Some g) (given_by e.kind e.name)
      = λ e in-e names.
      subst (λ o. GivesAtMost o (given_by e.kind e.name)) given
      (first_gives xs order k y first in' (record {
        day = y.day;
        time = y.time;
        given = given_by e.kind e.name;
      }) (stands e y.day y.time in-e low high names) (refl, refl)) in (
        low,
        omega (arith, high),
        record {
          given = (i, c, in-c, at-c, ((g.deadline, normal.0, refl), (sym parts.0, parts.2), normal.1));
          least = λ j d in-j h.
              let e = get_or cycles j d in
              normal_at_most e.kind e.name g h.0 (reaches e (j, in-j, get_or_default cycles j e d in-j) h.1);
          kept = λ j d in-j h.
              let e = get_or cycles j d in
              negative_first e.kind e.name g h.0 (reaches e (j, in-j, get_or_default cycles j e d in-j) h.1);
        },
      )

  decided_occurs : (x : Named) → IsDecidedBefore xs (length xs) x →
      IsOccurrenceBetween cycles periods work from to x
  decided_occurs x (k, less, by) =
      let (y, g, in', first, given, is) = by in
      subst (λ z. IsOccurrenceBetween cycles periods work from to z)
      (sym is) (gives_occurrence k y g in' first given)

  -- the first of an occurrence's day and time takes nothing away
  not_taken : (x : Named) (y : Naming) → IsOccurrence cycles periods work x →
      Contains xs y → y.day ≡ x.day → y.time ≡ x.time → y.given ≡ None → ⊥
  not_taken x y occurs in' day time none =
      let (i, c, in-c, at-c, naming) = ((each y).0 in').2 in
      let parts = naming_parts (map.get periods c.period) work y c naming in
      let negative = taken_negative c.kind c.name (sym none ∙ parts.1) in
      let names : NamesAt periods work x.day x.time c = (
        sym parts.0 ∙
            time,
        let P : ℕ → Type 0 = λ d. IsSomeAnd (map.get periods c.period) (λ p. NamesDay c p work d) in
            subst P day parts.2,
      ) in
      let P : RunCycle → Type 0 = λ e. ¬ (TakesAt periods work x.day x.time e) in
      subst P at-c (occurs.kept i c in-c) (negative, names)

  some_or_none : (o : Option Given) → (o ≡ None) ⊎ ((g : Given) × (o ≡ Some g))
  some_or_none None = inl refl
  some_or_none (Some g) = inr (g, refl)

  occurs_decided : HaveOwnNames cycles → (x : Named) → IsOccurrenceBetween cycles periods work from to x →
      IsDecidedBefore xs (length xs) x
  occurs_decided own x (low, high, occurs) =
      let (i, c, in-c, at-c, by) = occurs.given in
      let (due, names, name) = by in
      let z : Naming = record { day = x.day; time = x.time; given = given_by c.kind c.name } in
      let (j, in-j, at-j) = stands c x.day x.time (i, in-c, at-c) low (omega (arith, high)) names in
      let (k, y, in-k, first, same) = first_of xs order j z in-j at-j in
      ⊎_elim
      (λ none. absurd (not_taken x y occurs (k, in-k, first.0) same.0 same.1 none))
      (λ (g, given).
      let there = gives_occurrence k y g in-k first given in
      let is : x ≡ named_by y.day y.time g = one_occurrence cycles periods work x
      (named_by y.day y.time g) own occurs there.2 (sym same.0) (sym same.1) in
      (k, in-k, (y, g, in-k, first, given, is)))
      (some_or_none y.given)

  -- the list of what is decided is that of the occurrences
  pub lists_decided : HaveOwnNames cycles → (list : List Named) →
      ListsInOrder (IsDecidedBefore xs (length xs)) list → ListsInOrder
      (IsOccurrenceBetween cycles periods work from to) list
  lists_decided own list h =
      lists_same (IsDecidedBefore xs (length xs)) (IsOccurrenceBetween cycles periods work from to) list h
      (λ x. (decided_occurs x, occurs_decided own x))
