-- Deletions that are found by their arrivals.
use Rattle.std.proofs.Common.{◌≡◌, ◌⊎◌, ◌↔◌, ℕ, zero, suc, Bool, true, false, List, [], ◌∷◌, ◌++◌, None, Option, Some}
use Rattle.std.proofs.Common.{get_or, length, ap, refl, sym, subst, ◌∙◌, inl, inr, arith}
use Rattle.std.proofs.Math.Logic.{∥∥₁_elim, ∥∥₁_map}
use Rattle.std.specs.Prelude.{IfSome, if◌then◌else◌}
use Rattle.std.specs.List.{Contains}
use Rattle.std.specs.Ordering.{is_eq}
use Rattle.std.specs.declared.cmp.Ordering.TheVariants.{Less}
use Rattle.std.proofs.lemmas.Cmp.{tied_itself}
use Rattle.std.proofs.lemmas.List.{append_assoc, append-nil}
use Rattle.std.proofs.lemmas.List.Elements.{Contains-append_cases, Contains-append_left, Contains-append_right}
use Rattle.std.proofs.lemmas.List.Elements.{Contains-get_or}
use Rattle.std.proofs.lemmas.List.Kept.{AllPairs-cons}
use Rattle.sqlite.specs.State.{State}
use Rattle.occurrences.specs.declared.place.Deletion.{Deletion}
use Rattle.external_dependencies.specs.Arrival.{arrival_cmp}
use Rattle.external_dependencies.specs.Nearest.{arrival_of}
use Rattle.external_dependencies.specs.declared.live.Arrival.{Arrival}
use Rattle.external_dependencies.proofs.NearestLemmas.{arrival_ties, arrival_total}
use Rattle.planner_machine.specs.Content.{Content}
use Rattle.planner_machine.specs.Moves.{or_else}
use Rattle.plan_store_lists.specs.Keyed.{IsKeyed, holds_key}
use Rattle.plan_store_lists.specs.Rows.{look_up, of_deletion}
use Rattle.plan_store_lists.proofs.ArrivalBlockLemmas.{arrival_held, itself}
use Rattle.plan_store_lists.proofs.KeyLemmas.{contains_cases, contains_first, contains_later, holds_has, nothing}
use Rattle.plan_store_lists.proofs.KeyLemmas.{one_is}
use Rattle.plan_store_lists.proofs.LookLemmas.{look_some}
use Rattle.plan_store_lists.proofs.SeatLemmas.{equal_from}
use Rattle.plan_store.specs.AppDeletions.{AreDeletionsOf}
use Rattle.plan_store.specs.Changes.{FitsSet, moved_set}
use Rattle.plan_store.specs.declared.changes.Moves.{Moves}
use Rattle.plan_tables.specs.Gone.{HasArrivals, NotesAll, of_arrival, of_arrivals}
use Rattle.plan_tables.specs.Kept.{CanRead, LooksOn, NotesIn}
use Rattle.plan_tables.proofs.SetLemmas.{test_prop}

-- ---- a deletion by its arrival

abbrev is_at : Deletion → Arrival → Bool
is_at d arrival = is_eq (arrival_cmp (arrival_of d.row) arrival)

at_is : (d : Deletion) (arrival : Arrival) → is_at d arrival ≡ true → arrival_of d.row ≡ arrival
at_is d arrival is = arrival_ties (arrival_of d.row) arrival (equal_from (arrival_cmp (arrival_of d.row) arrival) is)

of_come : (arrival : Arrival) (o : Option Deletion) (d : Deletion) → Contains (of_arrival arrival o) d
    → (o ≡ Some d) × (arrival_of d.row ≡ arrival)
of_come arrival None d there = absurd (nothing d there)
of_come arrival (Some x) d there = elim (is_at x arrival) as (λ b. is_at x arrival ≡ b
    → Contains (if b then x ∷ [] else []) d → (Some x ≡ Some d) × (arrival_of d.row ≡ arrival)) [
      | true ↦ λ is at.
          let same : x ≡ d = one_is x d at in
          (ap Some same, subst (λ (y : Deletion). arrival_of y.row ≡ arrival) same (at_is x arrival is))
      | false ↦ λ is at. absurd (nothing d at)
    ] refl there

of_has : (d : Deletion) → Contains (of_arrival (arrival_of d.row) (Some d)) d
of_has d =
    let same : is_at d (arrival_of d.row) ≡ true = ap is_eq (tied_itself arrival_total (arrival_of d.row)) in
    subst (λ b. Contains (if b then d ∷ [] else []) d) (sym same) (contains_first d [])

abbrev AreKeyed : List Deletion → Type 0
AreKeyed found = IsKeyed arrival_cmp (λ (d : Deletion). arrival_of d.row) found

one_more : (arrival : Arrival) (o : Option Deletion) (rest : List Deletion)
    → ((d : Deletion) → Contains rest d → arrival_cmp arrival (arrival_of d.row) ≡ Less) → AreKeyed rest
    → AreKeyed (of_arrival arrival o ++ rest)
one_more arrival None rest below rise = rise
one_more arrival (Some x) rest below rise = elim (is_at x arrival) as (λ b. is_at x arrival ≡ b
    → AreKeyed ((if b then x ∷ [] else []) ++ rest)) [
      | true ↦ λ is. AllPairs-cons (λ (p q : Deletion). arrival_cmp (arrival_of p.row) (arrival_of q.row) ≡ Less) x rest
          (λ k d lt. subst (λ (y : Arrival). arrival_cmp y (arrival_of (get_or rest k d).row) ≡ Less)
          (sym (at_is x arrival is)) (below (get_or rest k d) (Contains-get_or rest k d lt))) rise
      | false ↦ λ is. rise
    ] refl

first_below : (arrival : Arrival) (rest : List Arrival) → IsKeyed arrival_cmp itself (arrival ∷ rest) → (z : Arrival)
    → Contains rest z → arrival_cmp arrival z ≡ Less
first_below arrival rest rise z (k, lt, at) =
    subst (λ y. arrival_cmp arrival y ≡ Less) at (rise zero (suc k) z (omega arith) (omega arith))

-- ---- deletions by their arrivals

module _ (deletions : ℕ → Option Deletion) where
  found_come : (arrivals : List Arrival) (d : Deletion) → Contains (of_arrivals deletions arrivals) d
      → Contains arrivals (arrival_of d.row) × (deletions d.row.serial ≡ Some d)
  found_come [] d there = absurd (nothing d there)
  found_come (a ∷ arrivals) d there = elim (Contains-append_cases (of_arrival a (deletions a.serial))
      (of_arrivals deletions arrivals) d there) [
        | inl own ↦
            let both = of_come a (deletions a.serial) d own in (
              subst (λ (x : Arrival). Contains (x ∷ arrivals) (arrival_of d.row)) both.1
                  (contains_first (arrival_of d.row) arrivals),
              subst (λ (x : Arrival). deletions x.serial ≡ Some d) (sym both.1) both.0,
            )
        | inr later ↦
            let rest = found_come arrivals d later in
            (contains_later a (arrival_of d.row) arrivals rest.0, rest.1)
      ]

  found_has : (arrivals : List Arrival) (d : Deletion) → Contains arrivals (arrival_of d.row)
      → deletions d.row.serial ≡ Some d → Contains (of_arrivals deletions arrivals) d
  found_has [] d there is = absurd (nothing (arrival_of d.row) there)
  found_has (a ∷ arrivals) d there is = elim (contains_cases a (arrival_of d.row) arrivals there) [
    | inl same ↦ Contains-append_left (of_arrival a (deletions a.serial)) (of_arrivals deletions arrivals) d
        (subst (λ (x : Arrival). Contains (of_arrival x (deletions x.serial)) d) (sym same)
        (subst (λ (o : Option Deletion). Contains (of_arrival (arrival_of d.row) o) d) (sym is) (of_has d)))
    | inr later ↦ Contains-append_right (of_arrival a (deletions a.serial)) (of_arrivals deletions arrivals) d
        (found_has arrivals d later is)
  ]

  found_keyed : (arrivals : List Arrival) → IsKeyed arrival_cmp itself arrivals → AreKeyed (of_arrivals deletions arrivals)
  found_keyed [] rise = λ i j d below lt. absurd (omega arith)
  found_keyed (a ∷ arrivals) rise = one_more a (deletions a.serial) (of_arrivals deletions arrivals)
      (λ d there. first_below a arrivals rise (arrival_of d.row) (found_come arrivals d there).0)
      (found_keyed arrivals (λ i j d below lt. rise (suc i) (suc j) d (omega arith) (omega arith)))

  -- those of the arrivals of an application are its deletions
  pub found_are : (app : List ℕ) (noted arrivals : List Arrival) (found : List Deletion)
      → IsKeyed arrival_cmp itself arrivals
      → ((a : Arrival) → Contains arrivals a ↔ (Contains noted a × (a.app ≡ app))) → HasArrivals deletions noted
      → found ≡ of_arrivals deletions arrivals → AreDeletionsOf app deletions found
  found_are app noted arrivals found keyed all has is = subst (AreDeletionsOf app deletions) (sym is) (record {
    keyed = found_keyed arrivals keyed;
    exactly = λ d. (
      (λ there. let rest = found_come arrivals d there in (rest.1, ((all (arrival_of d.row)).0 rest.0).1)),
      λ both. found_has arrivals d ((all (arrival_of d.row)).1 (arrival_held noted (arrival_of d.row) (has d.row.serial d both.0), both.1))
          both.0,
    );
  })

-- ---- arrivals that are noted

held : (noted : List Arrival) (arrival : Arrival) → Contains noted arrival
    → holds_key arrival_cmp itself noted arrival ≡ true
held noted arrival there = holds_has arrival_total arrival_ties itself noted arrival there

-- what was noted stays noted
pub noted_later : (all : ℕ → Option Deletion) (was now : List Arrival)
    → ((a : Arrival) → Contains was a → Contains now a) → HasArrivals all was → HasArrivals all now
noted_later all was now stay had = λ serial d is.
    held now (arrival_of d.row) (stay (arrival_of d.row) (arrival_held was (arrival_of d.row) (had serial d is)))

-- where they are known, those of an application tell its deletions
pub found_noted : (gone : Option (List Arrival)) (all : ℕ → Option Deletion) (Can : Type 0) (app : List ℕ)
    (arrivals : List Arrival) (found : List Deletion) → IsKeyed arrival_cmp itself arrivals
    → IfSome gone (λ noted. (a : Arrival) → Contains arrivals a ↔ (Contains noted a × (a.app ≡ app)))
    → ∥ (Can → NotesAll all gone) ∥₁ → Can → found ≡ of_arrivals all arrivals
    → IfSome gone (λ _. AreDeletionsOf app all found)
found_noted None all Can app arrivals found keyed are had can is = tt
found_noted (Some noted) all Can app arrivals found keyed are had can is =
    found_are all app noted arrivals found keyed are
    (λ serial d at. ∥∥₁_elim had (test_prop _ _) (λ h. h can serial d at)) is

-- of all items of a list
pub noted_all : (gone : Option (List Arrival)) (xs : List Deletion) (all : ℕ → Option Deletion)
    → ((serial : ℕ) (d : Deletion) → all serial ≡ Some d → Contains xs d)
    → IfSome gone (λ noted. (d : Deletion) → Contains xs d → Contains noted (arrival_of d.row)) → NotesAll all gone
noted_all None xs all among notes = tt
noted_all (Some noted) xs all among notes = λ serial d is. held noted (arrival_of d.row) (notes d (among serial d is))

cases_moved : (put changed rest : Option Deletion) (goes : Bool) (d : Deletion)
    → or_else put (or_else changed (if goes then None else rest)) ≡ Some d
    → (put ≡ Some d) ⊎ ((changed ≡ Some d) ⊎ (rest ≡ Some d))
cases_moved (Some x) changed rest goes d is = inl is
cases_moved None (Some x) rest goes d is = inr (inl is)
cases_moved None None rest true d is = absurd (let h : ⊥ = cc is in h)
cases_moved None None rest false d is = inr (inr is)

-- after moves of which those that are put are noted
pub noted_moved : (moves : Moves Deletion) (all : ℕ → Option Deletion) (gone : Option (List Arrival))
    → FitsSet of_deletion moves all → NotesAll all gone
    → IfSome gone (λ noted. (d : Deletion) → Contains moves.put.items d → Contains noted (arrival_of d.row))
    → NotesAll (moved_set of_deletion moves all) gone
noted_moved moves all None fits had notes = tt
noted_moved moves all (Some noted) fits had notes = λ serial d is.
    elim (cases_moved (look_up (λ (x : Deletion). x.row.serial) moves.put.items serial)
    (look_up (λ (x : Deletion). x.row.serial) moves.changed.items serial) (all serial) _ d is) [
      | inl put ↦ held noted (arrival_of d.row)
          (notes d (look_some (λ (x : Deletion). x.row.serial) moves.put.items serial d put).0)
      | inr other ↦ elim other [
        | inl changed ↦
            let was = fits.changes d (look_some (λ (x : Deletion). x.row.serial) moves.changed.items serial d changed).0 in
            subst (λ (a : Arrival). holds_key arrival_cmp itself noted a ≡ true) was.2 (had d.row.serial was.0 was.1)
        | inr stays ↦ had serial d stays
      ]
    ]

-- a store that looks on has noted what it had
pub noted_on : (old new : State) (was now : Content) (gone : Option (List Arrival)) → LooksOn old new was now
    → NotesIn old gone → NotesIn new gone
noted_on old new was now gone looks noted = ∥∥₁_map noted (λ h can.
    let before : CanRead old = (looks.clean can.0, looks.opens can.0 can.1) in
    subst (λ (all : ℕ → Option Deletion). NotesAll all gone) (sym (ap (λ (k : Content). k.sets.deletions) (looks.same can)))
    (h before))

-- ---- arrivals that are looked up one after another

pub of_more : (all : ℕ → Option Deletion) (first : List Arrival) (arrival : Arrival)
    → of_arrivals all (first ++ arrival ∷ []) ≡ of_arrivals all first ++ of_arrival arrival (all arrival.serial)
of_more all [] arrival = append-nil (of_arrival arrival (all arrival.serial))
of_more all (a ∷ first) arrival = ap (λ l. of_arrival a (all a.serial) ++ l) (of_more all first arrival)
    ∙ sym (append_assoc (of_arrival a (all a.serial)) (of_arrivals all first)
    (of_arrival arrival (all arrival.serial)))

pub no_arrivals : (all : ℕ → Option Deletion) (arrivals : List Arrival) → length arrivals ≡ 0
    → [] ≡ of_arrivals all arrivals
no_arrivals all [] none = refl
no_arrivals all (a ∷ arrivals) none = absurd (let h : ⊥ = omega (arith, none) in h)
