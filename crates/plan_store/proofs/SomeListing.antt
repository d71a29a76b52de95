-- There is a listing of a content, also where none is made.
use Rattle.std.proofs.Common.{◌≡◌, ◌↔◌, ◌⊎◌, ◌∙◌, ℕ, zero, suc, ◌≤◌, Bool, true, false, List, [], ◌∷◌, arith, filter}
use Rattle.std.proofs.Common.{get_or, inl, inr, map, refl, subst, sym, Option, None, Some}
use Rattle.std.specs.Prelude.{nat_eq}
use Rattle.std.specs.Cmp.Lexicographic.{bytes_decides, pointwise}
use Rattle.std.specs.List.{Contains}
use Rattle.std.specs.declared.cmp.Ordering.TheVariants.{Less}
use Rattle.std.proofs.lemmas.Bool.{cases_eq}
use Rattle.std.proofs.lemmas.List.Elements.{Contains-get_or}
use Rattle.std.proofs.lemmas.List.Kept.{AllPairs-cons, AllPairs-filter}
use Rattle.occurrences.specs.declared.place.Place.{Place}
use Rattle.occurrences.specs.declared.place.Place.TheVariants.{LongTerm, Current, History, Deleted}
use Rattle.occurrences.specs.declared.row.Row.{Row}
use Rattle.external_dependencies.specs.Link.{link_cmp}
use Rattle.external_dependencies.specs.Pair.{pair_cmp}
use Rattle.external_dependencies.specs.Rising.{IsRising}
use Rattle.external_dependencies.specs.declared.links.Link.{Link}
use Rattle.external_dependencies.specs.declared.rows.PlacedRow.{PlacedRow}
use Rattle.planner_machine.specs.Content.{Content, Sets, IsOnlyAt}
use Rattle.planner_machine.specs.Shown.{CurrentPlan, InDeletions, InHistory, IsListed, IsOfApp, IsPlaceOf, Listed}
use Rattle.planner_machine.specs.Shown.{ListsLinks, ListsRows, LongTermPlan}
use Rattle.planner_machine.specs.Sound.{AreNumbered}
use Rattle.planner_machine.proofs.SeatLemmas.{not_empty, one_place}
use Rattle.plan_store_lists.specs.Rows.{HasEachOnce}
use Rattle.plan_store_lists.proofs.KeyLemmas.{contains_cases, contains_filter, contains_first, contains_later}
use Rattle.plan_store_lists.proofs.KeyLemmas.{filter_contains, nothing}
use Rattle.plan_store.specs.Listed.{is_of_app, links_at}
use Rattle.plan_store.specs.Listings.{IsListing, ShowRows, Shown, in_force_shown, link_shown, row_shown}
use Rattle.plan_store.specs.declared.listings.What.{What}
use Rattle.plan_store.specs.declared.listings.What.TheVariants as Whats
use Rattle.plan_store.proofs.ListingLemmas.{sorted_rows}
use Rattle.plan_store.proofs.ShownLemmas.{app_tests, lists_links, tests_app}
use Rattle.plan_store.proofs.ViewLemmas.{issued_from}

-- the place is one of the set, or it isn't
is_place : (listed : Listed) (place : Place) → IsPlaceOf listed place ⊎ (IsPlaceOf listed place → ⊥)
is_place LongTermPlan LongTerm = inl tt
is_place LongTermPlan (Current status) = inr (λ is. is)
is_place LongTermPlan History = inr (λ is. is)
is_place LongTermPlan (Deleted reason) = inr (λ is. is)
is_place CurrentPlan LongTerm = inr (λ is. is)
is_place CurrentPlan (Current status) = inl tt
is_place CurrentPlan History = inr (λ is. is)
is_place CurrentPlan (Deleted reason) = inr (λ is. is)
is_place InHistory LongTerm = inr (λ is. is)
is_place InHistory (Current status) = inr (λ is. is)
is_place InHistory History = inl tt
is_place InHistory (Deleted reason) = inr (λ is. is)
is_place InDeletions LongTerm = inr (λ is. is)
is_place InDeletions (Current status) = inr (λ is. is)
is_place InDeletions History = inr (λ is. is)
is_place InDeletions (Deleted reason) = inl tt

-- a listing of a set
module _ (s : Sets) (numbered : AreNumbered s) (listed : Listed) (app : Option (List ℕ)) where
  abbrev row_of : PlacedRow → Row
  row_of p = p.row

  -- it is listed, and of the serials up to that
  abbrev IsUpTo : ℕ → PlacedRow → Type 0
  IsUpTo n p = (p.row.serial ≤ n) × IsListed listed app s p

  -- these are all that are
  record ListsUpTo (n : ℕ) (ps : List PlacedRow) : Type 0 where
    once : HasEachOnce row_of ps
    exactly : (p : PlacedRow) → Contains ps p ↔ IsUpTo n p

  abbrev Passes : PlacedRow → Type 0
  Passes p = IsPlaceOf listed p.place × IsOfApp app p.row.key.app

  passes : (p : PlacedRow) → Passes p ⊎ (Passes p → ⊥)
  passes p = elim (is_place listed p.place) [
    | inr other ↦ inr (λ both. other both.0)
    | inl is ↦ elim (is_of_app app p.row) as (λ b. is_of_app app p.row ≡ b → Passes p ⊎ (Passes p → ⊥)) [
      | true ↦ λ e. inl (is, tests_app app p.row e)
      | false ↦ λ e. inr (λ both. let yes = app_tests app p.row both.1 in let no : ⊥ = cc in no)
    ] refl
  ]

  -- one serial more
  module _ (n : ℕ) (p : PlacedRow) (at : IsOnlyAt s (suc n) p) (ps : List PlacedRow) (lists : ListsUpTo n ps) where
    numbers : p.row.serial ≡ suc n
    numbers = numbered.numbered (suc n) p at

    -- what is listed under it is this row
    same_row : (q : PlacedRow) → IsListed listed app s q → q.row.serial ≡ suc n → p ≡ q
    same_row q (serial, at', place, of_app) e =
        let is_serial : serial ≡ suc n = sym (numbered.numbered serial q at') ∙ e in
        one_place s (suc n) p q at (subst (λ k. IsOnlyAt s k q) is_serial at')

    with_next : Passes p → ListsUpTo (suc n) (p ∷ ps)
    with_next both = record {
      once = AllPairs-cons (λ x y. x.row.serial ≡ y.row.serial → ⊥) p ps
          (λ k d lt same.
          let upto = ((lists.exactly (get_or ps k d)).0 (Contains-get_or ps k d lt)).0 in
          omega (arith, numbers)) lists.once;
      exactly = λ q. (to q, from q);
    }
      where
        to : (q : PlacedRow) → Contains (p ∷ ps) q → IsUpTo (suc n) q
        to q there = elim (contains_cases p q ps there) [
          | inl same ↦ subst (IsUpTo (suc n)) same (omega (arith, numbers), (suc n, at, both.0, both.1))
          | inr later ↦ let is = (lists.exactly q).0 later in (omega arith, is.1)
        ]

        from : (q : PlacedRow) → IsUpTo (suc n) q → Contains (p ∷ ps) q
        from q (le, is) = elim (cases_eq q.row.serial (suc n)) [
          | inl e ↦ subst (Contains (p ∷ ps)) (same_row q is e) (contains_first p ps)
          | inr other ↦ contains_later p q ps ((lists.exactly q).1 (omega arith, is))
        ]

    without_next : (Passes p → ⊥) → ListsUpTo (suc n) ps
    without_next fails = record { once = lists.once; exactly = λ q. (to q, from q) }
      where
        to : (q : PlacedRow) → Contains ps q → IsUpTo (suc n) q
        to q there = let is = (lists.exactly q).0 there in (omega arith, is.1)

        from : (q : PlacedRow) → IsUpTo (suc n) q → Contains ps q
        from q (le, is) = elim (cases_eq q.row.serial (suc n)) [
          | inl e ↦
              let (serial, at', place, of_app) = is in
              absurd (fails (subst Passes (sym (same_row q is e)) (place, of_app)))
          | inr other ↦ (lists.exactly q).1 (omega arith, is)
        ]

  lists_upto : (n : ℕ) → n ≤ s.issued → (ps : List PlacedRow) × ListsUpTo n ps
  lists_upto zero within = (
    [],
    record {
      once = λ i j d below lt. absurd (omega arith);
      exactly = λ p. (
        λ there. absurd (nothing p there),
        λ (le, is).
            let e : p.row.serial ≡ is.0 = numbered.numbered is.0 p is.1 in
            absurd (not_empty s is.0 p is.1 (numbered.unissued is.0 (inl (omega arith)))),
      );
    },
  )
  lists_upto (suc n) within =
      let (ps, lists) = lists_upto n (omega arith) in
      let (p, at) = numbered.placed (suc n) (omega arith) within in
      elim (passes p) [
        | inl both ↦ (p ∷ ps, with_next n p at ps lists both)
        | inr fails ↦ (ps, without_next n p at ps lists fails)
      ]

  some_rows : (rows : List PlacedRow) × ListsRows listed app s rows
  some_rows =
      let (ps, lists) = lists_upto s.issued (omega arith) in
      let (ys, rise, same) = sorted_rows row_of ps lists.once in (
        ys,
        record {
          rising = rise;
          exactly = λ p. (
            λ there. ((lists.exactly p).0 ((same p).0 there)).1,
            λ is. (same p).1 ((lists.exactly p).1 (issued p is, is)),
          );
        },
      )
    where
      issued : (p : PlacedRow) → IsListed listed app s p → p.row.serial ≤ s.issued
      issued p (serial, at, place, of_app) =
          let within = issued_from s numbered serial (not_empty s serial p at) in
          omega (arith, numbered.numbered serial p at)

some_set : (c : Content) → AreNumbered c.sets → (listed : Listed) (app : Option (List ℕ))
    → (items : List Shown) × ShowRows listed app c items
some_set c numbered listed app =
    let (rows, lists) = some_rows c.sets numbered listed app in (map row_shown rows, (rows, lists, refl))

-- the lists of one application, or all
abbrev is_app : Option (List ℕ) → List ℕ → Bool
is_app None name = true
is_app (Some only) name = pointwise nat_eq name only

app_is : (app : Option (List ℕ)) (name : List ℕ) → (is_app app name ≡ true) ↔ IsOfApp app name
app_is None name = (λ is. tt, λ is. refl)
app_is (Some only) name = bytes_decides name only

some_lists : (c : Content) (app : Option (List ℕ)) → IsRising link_cmp c.in_force
    → ListsLinks app c (filter (λ (link : Link). is_app app link.app) c.in_force)
some_lists c app rises =
    let of_app = λ (link : Link). is_app app link.app in
    record {
      rising = AllPairs-filter (λ x y. link_cmp x y ≡ Less) of_app c.in_force rises;
      exactly = λ link. (
        (λ there.
            let k = contains_filter of_app c.in_force link there in
            (k.0, (app_is app link.app).0 k.1)),
        λ both. filter_contains of_app c.in_force link both.0 ((app_is app link.app).1 both.1),
      );
    }

pub some_listing : (c : Content) → AreNumbered c.sets → IsRising pair_cmp c.pairs → IsRising link_cmp c.in_force
    → (what : What) (app : Option (List ℕ)) → (items : List Shown) × IsListing what app c items
some_listing c numbered rises lists Whats.Ltp app = some_set c numbered LongTermPlan app
some_listing c numbered rises lists Whats.Cp app = some_set c numbered CurrentPlan app
some_listing c numbered rises lists Whats.History app = some_set c numbered InHistory app
some_listing c numbered rises lists Whats.Deletions app = some_set c numbered InDeletions app
some_listing c numbered rises lists Whats.Dependencies app =
    let links = links_at c.sets app c.pairs in
    (map link_shown links, (links, lists_links c app numbered rises, refl))
some_listing c numbered rises lists Whats.Links app =
    let links = filter (λ (link : Link). is_app app link.app) c.in_force in
    (map in_force_shown links, (links, some_lists c app lists, refl))
