-- What the rows and pairs of a content show in a listing.
use Rattle.std.proofs.Common.{◌≡◌, ◌≢◌, ◌↔◌, ◌⊎◌, ℕ, zero, suc, Bool, List, [], ◌∷◌, length}
use Rattle.std.proofs.Common.{get_or, map, refl, sym, ap, subst, ◌∙◌, inl, inr, arith}
use Rattle.std.proofs.Common.{Option, Some, None, Result, Ok, Err, IfOk, IfErr, filter}
use Rattle.std.specs.List.{All, AllPairs, Contains}
use Rattle.std.specs.Cmp.Lexicographic.{slice_cmp}
use Rattle.std.specs.Ordering.{MatchOrdering, is_eq, nat_cmp}
use Rattle.std.specs.declared.cmp.Ordering.{Ordering}
use Rattle.std.specs.declared.cmp.Ordering.TheVariants.{Less, Equal, Greater}
use Rattle.std.proofs.lemmas.Cmp.{nat_list_cmp_total, tied_itself}
use Rattle.std.proofs.lemmas.List.Elements.{Contains-get_or}
use Rattle.std.proofs.lemmas.List.Kept.{AllPairs-cons, AllPairs-filter}
use Rattle.occurrences.specs.Row.{RowBefore, row_cmp}
use Rattle.occurrences.specs.declared.row.Row.{Row}
use Rattle.occurrences.proofs.RowLemmas.{row_ranks, row_strict}
use Rattle.external_dependencies.specs.Arrival.{arrival_cmp}
use Rattle.external_dependencies.specs.Nearest.{arrival_of}
use Rattle.planner_machine.specs.Shown.{IsOfApp}
use Rattle.plan_store_lists.specs.Keyed.{IsKeyed}
use Rattle.plan_store_lists.specs.Rows.{AreRows, HasEachOnce}
use Rattle.plan_store_lists.proofs.KeyLemmas.{contains_cases, contains_filter, contains_first, contains_later}
use Rattle.plan_store_lists.proofs.KeyLemmas.{filter_contains, nothing}
use Rattle.plan_store_lists.proofs.SeatLemmas.{equal_from}
use Rattle.plan_store_lists.proofs.SliceLemmas.{name_ties}
use Rattle.plan_store.specs.Listed.{SortsRows, EndsWithin, ShowsSet, shown_as}
use Rattle.plan_store.specs.Listings.{EmitsAll, EmitsPart, Shown, AcceptsAll}
use Rattle.plan_store.specs.declared.listings.ListFault.{ListFault}
use Rattle.plan_store.specs.declared.listings.ListFault.TheVariants.{Memory}
use Rattle.plan_store.proofs.ViewLemmas.{once_from_rows}

-- rows in order exist
module _ {X : Type 0} (row_of : X → Row) where
  abbrev Before : X → X → Type 0
  Before x y = RowBefore (row_of x) (row_of y)

  one_way : (a b : Row) (o : Ordering) → MatchOrdering o (RowBefore a b) ⊥ (RowBefore b a) → RowBefore a b
      ⊎ RowBefore b a
  one_way a b Less is = inl is
  one_way a b Equal is = absurd is
  one_way a b Greater is = inr is

  none_rise : AllPairs Before []
  none_rise i j d below lt = absurd (omega arith)

  tail_rises : (y : X) (ys : List X) → AllPairs Before (y ∷ ys) → AllPairs Before ys
  tail_rises y ys rises i j d below lt = rises (suc i) (suc j) d (omega arith) (omega arith)

  first_before : (y : X) (ys : List X) → AllPairs Before (y ∷ ys) → (z : X) → Contains ys z → Before y z
  first_before y ys rises z (k, lt, at) = subst (Before y) at (rises zero (suc k) z (omega arith) (omega arith))

  all_from : (P : X → Type 0) (ys : List X) → ((z : X) → Contains ys z → P z) → All P ys
  all_from P ys each k d lt = each (get_or ys k d) (Contains-get_or ys k d lt)

  put_row : (x : X) (ys : List X) → AllPairs Before ys
      → ((y : X) → Contains ys y → (row_of x).serial ≢ (row_of y).serial) → (zs : List X) × AllPairs Before zs
      × ((z : X) → Contains zs z ↔ ((x ≡ z) ⊎ Contains ys z))
  put_row x [] rises apart = (
    x ∷ [],
    AllPairs-cons Before x []
        (all_from (Before x) [] (λ z there. absurd (nothing z there))) none_rise,
    λ z. (
      contains_cases x z [],
      λ either. elim either [
        | inl same ↦ subst (Contains (x ∷ [])) same
            (contains_first x [])
        | inr there ↦ contains_later x z [] there
      ],
    ),
  )
  put_row x (y ∷ ys) rises apart = elim (one_way (row_of x) (row_of y) (row_cmp (row_of x) (row_of y))
      (row_ranks (row_of x) (row_of y) (apart y (contains_first y ys)))) [
        | inl before ↦ (
          x ∷ y ∷ ys,
          AllPairs-cons Before x (y ∷ ys)
              (all_from (Before x) (y ∷ ys) (λ z there. elim (contains_cases y z ys there) [
                | inl same ↦ subst (Before x)
                    same before
                | inr later ↦ row_strict.transitive (row_of x) (row_of y) (row_of z) before
                    (first_before y ys rises z later)
              ])) rises,
          λ z. (
            contains_cases x z (y ∷ ys),
            λ either. elim either [
              | inl same ↦ subst (Contains (x ∷ y ∷ ys)) same
                  (contains_first x (y ∷ ys))
              | inr there ↦ contains_later x z (y ∷ ys) there
            ],
          ),
        )
        | inr after ↦
            let (zs, rise, is) = put_row x ys (tail_rises y ys rises)
            (λ z there. apart z (contains_later y z ys there)) in (
              y ∷ zs,
              AllPairs-cons Before y zs (all_from (Before y) zs
                  (λ z there. elim ((is z).0 there) [
                    | inl same ↦ subst (Before y) same after
                    | inr old ↦ first_before y ys
                        rises z old
                  ])) rise,
              λ z. (
                λ there. elim (contains_cases y z zs there) [
                  | inl same ↦ inr (subst (Contains (y ∷ ys)) same (contains_first y ys))
                  | inr later ↦ elim ((is z).0 later) [ inl one ↦ inl one | inr old ↦ inr (contains_later y z ys old) ]
                ],
                λ either. elim either [
                  | inl one ↦ contains_later y z zs ((is z).1 (inl one))
                  | inr old ↦ elim (contains_cases y z ys old) [
                    | inl same ↦ subst (Contains (y ∷ zs)) same (contains_first y zs)
                    | inr later ↦ contains_later y z zs ((is z).1 (inr later))
                  ]
                ],
              ),
            )
      ]

  pub sorted_rows : (xs : List X) → HasEachOnce row_of xs → (ys : List X) × AllPairs Before ys
      × ((x : X) → Contains ys x ↔ Contains xs x)
  sorted_rows [] once = ([], none_rise, λ x. (λ there. there, λ there. there))
  sorted_rows (x ∷ xs) once =
      let (ys, rise, is) = sorted_rows xs (λ i j d below lt. once (suc i) (suc j) d (omega arith) (omega arith)) in
      let apart : (y : X) → Contains ys y → (row_of x).serial ≢ (row_of y).serial = λ y there same.
      let (k, lt, at) = (is y).0 there in
      once zero (suc k) y (omega arith) (omega arith) (same ∙ ap (λ z. (row_of z).serial) (sym at)) in
      let (zs, rise', is') = put_row x ys rise apart in (
        zs,
        rise',
        λ z. (
          λ there. elim ((is' z).0 there) [
            | inl same ↦ subst (Contains (x ∷ xs)) same (contains_first x xs)
            | inr old ↦
                contains_later x z xs ((is z).0 old)
          ],
          λ there. elim (contains_cases x z xs there) [
            | inl same ↦ (is' z).1 (inl same)
            | inr later ↦ (is' z).1
                (inr ((is z).1 later))
          ],
        ),
      )

  -- a part of the rows of a set, as it is listed
  module _ (letter_of : X → ℕ) (is_plain : Bool) (xs : List X) (rows : AreRows row_of xs) (app : Option (List ℕ))
      (part : List X) (keyed : IsKeyed arrival_cmp (λ x. arrival_of (row_of x)) part) (all : (x : X) → Contains part x
      ↔ (Contains xs x × IsOfApp app (row_of x).key.app)) where
    part_rows : AreRows row_of part
    part_rows = record {
      keyed = keyed;
      one_each = λ x y at_x at_y same. rows.one_each x y ((all x).0 at_x).0
          ((all y).0 at_y).0 same;
    }

    shows_sorted : (ys : List X) → AllPairs Before ys → ((x : X) → Contains ys x ↔ Contains part x)
        → ShowsSet row_of letter_of is_plain xs app (map (shown_as row_of letter_of is_plain) ys)
    shows_sorted ys rise same = record {
      rows = ys;
      rising = rise;
      same = λ x. (λ there. (all x).0 ((same x).0 there), λ both. (same x).1 ((all x).1 both));
      shown = refl;
    }

    pub shows_part : (ys : List X) → SortsRows row_of part ys → ShowsSet row_of letter_of is_plain xs app
        (map (shown_as row_of letter_of is_plain) ys)
    shows_part ys is = shows_sorted ys (is.rising part_rows) is.same

    shows_some : (items : List Shown) × ShowsSet row_of letter_of is_plain xs app items
    shows_some = let (ys, rise, same) = sorted_rows part (once_from_rows row_of part part_rows) in
        (map (shown_as row_of letter_of is_plain) ys, shows_sorted ys rise same)

    module _ {K B : Type 0} (Accepts Refuses : K → Shown → K → Type 0) (old new : K) (now : B → X) (bs : List B)
        (is : SortsRows row_of part (map now bs)) where
      map_twice : (cs : List B) → map (λ b. shown_as row_of letter_of is_plain (now b)) cs
          ≡ map (shown_as row_of letter_of is_plain) (map now cs)
      map_twice [] = refl
      map_twice (c ∷ cs) = ap (λ l. shown_as row_of letter_of is_plain (now c) ∷ l) (map_twice cs)

      long : (cs : List B) → length (map (λ b. shown_as row_of letter_of is_plain (now b)) cs) ≡ length cs
      long [] = refl
      long (c ∷ cs) = ap suc (long cs)

      pub handed_all : (result : Result ℕ ListFault) → IfOk result (λ count. (count ≡ length bs) × AcceptsAll Accepts old
          (map (λ b. shown_as row_of letter_of is_plain (now b)) bs) new)
          → IfOk result (EmitsAll Accepts (ShowsSet row_of letter_of is_plain xs app) old new)
      handed_all (Ok count) h = record {
        items = map (λ b. shown_as row_of letter_of is_plain (now b)) bs;
        whole = subst (ShowsSet row_of letter_of is_plain xs app) (sym (map_twice bs)) (shows_part (map now bs) is);
        taken = h.1;
        counted = h.0 ∙ sym (long bs);
      }
      handed_all (Err fault) h = tt

      pub handed_part : (result : Result ℕ ListFault)
          → IfErr result (λ fault. EndsWithin Accepts Refuses old (map (λ b. shown_as row_of letter_of is_plain (now b))
          bs) new fault) → IfErr result (EmitsPart Accepts Refuses (ShowsSet row_of letter_of is_plain xs app) old new)
      handed_part (Ok count) h = tt
      handed_part (Err fault) h = record {
        done = h.done;
        rest = h.rest;
        whole = subst (ShowsSet row_of letter_of is_plain xs app) (sym (map_twice bs) ∙ h.parts)
            (shows_part (map now bs) is);
        ends = h.ends;
      }

  -- the rows of one application, or all
  part_there : (xs : List X) → IsKeyed arrival_cmp (λ x. arrival_of (row_of x)) xs → (app : Option (List ℕ))
      → (part : List X) × IsKeyed arrival_cmp (λ x. arrival_of (row_of x)) part
      × ((x : X) → Contains part x ↔ (Contains xs x × IsOfApp app (row_of x).key.app))
  part_there xs keyed None = (xs, keyed, λ x. ((λ there. (there, tt)), λ both. both.0))
  part_there xs keyed (Some only) =
      let test = λ (x : X). is_eq (slice_cmp nat_cmp (row_of x).key.app only) in (
        filter test xs,
        AllPairs-filter (λ x y. arrival_cmp (arrival_of (row_of x)) (arrival_of (row_of y)) ≡ Less) test xs keyed,
        λ x. (
          (λ there.
              let both = contains_filter test xs x there in
              (both.0, name_ties (row_of x).key.app only (equal_from (slice_cmp nat_cmp (row_of x).key.app only) both.1))),
          λ both. filter_contains test xs x both.0 (ap is_eq
              (subst (λ a. slice_cmp nat_cmp (row_of x).key.app a ≡ Equal) both.1
              (tied_itself nat_list_cmp_total (row_of x).key.app))),
        ),
      )

  -- memory is refused before the first row
  pub handed_none : (letter_of : X → ℕ) (is_plain : Bool) (xs : List X) → AreRows row_of xs → (app : Option (List ℕ))
      → {K : Type 0} (Accepts Refuses : K → Shown → K → Type 0) (old : K) → EmitsPart Accepts Refuses
      (ShowsSet row_of letter_of is_plain xs app) old old Memory
  handed_none letter_of is_plain xs rows app Accepts Refuses old =
      let (part, keyed, all) = part_there xs rows.keyed app in
      let (items, shows) = shows_some letter_of is_plain xs rows app part keyed all in
      record { done = []; rest = items; whole = shows; ends = refl }
