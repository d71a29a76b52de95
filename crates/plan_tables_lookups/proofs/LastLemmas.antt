-- The first row of an answer is the one that arrives last.
use Rattle.std.proofs.Common.{◌≡◌, ◌∙◌, ◌↔◌, ◌≤◌, ◌⊎◌, ℕ, zero, suc, Bool, true, false, ◌&&◌, cond, List, [], ◌∷◌}
use Rattle.std.proofs.Common.{length, map, filter, take, refl, sym, ap, subst, arith, pos}
use Rattle.std.proofs.Common.{Option, Some, None, slice_get, inl, inr, true≢false, Contains, Ordering, Less, Equal}
use Rattle.std.proofs.Common.{Greater, is_eq}
use Rattle.std.specs.Cmp.Lexicographic.{slice_cmp, nat_list_cmp_total}
use Rattle.std.specs.FinMap.{slice_cmp-IsAntisymmetric, nat_cmp-IsAntisymmetric}
use Rattle.std.specs.List.Sorted.{IsPermutation, IsSorted}
use Rattle.std.specs.Ordering.{flip_args, int_cmp, is_le, is_lt, nat_cmp, on, ordering_then}
use Rattle.std.proofs.lemmas.Bool.Decides.{nat_tests}
use Rattle.std.proofs.lemmas.Cmp.{tied_itself}
use Rattle.std.proofs.lemmas.List.Sorted.{Contains-permutation, IsPermutation-sym, length_permutation, ranks_by}
use Rattle.std.proofs.lemmas.List.Sorted.{sorted_far}
use Rattle.sqlite.specs.Order.{Row, column}
use Rattle.sqlite_sql.specs.Ops.{binary, from_truth, is_true}
use Rattle.sqlite_sql.specs.declared.ops.CompareOp.TheVariants.{Eq, Le}
use Rattle.sqlite_value.specs.Order.{value_cmp}
use Rattle.sqlite_value.specs.declared.value.Value.{Value}
use Rattle.sqlite_value.specs.declared.value.Value.TheVariants.{Text}
use Rattle.sqlite_value.proofs.KeyLemmas.{directed_total}
use Rattle.sqlite_value.proofs.OrderLemmas.{value_cmp-Int, value_cmp-Text, value_cmp_total}
use Rattle.plan_tables_lookups.specs.Finding.{natural}
use Rattle.plan_tables_lookups.specs.Last.{Arrives, EachArrives, IsLastFound, IsLastOf, IsLatest, TellsLast}
use Rattle.plan_tables_lookups.specs.Looks.{question}
use Rattle.plan_tables_lookups.specs.Question.{Answers, asked_for, is_so, order_cmp, passes}
use Rattle.plan_tables_lookups.specs.declared.looks.Look.TheVariants.{LastOf}
use Rattle.plan_tables_schema.specs.Rows.{Tables, shown}
use Rattle.plan_tables_schema.specs.declared.tables.Table.TheVariants.{History}

contains_first : {X : Type 0} (x : X) (xs : List X) → Contains (x ∷ xs) x
contains_first x xs = (0, omega arith, refl)

contains_later : {X : Type 0} (y x : X) (xs : List X) → Contains xs x → Contains (y ∷ xs) x
contains_later y x xs (k, within, is) = (suc k, omega (arith, within), is)

contains_cases : {X : Type 0} (y x : X) (xs : List X) → Contains (y ∷ xs) x → (y ≡ x) ⊎ Contains xs x
contains_cases y x xs (zero, within, is) = inl is
contains_cases y x xs (suc k, within, is) = inr (k, omega (arith, within), is)

-- what a filter keeps
in_filter : {X : Type 0} (p : X → Bool) (xs : List X) (x : X)
    → Contains (filter p xs) x ↔ (Contains xs x × (p x ≡ true))
in_filter p [] x = ((λ there. absurd (omega (arith, there.1))), λ both. both.0)
in_filter p (y ∷ ys) x = go (p y) refl (in_filter p ys x)
  where
    go : (b : Bool) → p y ≡ b → Contains (filter p ys) x ↔ (Contains ys x × (p x ≡ true))
        → Contains (cond b (y ∷ filter p ys) (filter p ys)) x ↔ (Contains (y ∷ ys) x × (p x ≡ true))
    go true e more = (
      (λ there. elim (contains_cases y x (filter p ys) there) [
        | inl is ↦ (subst (Contains (y ∷ ys)) is (contains_first y ys), ap p (sym is) ∙ e)
        | inr rest ↦ let k = more.0 rest in (contains_later y x ys k.0, k.1)
      ]),
      λ both. elim (contains_cases y x ys both.0) [
        | inl is ↦ subst (Contains (y ∷ filter p ys)) is (contains_first y (filter p ys))
        | inr rest ↦ contains_later y x (filter p ys) (more.1 (rest, both.1))
      ],
    )
    go false e more = (
      (λ there. let k = more.0 there in (contains_later y x ys k.0, k.1)),
      λ both. elim (contains_cases y x ys both.0) [
        | inl is ↦ absurd (true≢false (sym both.1 ∙ ap p (sym is) ∙ e))
        | inr rest ↦ more.1 (rest, both.1)
      ],
    )

-- ---- the first of those that fall

abbrev falling : Row → Row → Ordering
falling = on (λ v. column v 2) (flip_args value_cmp)

then_equal : (o : Ordering) → is_lt (ordering_then o Equal) ≡ is_lt o
then_equal Less = refl
then_equal Equal = refl
then_equal Greater = refl

falls : (rows : List Row) → IsSorted (order_cmp (question LastOf)) rows → IsSorted falling rows
falls rows sorted k d low within = sym (then_equal _) ∙ sorted k d low within

-- it is below none
first_is_latest : (x : Row) (xs : List Row) → IsSorted (order_cmp (question LastOf)) (x ∷ xs)
    → (other : Row) → Contains (x ∷ xs) other → is_lt (value_cmp (column x 2) (column other 2)) ≡ false
first_is_latest x xs sorted other (k, within, is) =
    let weak = ranks_by (directed_total true value_cmp_total) (λ (v : Row). column v 2) in
    let far = sorted_far (λ a b. is_lt (flip_args value_cmp (column a 2) (column b 2))) weak (x ∷ xs)
    (falls (x ∷ xs) sorted) 0 k
    other (omega arith) within in
    subst (λ (v : Row). is_lt (value_cmp (column x 2) (column v 2)) ≡ false) is far

last_of_ordered : (rows ordered found : List Row) (r : Option Row) → IsPermutation rows ordered
    → IsSorted (order_cmp (question LastOf)) ordered → found ≡ take 1 ordered → r ≡ slice_get found 0 → IsLastOf rows r
last_of_ordered rows [] found None same sorted is first = none rows (length_permutation rows [] same)
  where
    none : (rows : List Row) → 0 ≡ length rows → rows ≡ []
    none [] len = refl
    none (r ∷ rs) len = absurd (omega (arith, len))
last_of_ordered rows [] found (Some row) same sorted is first =
    let none : Some row ≡ None = first ∙ ap (λ (l : List Row). slice_get l 0) is in absurd (let e = none in cc)
last_of_ordered rows (x ∷ xs) found None same sorted is first =
    let some : None ≡ Some x = first ∙ ap (λ (l : List Row). slice_get l 0) is in absurd (let e = some in cc)
last_of_ordered rows (x ∷ xs) found (Some row) same sorted is first =
    let some : Some row ≡ Some x = first ∙ ap (λ (l : List Row). slice_get l 0) is in
    let row_is : row ≡ x = cc in
    subst (IsLatest rows) (sym row_is) (record {
      has = Contains-permutation (x ∷ xs) rows x (IsPermutation-sym rows (x ∷ xs) same) (contains_first x xs);
      latest = λ other there. first_is_latest x xs sorted other (Contains-permutation rows (x ∷ xs) other same there);
    })

-- ---- what it tells

told : (b : Bool) → is_true (from_truth (Some b)) ≡ b
told true = refl
told false = refl

equal_from : (o : Ordering) → is_eq o ≡ true → o ≡ Equal
equal_from Less h = cc
equal_from Equal h = refl
equal_from Greater h = cc

so_texts : (a b : List ℕ) → is_so Eq (Text a) (Text b) ≡ is_eq (slice_cmp nat_cmp a b)
unfolding binary
so_texts a b = told _ ∙ ap is_eq (value_cmp-Text a b)

so_low : (a b : ℕ) → is_so Le (natural a) (natural b) ≡ is_le (int_cmp (pos a) (pos b))
unfolding binary
so_low a b = told _ ∙ ap is_le (value_cmp-Int (pos a) (pos b))

le_from : (a b : ℕ) → is_le (int_cmp (pos a) (pos b)) ≡ true → a ≤ b
le_from a b h = grind (arith, nat_tests)

le_to : (a b : ℕ) → a ≤ b → is_le (int_cmp (pos a) (pos b)) ≡ true
le_to a b h = grind (arith, nat_tests)

no_lt : (a b : ℕ) → is_lt (int_cmp (pos a) (pos b)) ≡ false → b ≤ a
no_lt a b h = grind (arith, nat_tests)

both_of : (a b : Bool) → (a && (b && true)) ≡ true → (a ≡ true) × (b ≡ true)
both_of true true h = (refl, refl)
both_of true false h = absurd (let e = h in cc)
both_of false b h = absurd (let e = h in cc)

of_both : (a b : Bool) → a ≡ true → b ≡ true → (a && (b && true)) ≡ true
of_both true true h k = refl
of_both true false h k = absurd (let e = k in cc)
of_both false b h k = absurd (let e = h in cc)

abbrev asked_last : List ℕ → ℕ → Row
asked_last app moment = Text app ∷ natural moment ∷ []

passes_told : (app other : List ℕ) (moment ia : ℕ) (v : Row) → Arrives other ia v
    → passes (question LastOf) (asked_last app moment) v ≡ true → (other ≡ app) × (ia ≤ moment)
passes_told app other moment ia v is h =
    let both = both_of _ _ h in
    let same : is_so Eq (Text other) (Text app)
    ≡ true = subst (λ (c : Value). is_so Eq c (Text app) ≡ true) is.of both.0 in
    let low : is_so Le (natural ia) (natural moment) ≡ true =
    subst (λ (c : Value). is_so Le c (natural moment) ≡ true) is.at both.1 in (
      slice_cmp-IsAntisymmetric nat_cmp-IsAntisymmetric other app (equal_from _ (sym (so_texts other app) ∙ same)),
      le_from ia moment (sym (so_low ia moment) ∙ low),
    )

told_passes : (app : List ℕ) (moment ia : ℕ) (v : Row) → Arrives app ia v → ia ≤ moment
    → passes (question LastOf) (asked_last app moment) v ≡ true
told_passes app moment ia v is low =
    let same : is_so Eq (column v 1) (Text app) ≡ true = subst (λ (c : Value). is_so Eq c (Text app) ≡ true) (sym is.of)
    (so_texts app app ∙ ap is_eq (tied_itself nat_list_cmp_total app)) in
    let below : is_so Le (column v 2) (natural moment) ≡ true =
    subst (λ (c : Value). is_so Le c (natural moment) ≡ true) (sym is.at) (so_low ia moment ∙ le_to ia moment low) in
    of_both _ _ same below

module _ (app : List ℕ) (moment : ℕ) (rows : List Row) where
  abbrev those : List Row
  those = filter (passes (question LastOf) (asked_last app moment)) rows

  tells_last : (found : Option Row) → EachArrives rows → IsLastOf those found → TellsLast app moment rows found
  tells_last None each none = λ v ia there is low.
      let has = (in_filter _ rows v).1 (there, told_passes app moment ia v is low) in
      omega (arith, (subst (λ (l : List Row). Contains l v) none has).1)
  tells_last (Some found) each latest =
      let mine = (in_filter _ rows found).0 latest.has in
      let shows = each found mine.0 in
      let tells = passes_told app shows.0 moment shows.1 found shows.2 mine.1 in
      record {
        has = mine.0;
        ia = shows.1;
        arrives = subst (λ (a : List ℕ). Arrives a shows.1 found) tells.0 shows.2;
        before = tells.1;
        last = λ v other there is low.
            let late = latest.latest v ((in_filter _ rows v).1 (there, told_passes app moment other v is low)) in
            no_lt shows.1 other (ap is_lt (sym (value_cmp-Int (pos shows.1) (pos other)))
            ∙ (λ i. is_lt (value_cmp (sym shows.2.at i) (sym is.at i))) ∙ late);
      }

pub last_found : (app : List ℕ) (moment : ℕ) (all : Tables) (rows : List Row) (found : Option Row)
    → Answers (question LastOf) (asked_last app moment) all rows → found ≡ slice_get rows 0
    → IsLastFound app moment all found
last_found app moment all rows found answers first =
    let last = last_of_ordered (asked_for (question LastOf)
    (asked_last app moment) all) answers.ordered rows found answers.same
    answers.sorted answers.is first in
    (last, λ each. tells_last app moment (map (shown History) (all History)) found each last)
