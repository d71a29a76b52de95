-- Parts of lists of rows.
use Rattle.std.proofs.Common.{◌≡◌, ◌↔◌, ℕ, zero, suc, ◌<◌, ◌≤◌, Bool, true, false, List, [], ◌∷◌, length, get_or, take}
use Rattle.std.proofs.Common.{◌+◌, ◌++◌, drop, filter, sym, subst, ap, ◌∙◌, inl, inr, arith, refl}
use Rattle.std.specs.List.Sorted.{IsPartitionPoint}
use Rattle.std.specs.declared.cmp.Ordering.TheVariants.{Equal}
use Rattle.std.specs.Cmp.Lexicographic.{slice_cmp}
use Rattle.std.specs.Ordering.{nat_cmp, ordering_then}
use Rattle.std.proofs.lemmas.Cmp.{nat_list_cmp_total, nat_cmp_total, tied_itself}
use Rattle.std.specs.List.{Contains}
use Rattle.std.specs.Prelude.{◌&&◌, not, if◌then◌else◌}
use Rattle.std.proofs.lemmas.List.{append-nil}
use Rattle.std.proofs.lemmas.List.Elements.{Contains-get_or, filter-append}
use Rattle.std.proofs.lemmas.Bool.{cases_order}
use Rattle.occurrences.specs.declared.key.Key.{Key}
use Rattle.occurrences.specs.declared.row.Row.{Row}
use Rattle.external_dependencies.specs.Arrival.{arrival_cmp}
use Rattle.external_dependencies.specs.Nearest.{arrival_of}
use Rattle.plan_store_lists.specs.Blocks.{items_in}
use Rattle.plan_store_lists.specs.Keyed.{IsKeyed}
use Rattle.plan_store_lists.specs.declared.blocks.Block.{Block}
use Rattle.plan_store_lists.proofs.RunLemmas.{items_more}
use Rattle.plan_store_lists.proofs.SliceLemmas.{Rises, less_not_equal, then_less}
use Rattle.plan_store.specs.Slices.{HaveOneApp}

-- rows by application, input arrival and serial
module _ {X : Type 0} (row_of : X → Row) (xs : List X) (keyed : IsKeyed arrival_cmp (λ x. arrival_of (row_of x)) xs)
  where
    pub apps_rise : Rises nat_list_cmp_total (λ x. (row_of x).key.app) xs
    apps_rise i j d le lt = elim (cases_order i j) [
      | inl same ↦ inr (subst (λ n. slice_cmp nat_cmp (row_of (get_or xs i d)).key.app (row_of (get_or xs n d)).key.app
          ≡ Equal) same (tied_itself nat_list_cmp_total (row_of (get_or xs i d)).key.app))
      | inr (inl below) ↦ elim (then_less _ _ (keyed i j d below lt)) [ inl less ↦ inl less | inr tied ↦ inr tied.0 ]
      | inr (inr above) ↦ absurd (omega arith)
    ]

    pub arrivals_rise : HaveOneApp row_of xs → Rises nat_cmp_total (λ x. (row_of x).key.ia) xs
    arrivals_rise one i j d le lt = elim (cases_order i j) [
      | inl same ↦ inr (subst (λ n. nat_cmp (row_of (get_or xs i d)).key.ia (row_of (get_or xs n d)).key.ia ≡ Equal)
          same
          (tied_itself nat_cmp_total (row_of (get_or xs i d)).key.ia))
      | inr (inl below) ↦ elim (then_less (slice_cmp nat_cmp (row_of (get_or xs i d)).key.app
          (row_of (get_or xs j d)).key.app)
          (ordering_then (nat_cmp (row_of (get_or xs i d)).key.ia (row_of (get_or xs j d)).key.ia)
          (nat_cmp (row_of (get_or xs i d)).serial (row_of (get_or xs j d)).serial)) (keyed i j d below lt)) [
            | inl less ↦
                let same : (row_of (get_or xs i d)).key.app ≡ (row_of (get_or xs j d)).key.app =
                one (get_or xs i d) (get_or xs j d) (Contains-get_or xs i d (omega arith))
                (Contains-get_or xs j d lt) in
                let tied : slice_cmp nat_cmp (row_of (get_or xs i d)).key.app (row_of (get_or xs j d)).key.app ≡ Equal =
                subst (λ n. slice_cmp nat_cmp (row_of (get_or xs i d)).key.app n ≡ Equal) same
                (tied_itself nat_list_cmp_total (row_of (get_or xs i d)).key.app) in
                absurd (less_not_equal (sym less ∙ tied))
            | inr tied ↦ elim (then_less (nat_cmp (row_of (get_or xs i d)).key.ia (row_of (get_or xs j d)).key.ia)
                (nat_cmp (row_of (get_or xs i d)).serial (row_of (get_or xs j d)).serial) tied.1) [
                  | inl less ↦ inl less
                  | inr
                      same ↦ inr same.0
                ]
          ]
      | inr (inr above) ↦ absurd (omega arith)
    ]

-- the rows of a key: those of its arrival among those of its application
pub key_part : {X : Type 0} (row_of : X → Row) (list rows found : List X) (key : Key)
    → ((x : X) → Contains rows x ↔ (Contains list x × ((row_of x).key.app ≡ key.app)))
    → ((x : X) → Contains found x ↔ (Contains rows x × ((row_of x).key.ia ≡ key.ia)))
    → (x : X) → Contains found x ↔ (Contains list x × ((row_of x).key ≡ key))
key_part row_of list rows found key own at x = (
  (λ there.
      let both = (at x).0 there in
      let app = (own x).0 both.0 in
      (app.0, λ i. record { ia = both.1 i; app = app.1 i })),
  λ both. (at x).1 (
    (own x).1 (both.0, ap (λ (k : Key). k.app) both.1),
    ap (λ (k : Key). k.ia) both.1,
  ),
)

-- the rows of a block are of one application
pub one_in_block : {X : Type 0} (row_of : X → Row) (block : Block (List ℕ) X)
    → ((x : X) → Contains block.items.items x → (row_of x).key.app ≡ block.group) → HaveOneApp row_of block.items.items
one_in_block row_of block own x y at_x at_y = own x at_x ∙ sym (own y at_y)

-- what passes in one block more
pub filter_block : {X : Type 0} (p : X → Bool) (blocks : List (Block (List ℕ) X)) (index : ℕ)
    (block : Block (List ℕ) X) (early found after : List X) → index < length blocks → block ≡ get_or blocks index block
    → early ≡ filter p block.items.items → found ≡ filter p (items_in (take index blocks)) → after ≡ found ++ early
    → after ≡ filter p (items_in (take (index + 1) blocks))
filter_block p blocks index block early found after lt at is_early is_found is =
    is ∙ (λ i. is_found i ++ is_early i) ∙ sym (filter-append p (items_in (take index blocks)) block.items.items)
    ∙ ap (filter p) (sym (items_more blocks index block lt at))

-- what passes, where that stands at the front
pub filter_front : {X : Type 0} (p : X → Bool) (xs : List X) (count : ℕ) → count ≤ length xs
    → IsPartitionPoint (λ x. p x ≡ true) (λ x. p x ≡ false) xs count → take count xs ≡ filter p xs
filter_front p [] zero le point = refl
filter_front p [] (suc count) le point = absurd (omega arith)
filter_front p (x ∷ xs) zero le point =
    rw (point.1 0 x (omega arith) (omega arith))
    (filter_front p xs zero (omega arith) (
      (λ k d low high. absurd (omega arith)),
      λ k d low high.
          point.1 (suc k) d (omega arith) (omega arith),
    ))
filter_front p (x ∷ xs) (suc count) le point =
    rw (point.0 0 x (omega arith) (omega arith))
    (ap (λ l. x ∷ l) (filter_front p xs count (omega arith) (
      (λ k d low high. point.0 (suc k) d (omega arith)
          (omega arith)),
      λ k d low high. point.1 (suc k) d (omega arith) (omega arith),
    )))

-- and what fails, behind it
pub filter_back : {X : Type 0} (p : X → Bool) (xs : List X) (count : ℕ) → count ≤ length xs
    → IsPartitionPoint (λ x. p x ≡ true) (λ x. p x ≡ false) xs count → drop count xs ≡ filter (λ x. not (p x)) xs
filter_back p [] zero le point = refl
filter_back p [] (suc count) le point = absurd (omega arith)
filter_back p (x ∷ xs) zero le point =
    rw (point.1 0 x (omega arith) (omega arith))
    (ap (λ l. x ∷ l) (filter_back p xs zero (omega arith) (
      (λ k d low high. absurd (omega arith)),
      λ k d low high.
          point.1 (suc k) d (omega arith) (omega arith),
    )))
filter_back p (x ∷ xs) (suc count) le point =
    rw (point.0 0 x (omega arith) (omega arith))
    (filter_back p xs count (omega arith) (
      (λ k d low high. point.0 (suc k) d (omega arith)
          (omega arith)),
      λ k d low high. point.1 (suc k) d (omega arith) (omega arith),
    ))

-- what passes two tests
pub filter_twice : {X : Type 0} (p q : X → Bool) (xs : List X) → filter q (filter p xs) ≡ filter (λ x. p x && q x) xs
filter_twice p q [] = refl
filter_twice p q (x ∷ xs) = elim (p x) as (λ b. p x ≡ b → filter q (filter p (x ∷ xs))
    ≡ filter (λ y. p y && q y) (x ∷ xs)) [
      | true ↦ λ passes. rw passes (elim (q x) as (λ b. q x ≡ b → filter q (x ∷ filter p xs)
          ≡ (if q x then x ∷ filter (λ y. p y && q y) xs else filter (λ y. p y && q y) xs)) [
            | true ↦ λ both. rw both (ap (λ l. x ∷ l) (filter_twice p q xs))
            | false ↦ λ fails. rw fails (filter_twice p q xs)
          ] refl)
      | false ↦ λ fails. rw fails (filter_twice p q xs)
    ] refl

-- one item more that passes, or fails
pub push_passing : {X : Type 0} (p : X → Bool) (xs : List X) (x : X) → p x ≡ true
    → filter p (xs ++ x ∷ []) ≡ filter p xs ++ x ∷ []
push_passing p xs x is =
    let one : filter p (x ∷ []) ≡ x ∷ [] = rw is refl in
    filter-append p xs (x ∷ []) ∙ ap (λ l. filter p xs ++ l) one

pub push_failing : {X : Type 0} (p : X → Bool) (xs : List X) (x : X) → p x ≡ false
    → filter p (xs ++ x ∷ []) ≡ filter p xs
push_failing p xs x is =
    let none : filter p (x ∷ []) ≡ [] = rw is refl in
    filter-append p xs (x ∷ []) ∙ ap (λ l. filter p xs ++ l) none ∙ append-nil (filter p xs)
