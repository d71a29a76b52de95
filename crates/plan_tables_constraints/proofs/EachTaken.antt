-- Rows that are put in one after another, each of which is taken as the table stands when its turn comes.
use Rattle.std.proofs.Common.{◌≡◌, ◌≤◌, ℕ, zero, suc, List, [], ◌∷◌, length, inl, inr, refl, sym, subst, arith}
use Rattle.std.specs.List.{AllPairs, Contains}
use Rattle.sqlite.specs.Order.{Row as Values}
use Rattle.sqlite.specs.Rowids.TheVariants.{Chosen}
use Rattle.sqlite_rules.specs.Edit.{with_rowid}
use Rattle.plan_store_lists.proofs.KeyLemmas.{contains_first, contains_later, one_is}
use Rattle.sqlite_rules.specs.Edit.{next_rowid}
use Rattle.sqlite_value.specs.declared.value.Value.TheVariants.{Int}
use Rattle.plan_tables_schema.specs.Rows.{Tables, placed, shown, stored, with_cells, without_key}
use Rattle.plan_tables_schema.specs.Accepted.{AcceptsRow}
use Rattle.plan_tables_schema.specs.declared.tables.Table.{Table}
use Rattle.plan_tables_writing.specs.Accepted.{AcceptsEach}
use Rattle.plan_tables_writing.specs.Writing.{without_each}
use Rattle.plan_tables_constraints.specs.Room.{HaveRoom}
use Rattle.plan_tables_constraints.proofs.Held.{Shows}
use Rattle.plan_tables_constraints.proofs.RowFits.{room_after, room_left}
use Rattle.plan_tables_constraints.proofs.SetMoves.{at_itself, shows_cells}

module _ {X : Type 0} (Apart : X → X → Type 0) where
  -- the first is apart from each later one
  pub first_apart : (x : X) (xs : List X) → AllPairs Apart (x ∷ xs) → (y : X) → Contains xs y → Apart x y
  first_apart x xs all y (k, lt, at) = subst (Apart x) at (all 0 (suc k) y (omega arith) (omega (arith, lt)))

  pub later_apart : (x : X) (xs : List X) → AllPairs Apart (x ∷ xs) → AllPairs Apart xs
  later_apart x xs all i j d lt within = all (suc i) (suc j) d (omega (arith, lt)) (omega (arith, within))

module _ {X : Type 0} (t : Table) (values_of : X → Values) (Is : X → Type 0) (Apart : X → X → Type 0) where
  -- each row shows one that is so, and that is apart from each of these
  abbrev pub StandBeside : List X → List Values → Type 0
  StandBeside xs rows = (v : Values) → Shows t rows v
      → (y : X) × (v ≡ values_of y) × Is y × ((x : X) → Contains xs x → Apart y x)

  module _ (Room : List X → Tables → Type 0)
      (shows : (x : X) → Is x → (rows : List Values) → shown t (with_rowid Chosen rows (stored t
      (values_of x))) ≡ values_of x)
      (one : (x : X) (xs : List X) (all : Tables) → Is x → Room (x ∷ xs) all → StandBeside (x ∷ []) (all t)
      → AcceptsRow t (values_of x) all)
      (less : (x : X) (xs : List X) (all : Tables) → Is x → Room (x ∷ xs) all
      → Room xs (with_cells t (values_of x) all)) where
    pub each_taken : (xs : List X) (all : Tables) → AllPairs Apart xs → ((x : X) → Contains xs x → Is x)
        → Room xs all → StandBeside xs (all t) → AcceptsEach t values_of xs all
    each_taken [] all apart are room beside = tt
    each_taken (x ∷ xs) all apart are room beside = (
      one x xs all (are x (contains_first x xs)) room first,
      each_taken xs (with_cells t (values_of x) all) (later_apart Apart x xs apart)
          (λ y has. are y (contains_later x y xs has)) (less x xs all (are x (contains_first x xs)) room) later,
    )
      where
        first : StandBeside (x ∷ []) (all t)
        first v there =
            let (y, is, so, far) = beside v there in
            (y, is, so, λ z has. subst (Apart y) (one_is x z has) (far x (contains_first x xs)))

        later : StandBeside xs (with_cells t (values_of x) all t)
        later v there = elim ((shows_cells t (λ (u : Unit {0}). values_of x)
            (λ u. shows x (are x (contains_first x xs))) tt all v).0 there) [
              | inl is ↦ (x, sym is, are x (contains_first x xs), first_apart Apart x xs apart)
              | inr old ↦
                  let (y, is, so, far) = beside v old in
                  (y, is, so, λ z has. far z (contains_later x z xs has))
            ]

-- there is room where rows are taken out
pub room_without : {X : Type 0} (n : ℕ) (t : Table) (key_of : X → Values) (xs : List X) (all : Tables)
    → HaveRoom n (all t) → HaveRoom n (without_each t key_of xs all t)
room_without n t key_of [] all room = room
room_without n t key_of (x ∷ xs) all room = room_without n t key_of xs (without_key t (key_of x) all)
    (subst (HaveRoom n) (sym (at_itself t _ all)) (room_left n _ (all t) room))

-- a table that shows nothing has no rows
pub no_rows : (t : Table) (rows : List Values) → ((v : Values) → Shows t rows v → ⊥) → rows ≡ []
no_rows t [] none = refl
no_rows t (r ∷ rows) none = absurd (none (shown t r) (contains_first (shown t r) _))

-- ---- rows that are numbered as they come

-- there is room for a row for each of these
abbrev pub RoomFor : {X : Type 0} → List X → List Values → Type 0
RoomFor xs rows = (n : ℕ) × (length xs ≤ n) × HaveRoom n rows

module _ {X : Type 0} where
  pub room_for_one : (x : X) (xs : List X) (rows : List Values) → RoomFor (x ∷ xs) rows
      → (n : ℕ) × (length xs ≤ n) × HaveRoom (suc n) rows
  room_for_one x xs rows (zero, le, room) = absurd (omega (arith, le))
  room_for_one x xs rows (suc n, le, room) = (n, omega (arith, le), room)

  -- room for the rest, once the first is there under the next number
  pub room_for_rest : (t : Table) (x : X) (xs : List X) (rest : Values) (all : Tables) → RoomFor (x ∷ xs) (all t)
      → RoomFor xs (placed (Int (next_rowid (all t)) ∷ rest) (all t))
  room_for_rest t x xs rest all room =
      let (n, le, has) = room_for_one x xs (all t) room in
      (n, le, room_after n (all t) has rest)
