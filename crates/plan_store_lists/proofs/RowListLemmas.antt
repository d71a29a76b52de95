-- How many rows there are, and room for rows in another order.
use Rattle.std.proofs.Common.{◌≡◌, ◌≢◌, ◌↔◌, ℕ, suc, ◌+◌, ◌-◌, ◌<◌, ◌≤◌, ◌^◌, ◌⊎◌, Bool, true, false, List, [], ◌∷◌, ◌++◌, length, refl}
use Rattle.std.proofs.Common.{sym, ap, ◌∙◌, inl, inr, arith}
use Rattle.std.specs.List.{Contains, filter, remove}
use Rattle.std.specs.List.Sorted.{IsPermutation}
use Rattle.std.specs.Cmp.Lexicographic.{slice_cmp}
use Rattle.std.specs.Ordering.{is_eq, nat_cmp}
use Rattle.std.proofs.lemmas.List.{length-append}
use Rattle.std.proofs.lemmas.List.Elements.{Contains-append_cases, Contains-append_left, Contains-append_right}
use Rattle.std.proofs.lemmas.List.Folds.{Any-from_list_any}
use Rattle.std.proofs.lemmas.List.Kept.{AllPairs-filter}
use Rattle.std.proofs.lemmas.List.Sorted.{Contains-permutation, IsPermutation-remove, length_permutation}
use Rattle.occurrences.specs.declared.row.Row.{Row}
use Rattle.external_dependencies.specs.Arrival.{arrival_cmp}
use Rattle.external_dependencies.specs.Nearest.{arrival_of}
use Rattle.external_dependencies.specs.declared.live.Arrival.{Arrival}
use Rattle.external_dependencies.proofs.NearestLemmas.{arrival_ties, arrival_total}
use Rattle.plan_store_lists.specs.Blocks.{HasRoomAt, HasRoomFor, count_of, items_of}
use Rattle.plan_store_lists.specs.Keyed.{AreApart, HasKey, IsKeyed, LacksKey, holds_key}
use Rattle.plan_store_lists.specs.RowBlocks.{AreRowBlocks}
use Rattle.plan_store_lists.specs.RowLists.{AreCountedRows, HasRowRoom, RowList, listed}
use Rattle.plan_store_lists.specs.Rows.{HasEachOnce}
use Rattle.plan_store_lists.specs.declared.blocks.Block.{Block}
use Rattle.plan_store_lists.specs.declared.blocks.Blocks.{Blocks}
use Rattle.plan_store_lists.proofs.BlockLemmas.{all_pairs_append}
use Rattle.plan_store_lists.proofs.KeyLemmas.{contains_cases, contains_filter, contains_first, contains_later}
use Rattle.plan_store_lists.proofs.KeyLemmas.{filter_contains, holds_lacks, less_apart}
use Rattle.plan_store_lists.proofs.RowBlockLemmas.{rows_keyed}
use Rattle.plan_store_lists.proofs.SeatLemmas.{equal_from}

module _ {X K : Type 0} (key : X → K) where
  -- where each key stands in another list, that one is as long
  pub as_many : (xs ys : List X) → AreApart key xs → ((x : X) → Contains xs x → HasKey key ys (key x))
      → length xs ≤ length ys
  as_many [] ys apart stand = omega arith
  as_many (x ∷ xs) ys apart stand =
      let (y, (i, lt, at), same) = stand x (contains_first x xs) in
      let moved : IsPermutation ys (y ∷ remove ys i) = IsPermutation-remove ys i y lt (sym at) in
      let rest : length xs ≤ length (remove ys i) = as_many xs (remove ys i)
      (λ i j d below lt. apart (suc i) (suc j) d (omega arith) (omega arith))
      (λ z there.
      let (w, among, same') = stand z (contains_later x z xs there) in
      elim (contains_cases y w (remove ys i) (Contains-permutation ys (y ∷ remove ys i) w moved among)) [
        | inl is ↦
            let (k, lt_k, at_k) = there in
            absurd (apart 0 (suc k) z (omega arith) (omega arith)
            (sym same ∙ ap key is ∙ same' ∙ ap key (sym at_k)))
        | inr later ↦ (w, later, same')
      ]) in
      omega (arith, rest, length_permutation ys (y ∷ remove ys i) moved)

  -- a list of the keys of two others that share none is as long as both
  pub both_lengths : (xs ys zs : List X) → AreApart key xs → AreApart key ys → AreApart key zs
      → ((x y : X) → Contains xs x → Contains ys y → key x ≢ key y)
      → ((x : X) → Contains xs x → HasKey key zs (key x)) → ((y : X) → Contains ys y → HasKey key zs (key y))
      → ((z : X) → Contains zs z → HasKey key xs (key z) ⊎ HasKey key ys (key z))
      → length zs ≡ length xs + length ys
  both_lengths xs ys zs apart apart' apart'' across stand stand' from =
      let low : length (xs ++ ys) ≤ length zs = as_many (xs ++ ys) zs
      (all_pairs_append (λ x y. key x ≢ key y) xs ys apart apart' across)
      (λ x there. elim (Contains-append_cases xs ys x there) [ inl here ↦ stand x here | inr later ↦ stand' x later ]) in
      let high : length zs ≤ length (xs ++ ys) = as_many zs (xs ++ ys) apart''
      (λ z there. elim (from z there) [
        | inl (x, here, same) ↦ (x, Contains-append_left xs ys x here, same)
        | inr (y, later, same) ↦ (y, Contains-append_right xs ys y later, same)
      ]) in
      omega (arith, low, high, length-append xs ys)

module _ {X : Type 0} (row_of : X → Row) where
  abbrev arrival_at : X → Arrival
  arrival_at x = arrival_of (row_of x)

  pub keyed_apart : (xs : List X) → IsKeyed arrival_cmp arrival_at xs → AreApart arrival_at xs
  keyed_apart xs keyed i j d below lt =
      less_apart arrival_total arrival_ties (λ (x : X). arrival_of (row_of x)) _ _ (keyed i j d below lt)

  -- a row has the key, or none has
  has_or_lacks : (xs : List X) (k : Arrival) → HasKey arrival_at xs k ⊎ LacksKey arrival_at xs k
  has_or_lacks xs k = elim (holds_key arrival_cmp arrival_at xs k)
      as (λ b. holds_key arrival_cmp arrival_at xs k ≡ b → HasKey arrival_at xs k ⊎ LacksKey arrival_at xs k) [
        | true ↦ λ is.
            let (i, x, lt, at, same) = Any-from_list_any (λ (x : X). is_eq (arrival_cmp (arrival_of (row_of x)) k)) xs is in
            inl (
              x,
              (i, lt, at),
              arrival_ties (arrival_of (row_of x)) k (equal_from (arrival_cmp (arrival_of (row_of x)) k)
                  same),
            )
        | false ↦ λ is. inr (holds_lacks arrival_total arrival_ties (λ (x : X). arrival_of (row_of x)) xs k is)
      ] refl

  -- how many are left beside others that stood
  left_count : (old rows new : List X) → IsKeyed arrival_cmp arrival_at old → IsKeyed arrival_cmp arrival_at rows
      → IsKeyed arrival_cmp arrival_at new → ((x : X) → Contains rows x → HasKey arrival_at old (arrival_at x))
      → ((x : X) → Contains new x ↔ (Contains old x × LacksKey arrival_at rows (arrival_at x)))
      → length old ≡ length new + length rows
  left_count old rows new keyed keyed' keyed'' stand removed = both_lengths arrival_at new rows old
      (keyed_apart new keyed'') (keyed_apart rows keyed') (keyed_apart old keyed)
      (λ x y there among same. ((removed x).0 there).1 y among (sym same))
      (λ x there. (x, ((removed x).0 there).0, refl))
      stand
      (λ z there. elim (has_or_lacks rows (arrival_at z)) [
        | inl has ↦ inr has
        | inr lacks ↦ inl (z, (removed z).1 (there, lacks), refl)
      ])

  -- as many are there where some are written in the place of others
  written_count : (old rows new : List X) → IsKeyed arrival_cmp arrival_at old → IsKeyed arrival_cmp arrival_at new
      → ((x : X) → Contains rows x → HasKey arrival_at old (arrival_at x))
      → ((x : X) → Contains new x
      ↔ (Contains rows x ⊎ (Contains old x × LacksKey arrival_at rows (arrival_at x)))) → length new ≡ length old
  written_count old rows new keyed keyed' stand written =
      let low : length new ≤ length old = as_many arrival_at new old (keyed_apart new keyed')
      (λ x there. elim ((written x).0 there) [
        | inl among ↦ stand x among
        | inr (was, lacks) ↦ (x, was, refl)
      ]) in
      let high : length old ≤ length new = as_many arrival_at old new (keyed_apart old keyed)
      (λ x there. elim (has_or_lacks rows (arrival_at x)) [
        | inl (y, among, same) ↦ (y, (written y).1 (inl among), same)
        | inr lacks ↦ (x, (written x).1 (inr (there, lacks)), refl)
      ]) in
      omega (arith, low, high)

  -- how many there are with new ones
  more_count : (old rows new : List X) → IsKeyed arrival_cmp arrival_at old → IsKeyed arrival_cmp arrival_at rows
      → IsKeyed arrival_cmp arrival_at new → ((x : X) → Contains rows x → LacksKey arrival_at old (arrival_at x))
      → ((x : X) → Contains new x ↔ (Contains rows x ⊎ Contains old x)) → length new ≡ length rows + length old
  more_count old rows new keyed keyed' keyed'' lacks inserted = both_lengths arrival_at rows old new
      (keyed_apart rows keyed') (keyed_apart old keyed) (keyed_apart new keyed'')
      (λ x y there among same. lacks x there y among (sym same))
      (λ x there. (x, (inserted x).1 (inl there), refl))
      (λ x there. (x, (inserted x).1 (inr there), refl))
      (λ z there. elim ((inserted z).0 there) [
        | inl among ↦ inl (z, among, refl)
        | inr old ↦ inr (z, old, refl)
      ])

  -- what a change makes of the count, and of the room for others
  pub left_counted : (old new : Blocks (List ℕ) X) (rows : List X) (count : ℕ) → AreCountedRows row_of old count
      → AreRowBlocks row_of new → IsKeyed arrival_cmp arrival_at rows
      → ((x : X) → Contains rows x → HasKey arrival_at (items_of old) (arrival_at x))
      → ((x : X) → Contains (items_of new) x ↔ (Contains (items_of old) x × LacksKey arrival_at rows (arrival_at x)))
      → (length rows ≤ count) × AreCountedRows row_of new (count - length rows)
      × (length (items_of new) ≤ length (items_of old))
  left_counted old new rows count are blocks keyed stand removed =
      let left = left_count (items_of old) rows (items_of new) (rows_keyed row_of old are.blocks) keyed
      (rows_keyed row_of new blocks) stand removed in
      let exact = are.exact in
      let few = are.few in (
        omega (arith, left, exact),
        record { blocks = blocks; exact = omega (arith, left, exact); few = omega (arith, few) },
        omega (arith, left),
      )

  pub written_counted : (old new : Blocks (List ℕ) X) (rows : List X) (count : ℕ) → AreCountedRows row_of old count
      → AreRowBlocks row_of new → ((x : X) → Contains rows x → HasKey arrival_at (items_of old) (arrival_at x))
      → ((x : X) → Contains (items_of new) x
      ↔ (Contains rows x ⊎ (Contains (items_of old) x × LacksKey arrival_at rows (arrival_at x))))
      → AreCountedRows row_of new count × (length (items_of new) ≤ length (items_of old))
  written_counted old new rows count are blocks stand written =
      let same = written_count (items_of old) rows (items_of new) (rows_keyed row_of old are.blocks)
      (rows_keyed row_of new blocks) stand written in (
        record { blocks = blocks; exact = are.exact ∙ sym same; few = are.few },
        omega (arith, same),
      )

  pub more_counted : (old new : Blocks (List ℕ) X) (rows : List X) (count : ℕ) → AreCountedRows row_of old count
      → AreRowBlocks row_of new → IsKeyed arrival_cmp arrival_at rows
      → ((x : X) → Contains rows x → LacksKey arrival_at (items_of old) (arrival_at x))
      → ((x : X) → Contains (items_of new) x ↔ (Contains rows x ⊎ Contains (items_of old) x))
      → length (items_of old) + length rows < 2 ^ 62 → AreCountedRows row_of new (count + length rows)
  more_counted old new rows count are blocks keyed lacks inserted few =
      let more = more_count (items_of old) rows (items_of new) (rows_keyed row_of old are.blocks) keyed
      (rows_keyed row_of new blocks) lacks inserted in
      let exact = are.exact in
      record { blocks = blocks; exact = omega (arith, more, exact); few = omega (arith, exact, few) }

  pub room_stays : (more : List X) (old new : Blocks (List ℕ) X) → length (items_of new) ≤ length (items_of old)
      → ((app : List ℕ) (count : ℕ) → HasRoomAt old.blocks.items app count → HasRoomAt new.blocks.items app count)
      → HasRowRoom row_of more (listed old.blocks.items) → HasRowRoom row_of more (listed new.blocks.items)
  room_stays more old new le stays has =
      let few = has.few in
      record {
        room = λ x there. stays (row_of x).key.app
            (count_of (slice_cmp nat_cmp) (λ y. (row_of y).key.app) more (row_of x).key.app) (has.room x there);
        few = omega (arith, few, le);
      }

  -- rows of different serials have different keys
  pub once_apart : (xs : List X) → HasEachOnce row_of xs → AreApart arrival_at xs
  once_apart xs once i j d below lt same = once i j d below lt (ap (λ (a : Arrival). a.serial) same)

  module _ (xs ys : List X) (apart : AreApart arrival_at xs) (apart' : AreApart arrival_at ys)
      (same : (x : X) → Contains ys x ↔ Contains xs x) where
    same_length : length ys ≡ length xs
    same_length =
        let low : length xs ≤ length ys = as_many arrival_at xs ys apart (λ x there. (x, (same x).1 there, refl)) in
        let high : length ys ≤ length xs = as_many arrival_at ys xs apart' (λ x there. (x, (same x).0 there, refl)) in
        omega (arith, low, high)

    same_part : (p : X → Bool) → length (filter p ys) ≡ length (filter p xs)
    same_part p =
        let low : length (filter p xs) ≤ length (filter p ys) = as_many arrival_at (filter p xs) (filter p ys)
        (AllPairs-filter (λ x y. arrival_at x ≢ arrival_at y) p xs apart)
        (λ x there. let (among, passes) = contains_filter p xs x there in
        (x, filter_contains p ys x ((same x).1 among) passes, refl)) in
        let high : length (filter p ys) ≤ length (filter p xs) = as_many arrival_at (filter p ys) (filter p xs)
        (AllPairs-filter (λ x y. arrival_at x ≢ arrival_at y) p ys apart')
        (λ x there. let (among, passes) = contains_filter p ys x there in
        (x, filter_contains p xs x ((same x).0 among) passes, refl)) in
        omega (arith, low, high)

    -- room for rows in one order is room for them in another
    pub same_room : (blocks : List (Block (List ℕ) X))
        → HasRoomFor (slice_cmp nat_cmp) (λ x. (row_of x).key.app) ys blocks
        → HasRoomFor (slice_cmp nat_cmp) (λ x. (row_of x).key.app) xs blocks
    same_room blocks room x there =
        let (block, among, is, fits) = room x ((same x).1 there) in (
          block,
          among,
          is,
          omega (
            arith,
            fits,
            same_part (λ y. is_eq (slice_cmp nat_cmp (row_of y).key.app
                (row_of x).key.app)),
          ),
        )

    pub same_row_room : (list : RowList X) → HasRowRoom row_of ys list → HasRowRoom row_of xs list
    same_row_room list has = record { room = same_room list.blocks has.room; few = omega (arith, has.few, same_length) }
