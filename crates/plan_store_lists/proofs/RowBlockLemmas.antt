-- Rows in blocks, by their arrivals and by the keys of the list.
use Rattle.std.proofs.Common.{◌≡◌, ◌↔◌, ◌⊎◌, ℕ, List, get_or, inl, inr, sym, subst, ◌∙◌, Ordering, Result}
use Rattle.std.proofs.Common.{OnOk}
use Rattle.std.specs.declared.cmp.Ordering.TheVariants.{Equal}
use Rattle.std.specs.List.{Contains}
use Rattle.std.specs.Cmp.{IsTotalOrder}
use Rattle.std.specs.Cmp.Lexicographic.{slice_cmp}
use Rattle.std.specs.FinMap.{IsAntisymmetric}
use Rattle.std.specs.Ordering.{nat_cmp}
use Rattle.std.proofs.lemmas.Cmp.{on_total, tied_itself}
use Rattle.occurrences.specs.declared.row.Row.{Row}
use Rattle.external_dependencies.specs.Arrival.{arrival_cmp}
use Rattle.external_dependencies.specs.Nearest.{arrival_of}
use Rattle.external_dependencies.proofs.NearestLemmas.{arrival_ties, arrival_total}
use Rattle.external_dependencies.proofs.RisingLemmas.{rising_unique}
use Rattle.plan_store_lists.specs.Blocks.{AreBlocks, HasRoomFor, items_of}
use Rattle.plan_store_lists.specs.Keyed.{AreApart, HasKey, IsKeyed, LacksKey}
use Rattle.plan_store_lists.specs.RowBlocks.{AreRowBlocks, HasRoomForRows, apps_rise}
use Rattle.plan_store_lists.specs.declared.blocks.Blocks.{Blocks}
use Rattle.plan_store_lists.proofs.BlockLemmas.{blocks_keyed}

module _ {X : Type 0} (row_of : X → Row) where
  -- the rows of blocks are in order
  pub rows_keyed : (list : Blocks (List ℕ) X) → AreRowBlocks row_of list
      → IsKeyed arrival_cmp (λ x. arrival_of (row_of x)) (items_of list)
  rows_keyed list are = blocks_keyed (slice_cmp nat_cmp) arrival_cmp (λ x. (row_of x).key.app)
      (λ x. arrival_of (row_of x)) list.blocks.items are (λ x y. apps_rise (row_of x) (row_of y))

  -- rows in order are told by what they are
  pub rows_unique : (xs ys : List X) → IsKeyed arrival_cmp (λ x. arrival_of (row_of x)) xs
      → IsKeyed arrival_cmp (λ x. arrival_of (row_of x)) ys → ((x : X) → Contains xs x ↔ Contains ys x) → xs ≡ ys
  rows_unique xs ys keyed keyed' same = rising_unique (λ x y. arrival_cmp (arrival_of (row_of x))
      (arrival_of (row_of y))) (on_total (λ x. arrival_of (row_of x)) arrival_total) xs ys keyed keyed' same

  -- a key of the list that compares as the arrival does
  module _ {K : Type 0} (cmp : K → K → Ordering) (key : X → K) (ordered : (x y : X) → cmp (key x) (key y)
      ≡ arrival_cmp (arrival_of (row_of x)) (arrival_of (row_of y))) where
    pub keyed_as : (xs : List X) → IsKeyed arrival_cmp (λ x. arrival_of (row_of x)) xs → IsKeyed cmp key xs
    keyed_as xs keyed i j d lt lt_j = ordered (get_or xs i d) (get_or xs j d) ∙ keyed i j d lt lt_j

    pub keyed_from : (xs : List X) → IsKeyed cmp key xs → IsKeyed arrival_cmp (λ x. arrival_of (row_of x)) xs
    keyed_from xs keyed i j d lt lt_j = sym (ordered (get_or xs i d) (get_or xs j d)) ∙ keyed i j d lt lt_j

    -- and a group that is the application
    module _ (group_of : X → List ℕ) (grouped : (x : X) → group_of x ≡ (row_of x).key.app) where
      pub blocks_as : (list : Blocks (List ℕ) X) → AreRowBlocks row_of list
          → AreBlocks (slice_cmp nat_cmp) cmp group_of key list.blocks.items
      blocks_as list are = record {
        rise = are.rise;
        keyed = λ block at. keyed_as block.items.items (are.keyed block at);
        grouped = λ block at x there. grouped x ∙ are.grouped block at x there;
      }

      pub blocks_from : (list : Blocks (List ℕ) X)
          → AreBlocks (slice_cmp nat_cmp) cmp group_of key list.blocks.items → AreRowBlocks row_of list
      blocks_from list are = record {
        rise = are.rise;
        keyed = λ block at. keyed_from block.items.items (are.keyed block at);
        grouped = λ block at x there. sym (grouped x) ∙ are.grouped block at x there;
      }

    module _ (total : IsTotalOrder cmp) (ties : IsAntisymmetric cmp) where
      arrival_same : (x y : X) → key x ≡ key y → arrival_of (row_of x) ≡ arrival_of (row_of y)
      arrival_same x y same = arrival_ties (arrival_of (row_of x)) (arrival_of (row_of y))
          (sym (ordered x y) ∙ subst (λ k. cmp (key x) k ≡ Equal) same (tied_itself total (key x)))

      key_same : (x y : X) → arrival_of (row_of x) ≡ arrival_of (row_of y) → key x ≡ key y
      key_same x y same = ties (key x) (key y) (ordered x y
          ∙ subst (λ a. arrival_cmp (arrival_of (row_of x)) a ≡ Equal) same
          (tied_itself arrival_total (arrival_of (row_of x))))

      pub apart_as : (xs : List X) → AreApart (λ x. arrival_of (row_of x)) xs → AreApart key xs
      apart_as xs apart i j d lt lt_j same = apart i j d lt lt_j (arrival_same (get_or xs i d) (get_or xs j d) same)

      pub has_as : (xs : List X) (x : X) → HasKey (λ x. arrival_of (row_of x)) xs (arrival_of (row_of x))
          → HasKey key xs (key x)
      has_as xs x (y, there, same) = (y, there, key_same y x same)

      pub lacks_as : (xs : List X) (x : X) → LacksKey (λ x. arrival_of (row_of x)) xs (arrival_of (row_of x))
          → LacksKey key xs (key x)
      lacks_as xs x lacks y there same = lacks y there (arrival_same y x same)

      lacks_from : (xs : List X) (x : X) → LacksKey key xs (key x) → LacksKey (λ x. arrival_of (row_of x)) xs
          (arrival_of (row_of x))
      lacks_from xs x lacks y there same = lacks y there (key_same y x same)

      -- what is left beside others
      pub beside : (old others new : List X)
          → ((x : X) → Contains new x ↔ (Contains old x × LacksKey key others (key x))) → (x : X) → Contains new x
          ↔ (Contains old x × LacksKey (λ x. arrival_of (row_of x)) others (arrival_of (row_of x)))
      beside old others new are x = (
        (λ there. let both = (are x).0 there in (both.0, lacks_from others x both.1)),
        λ both. (are x).1 (both.0, lacks_as others x both.1),
      )

      -- what is left where some are written
      pub written_as : (old items new : List X)
          → ((x : X) → Contains new x ↔ (Contains items x ⊎ (Contains old x × LacksKey key items (key x)))) → (x : X)
          → Contains new x ↔ (Contains items x ⊎ (Contains old x × LacksKey (λ x. arrival_of (row_of x)) items
          (arrival_of (row_of x))))
      written_as old items new are x = (
        (λ there. elim ((are x).0 there) [ inl at ↦ inl at | inr both ↦ inr (both.0, lacks_from items x both.1) ]),
        λ either. (are x).1 (elim either [ inl at ↦ inl at | inr both ↦ inr (both.0, lacks_as items x both.1) ]),
      )

  -- a group that is the application
  module _ (group_of : X → List ℕ) (grouped : (x : X) → group_of x ≡ (row_of x).key.app) where
    same_groups : group_of ≡ (λ x. (row_of x).key.app)
    same_groups i x = grouped x i

    pub room_as : (rows : List X) (list : Blocks (List ℕ) X) → HasRoomForRows row_of rows list
        → HasRoomFor (slice_cmp nat_cmp) group_of rows list.blocks.items
    room_as rows list = subst (λ f. HasRoomFor (slice_cmp nat_cmp) f rows list.blocks.items) (sym same_groups)

    pub room_from : {T E : Type 0} (rows : List X) (list : Blocks (List ℕ) X) (r : Result T E)
        → OnOk r (HasRoomFor (slice_cmp nat_cmp) group_of rows list.blocks.items)
        → OnOk r (HasRoomForRows row_of rows list)
    room_from rows list r = subst (λ f. OnOk r (HasRoomFor (slice_cmp nat_cmp) f rows list.blocks.items)) same_groups
