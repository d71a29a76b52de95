-- Items of one group at the front of a list, and lists that are gone over group by group.
use Rattle.std.proofs.Common.{◌≡◌, ◌≢◌, ◌↔◌, ℕ, ◌+◌, ◌<◌, ◌≤◌, ◌⊎◌, ◌++◌, Bool, true, false, List, [], ◌∷◌, length}
use Rattle.std.proofs.Common.{get_or, take, drop, suc, refl, sym, ap, subst, ◌∙◌, inl, inr, arith, Ordering}
use Rattle.std.specs.declared.cmp.Ordering.TheVariants.{Less, Equal, Greater}
use Rattle.std.specs.List.{Contains, filter}
use Rattle.std.specs.List.Sorted.{IsPartitionPoint}
use Rattle.std.specs.Cmp.{IsTotalOrder}
use Rattle.std.specs.FinMap.{IsAntisymmetric}
use Rattle.std.specs.Ordering.{is_eq, is_lt, is_le, ordering_reverse}
use Rattle.std.proofs.Math.Seq.{take-add}
use Rattle.std.proofs.lemmas.Bool.{cases_order, false≢true}
use Rattle.std.proofs.lemmas.Cmp.{tied_itself}
use Rattle.std.proofs.lemmas.List.{get_or-drop, get_or_default, length-append, length-drop, length-take-le, drop-drop}
use Rattle.std.proofs.lemmas.List.{append-nil, take-append-drop, take_more}
use Rattle.std.proofs.lemmas.List.Elements.{Contains-append_cases, Contains-append_left, Contains-append_right}
use Rattle.std.proofs.lemmas.List.Elements.{Contains-get_or, filter-append}
use Rattle.plan_store_lists.specs.Blocks.{AreBlocks, GroupsRise, HasRoomAt, HasRoomFor, count_of, items_in}
use Rattle.plan_store_lists.specs.Keyed.{IsKeyed, LacksKey}
use Rattle.plan_store_lists.specs.declared.blocks.Block.{Block}
use Rattle.plan_store_lists.proofs.BlockLemmas.{items_append}
use Rattle.plan_store_lists.proofs.KeyLemmas.{contains_first, contains_later, less_apart, nothing}
use Rattle.plan_store_lists.proofs.MergeLemmas.{halves, halves_below}
use Rattle.plan_store_lists.proofs.SliceLemmas.{AtMost, Rises, between}

-- the groups of a list in the order of keys
module _ {G K X : Type 0} {group_cmp : G → G → Ordering} {cmp : K → K → Ordering}
    (group_total : IsTotalOrder group_cmp) (total : IsTotalOrder cmp) (group_of : X → G) (key : X → K)
    (rises : (x y : X) → group_cmp (group_of x) (group_of y) ≡ Less → cmp (key x) (key y) ≡ Less) (xs : List X)
    (keyed : IsKeyed cmp key xs) where
  not_above : (x y : X) → cmp (key x) (key y) ≡ Less → AtMost group_total (group_of x) (group_of y)
  not_above x y less =
      elim (group_cmp (group_of x) (group_of y)) as (λ r. group_cmp (group_of x) (group_of y) ≡ r
      → (r ≡ Less) ⊎ (r ≡ Equal)) [
        | Less ↦ λ _. inl refl
        | Equal ↦ λ _. inr refl
        | Greater ↦ λ above.
            let turned : group_cmp (group_of y) (group_of x) ≡ Less = group_total.antisymm (group_of y) (group_of x)
            ∙ ap ordering_reverse above in
            let back : cmp (key y) (key x) ≡ Less = rises y x turned in
            let ahead : cmp (key y) (key x) ≡ Greater = total.antisymm (key y) (key x) ∙ ap ordering_reverse less in
            cc
      ] refl

  pub groups_rise : Rises group_total group_of xs
  groups_rise i j d le lt = elim (cases_order i j) [
    | inl same ↦ inr (subst (λ n. group_cmp (group_of (get_or xs i d)) (group_of (get_or xs n d)) ≡ Equal) same
        (tied_itself group_total (group_of (get_or xs i d))))
    | inr (inl below) ↦ not_above (get_or xs i d) (get_or xs j d) (keyed i j d below lt)
    | inr (inr above) ↦ absurd (omega arith)
  ]

  -- the items up to the first one's group are of that group
  module _ (ties : IsAntisymmetric group_cmp) (first : X) (some : 0 < length xs) (at_first : first ≡ get_or xs 0 first)
      (count : ℕ) (le : count ≤ length xs)
      (point : IsPartitionPoint (λ x. is_le (group_cmp (group_of x) (group_of first)) ≡ true)
      (λ x. is_le (group_cmp (group_of x) (group_of first)) ≡ false) xs count) where
    not_below : (a b : G) → AtMost group_total b a → is_lt (group_cmp a b) ≡ false
    not_below a b (inl less) = ap is_lt (group_total.antisymm a b ∙ ap ordering_reverse less)
    not_below a b (inr same) = ap is_lt (group_total.antisymm a b ∙ ap ordering_reverse same)

    none_below : (k : ℕ) (d : X) → 0 ≤ k → k < length xs
        → is_lt (group_cmp (group_of (get_or xs k d)) (group_of first)) ≡ false
    none_below k d low high = not_below (group_of (get_or xs k d)) (group_of first)
        (subst (λ (y : X). AtMost group_total (group_of y) (group_of (get_or xs k d)))
        (get_or_default xs 0 d first some ∙ sym at_first) (groups_rise 0 k d low high))

    of_first : (x : X) → Contains (take count xs) x ↔ (Contains xs x × (group_of x ≡ group_of first))
    of_first = between group_total group_of ties xs (group_of first) 0 count (omega arith)
        ((λ k d low high. absurd (omega arith)), none_below) le point

    pub some_of_first : 0 < length (take count xs)
    some_of_first = let (k, lt, at) = (of_first first).1 ((0, some, sym at_first), refl) in omega arith

    pub one_of_first : (x y : X) → Contains (take count xs) x → Contains (take count xs) y → group_of x ≡ group_of y
    one_of_first x y at_x at_y = ((of_first x).0 at_x).1 ∙ sym ((of_first y).0 at_y).1

    pub rest_of_others : (x y : X) → Contains (take count xs) x → Contains (drop (length (take count xs)) xs) y
        → group_of x ≢ group_of y
    rest_of_others x y at_x at_y same =
        let (k, lt, at) = subst (λ n. Contains (drop n xs) y) (length-take-le count xs le) at_y in
        let here : get_or xs (count + k) y ≡ y = sym (get_or-drop count xs k y) ∙ at in
        let far : is_le (group_cmp (group_of y) (group_of first)) ≡ false =
        subst (λ (z : X). is_le (group_cmp (group_of z) (group_of first)) ≡ false) here
        (point.1 (count + k) y (omega arith) (omega (arith, length-drop count xs))) in
        let own : group_of y ≡ group_of first = sym same ∙ ((of_first x).0 at_x).1 in
        let tied : group_cmp (group_of y) (group_of first) ≡ Equal = subst (λ z. group_cmp (group_of y) z ≡ Equal) own
        (tied_itself group_total (group_of y)) in
        false≢true (sym far ∙ ap is_le tied)

-- how many items pass a test
module _ {X : Type 0} (p : X → Bool) where
  all_pass : (xs : List X) → ((x : X) → Contains xs x → p x ≡ true) → length (filter p xs) ≡ length xs
  all_pass [] all = refl
  all_pass (x ∷ xs) all = rw (all x (contains_first x xs))
      (ap suc (all_pass xs (λ y there. all y (contains_later x y xs there))))

  none_pass : (xs : List X) → ((x : X) → Contains xs x → p x ≡ false) → length (filter p xs) ≡ 0
  none_pass [] none = refl
  none_pass (x ∷ xs) none = rw (none x (contains_first x xs))
      (none_pass xs (λ y there. none y (contains_later x y xs there)))

  counted : (xs ys : List X) → length (filter p (xs ++ ys)) ≡ length (filter p xs) + length (filter p ys)
  counted xs ys = ap length (filter-append p xs ys) ∙ length-append (filter p xs) (filter p ys)

untied : (o : Ordering) → (o ≡ Equal → ⊥) → is_eq o ≡ false
untied Less apart = refl
untied Equal apart = absurd (apart refl)
untied Greater apart = refl

-- how many items are of a group
module _ {G X : Type 0} {group_cmp : G → G → Ordering} (group_total : IsTotalOrder group_cmp)
    (ties : IsAntisymmetric group_cmp) (group_of : X → G) (group : G) where
  abbrev is_of : X → Bool
  is_of x = is_eq (group_cmp (group_of x) group)

  of_it : (x : X) → group_of x ≡ group → is_of x ≡ true
  of_it x same = ap is_eq (subst (λ z. group_cmp (group_of x) z ≡ Equal) same (tied_itself group_total (group_of x)))

  of_other : (x : X) → group_of x ≢ group → is_of x ≡ false
  of_other x apart = untied (group_cmp (group_of x) group) (λ tied. apart (ties (group_of x) group tied))

  count_own : (xs ys : List X) → ((x : X) → Contains xs x → group_of x ≡ group)
      → ((x : X) → Contains ys x → group_of x ≢ group) → count_of group_cmp group_of (xs ++ ys) group ≡ length xs
  count_own xs ys own others =
      let all : length (filter is_of xs) ≡ length xs = all_pass is_of xs (λ x there. of_it x (own x there)) in
      let none : length (filter is_of ys) ≡ 0 = none_pass is_of ys (λ x there. of_other x (others x there)) in
      omega (arith, counted is_of xs ys)

  count_later : (xs ys : List X) → ((x : X) → Contains xs x → group_of x ≢ group)
      → count_of group_cmp group_of (xs ++ ys) group ≡ count_of group_cmp group_of ys group
  count_later xs ys others =
      let none : length (filter is_of xs) ≡ 0 = none_pass is_of xs (λ x there. of_other x (others x there)) in
      omega (arith, counted is_of xs ys)

-- a run of a list: the items of one group from a place on
module _ {X : Type 0} (xs run : List X) (start : ℕ) (front : run ≡ take (length run) (drop start xs)) where
  front_more : take (start + length run) xs ≡ take start xs ++ run
  front_more = take-add start (length run) xs ∙ ap (λ l. take start xs ++ l) (sym front)

  rest_parts : drop start xs ≡ run ++ drop (start + length run) xs
  rest_parts = sym (take-append-drop (length run) (drop start xs))
      ∙ ap (λ l. l ++ drop (length run) (drop start xs)) (sym front)
      ∙ ap (λ l. run ++ l) (drop-drop (length run) start xs)

  run_in : (x : X) → Contains run x → Contains (drop start xs) x
  run_in x there = subst (λ l. Contains l x) (sym rest_parts)
      (Contains-append_left run (drop (start + length run) xs) x there)

  rest_in : (x : X) → Contains (drop (start + length run) xs) x → Contains (drop start xs) x
  rest_in x there = subst (λ l. Contains l x) (sym rest_parts)
      (Contains-append_right run (drop (start + length run) xs) x there)

  run_within : (x : X) → Contains run x → Contains xs x
  run_within x there = (halves xs start x).1 (inr (run_in x there))

  -- those before the run and those in it
  front_cases : (x : X) → Contains (take (start + length run) xs) x ↔ (Contains (take start xs) x ⊎ Contains run x)
  front_cases x = (
    (λ there. Contains-append_cases (take start xs) run x (subst (λ l. Contains l x) front_more there)),
    λ either. subst (λ l. Contains l x) (sym front_more) (elim either [
      | inl before ↦ Contains-append_left (take start xs) run x before
      | inr own ↦ Contains-append_right (take start xs) run x own
    ]),
  )

  -- the items so far are out, or in
  module _ {K : Type 0} (key : X → K) (old now after : List X) where
    pub removed_more : ((x : X) → Contains now x ↔ (Contains old x × LacksKey key (take start xs) (key x)))
        → ((x : X) → Contains after x ↔ (Contains now x × LacksKey key run (key x))) → (x : X) → Contains after x
        ↔ (Contains old x × LacksKey key (take (start + length run) xs) (key x))
    removed_more before is x = (forward, backward)
      where
        forward : Contains after x → Contains old x × LacksKey key (take (start + length run) xs) (key x)
        forward there =
            let (stays, lacks) = (is x).0 there in
            let (was, lacked) = (before x).0 stays in
            (was, λ y at_y. elim ((front_cases y).0 at_y) [ inl early ↦ lacked y early | inr own ↦ lacks y own ])

        backward : Contains old x × LacksKey key (take (start + length run) xs) (key x) → Contains after x
        backward (was, lacks) = (is x).1 (
          (before x).1 (was, λ y early. lacks y ((front_cases y).1 (inl early))),
          λ y own. lacks y ((front_cases y).1 (inr own)),
        )

    pub inserted_more : ((x : X) → Contains now x ↔ (Contains (take start xs) x ⊎ Contains old x))
        → ((x : X) → Contains after x ↔ (Contains run x ⊎ Contains now x)) → (x : X) → Contains after x
        ↔ (Contains (take (start + length run) xs) x ⊎ Contains old x)
    inserted_more before is x = (forward, backward)
      where
        forward : Contains after x → Contains (take (start + length run) xs) x ⊎ Contains old x
        forward there = elim ((is x).0 there) [
          | inl own ↦ inl ((front_cases x).1 (inr own))
          | inr stood ↦ elim ((before x).0 stood) [
            | inl early ↦ inl ((front_cases x).1 (inl early))
            | inr was ↦ inr was
          ]
        ]

        backward : Contains (take (start + length run) xs) x ⊎ Contains old x → Contains after x
        backward (inl there) = elim ((front_cases x).0 there) [
          | inl early ↦ (is x).1 (inr ((before x).1 (inl early)))
          | inr own ↦ (is x).1 (inl own)
        ]
        backward (inr was) = (is x).1 (inr ((before x).1 (inr was)))

  -- in the order of keys
  pub run_new : {K : Type 0} {cmp : K → K → Ordering} (total : IsTotalOrder cmp) (ties : IsAntisymmetric cmp)
      (key : X → K) → IsKeyed cmp key xs → start ≤ length xs → (old now : List X)
      → ((x : X) → Contains xs x → LacksKey key old (key x))
      → ((x : X) → Contains now x ↔ (Contains (take start xs) x ⊎ Contains old x)) → (x : X) → Contains run x
      → LacksKey key now (key x)
  run_new total ties key keyed le old now new is x own y there same = elim ((is y).0 there) [
    | inl early ↦ less_apart total ties key (key y) (key x)
        (halves_below total ties key xs keyed start le y x early (run_in x own)) same
    | inr was ↦ new x (run_within x own) y was same
  ]

  -- those behind the run are of other groups
  module _ {G : Type 0} {group_cmp : G → G → Ordering} (group_total : IsTotalOrder group_cmp)
      (ties : IsAntisymmetric group_cmp) (group_of : X → G)
      (one : (x y : X) → Contains run x → Contains run y → group_of x ≡ group_of y)
      (others : (x y : X) → Contains run x → Contains (drop (length run) (drop start xs)) y
      → group_of x ≢ group_of y) where
    later_apart : (x y : X) → Contains run x → Contains (drop (start + length run) xs) y → group_of x ≢ group_of y
    later_apart x y own later = others x y own
        (subst (λ l. Contains l y) (sym (drop-drop (length run) start xs)) later)

    -- of the run's group the run is all that is left
    run_count : (x : X) → Contains run x → count_of group_cmp group_of (drop start xs) (group_of x) ≡ length run
    run_count x own = ap (λ l. count_of group_cmp group_of l (group_of x)) rest_parts
        ∙ count_own group_total ties group_of (group_of x) run (drop (start + length run) xs)
        (λ y there. one y x there own) (λ y there same. later_apart x y own there (sym same))

    -- and where the run's group does not come before, it is all of it
    run_counts : ((x y : X) → Contains (take start xs) x → Contains (drop start xs) y → group_of x ≢ group_of y)
        → (x : X) → Contains run x → count_of group_cmp group_of xs (group_of x) ≡ length run
    run_counts apart x own = ap (λ l. count_of group_cmp group_of l (group_of x)) (sym (take-append-drop start xs))
        ∙ count_later group_total ties group_of (group_of x) (take start xs) (drop start xs)
        (λ y early. apart y x early (run_in x own)) ∙ run_count x own

    -- a later group has as many items as before
    later_count : (x y : X) → Contains run x → Contains (drop (start + length run) xs) y
        → count_of group_cmp group_of (drop start xs) (group_of y)
        ≡ count_of group_cmp group_of (drop (start + length run) xs) (group_of y)
    later_count x y own later = ap (λ l. count_of group_cmp group_of l (group_of y)) rest_parts
        ∙ count_later group_total ties group_of (group_of y) run (drop (start + length run) xs)
        (λ z there same. later_apart x y own later (one x z own there ∙ same))

    -- the room for the run, and for those behind it once the run is in
    pub room_for_run : (blocks : List (Block G X)) → HasRoomFor group_cmp group_of (drop start xs) blocks → (x : X)
        → Contains run x → HasRoomAt blocks (group_of x) (length run)
    room_for_run blocks room x own = subst (HasRoomAt blocks (group_of x)) (run_count x own) (room x (run_in x own))

    pub room_stays : (now after : List (Block G X)) → 0 < length run
        → HasRoomFor group_cmp group_of (drop start xs) now
        → ((x : X) (group : G) (count : ℕ) → Contains run x → group_of x ≢ group → HasRoomAt now group count
        → HasRoomAt after group count) → HasRoomFor group_cmp group_of (drop (start + length run) xs) after
    room_stays now after some room stays y later =
        let x = get_or run 0 y in
        let own : Contains run x = Contains-get_or run 0 y some in
        stays x (group_of y) (count_of group_cmp group_of (drop (start + length run) xs) (group_of y)) own
        (later_apart x y own later)
        (subst (HasRoomAt now (group_of y)) (later_count x y own later) (room y (rest_in y later)))

    -- the groups so far do not come again
    pub apart_more : ((x y : X) → Contains (take start xs) x → Contains (drop start xs) y → group_of x ≢ group_of y)
        → (x y : X) → Contains (take (start + length run) xs) x → Contains (drop (start + length run) xs) y
        → group_of x ≢ group_of y
    apart_more apart x y there later = elim ((front_cases x).0 there) [
      | inl early ↦ apart x y early (rest_in y later)
      | inr own ↦ later_apart x y own later
    ]

    -- there is room for the groups so far
    pub room_more : (now after : List (Block G X))
        → ((x y : X) → Contains (take start xs) x → Contains (drop start xs) y → group_of x ≢ group_of y)
        → ((x : X) → Contains (take start xs) x
        → HasRoomAt now (group_of x) (count_of group_cmp group_of xs (group_of x)))
        → ((group : G) (count : ℕ) → HasRoomAt now group count → HasRoomAt after group count)
        → (first : X) → Contains run first → HasRoomAt after (group_of first) (length run) → (x : X)
        → Contains (take (start + length run) xs) x
        → HasRoomAt after (group_of x) (count_of group_cmp group_of xs (group_of x))
    room_more now after apart room stays first at_first made x there = elim ((front_cases x).0 there) [
      | inl early ↦ stays (group_of x) (count_of group_cmp group_of xs (group_of x)) (room x early)
      | inr own ↦ subst (λ group. HasRoomAt after group (count_of group_cmp group_of xs group))
          (one first x at_first own)
          (subst (HasRoomAt after (group_of first)) (sym (run_counts apart first at_first)) made)
    ]

-- the items of one block more
pub items_more : {G X : Type 0} (blocks : List (Block G X)) (i : ℕ) (block : Block G X) → i < length blocks
    → block ≡ get_or blocks i block → items_in (take (i + 1) blocks) ≡ items_in (take i blocks) ++ block.items.items
items_more blocks i block lt at = ap items_in (take_more blocks i block lt)
    ∙ items_append (take i blocks) (get_or blocks i block ∷ [])
    ∙ ap (λ l. items_in (take i blocks) ++ l) (append-nil (get_or blocks i block).items.items)
    ∙ ap (λ (b : Block _ _). items_in (take i blocks) ++ b.items.items) (sym at)

-- blocks whose items are as before, or that are empty
pub blocks_stay : {G K X : Type 0} (group_cmp : G → G → Ordering) (cmp : K → K → Ordering) (group_of : X → G)
    (key : X → K) (now after : List (Block G X)) → AreBlocks group_cmp cmp group_of key now
    → GroupsRise group_cmp after
    → ((block : Block G X) → Contains after block → (block.items.items ≡ []) ⊎ ((was : Block G X)
    × Contains now was × (was.group ≡ block.group) × (was.items.items ≡ block.items.items)))
    → AreBlocks group_cmp cmp group_of key after
blocks_stay {G} {K} {X} group_cmp cmp group_of key now after are rise same = record {
  rise = rise;
  keyed = λ block there. elim (same block there) [
    | inl none ↦ subst (IsKeyed cmp key) (sym none) (λ i j d lt lt_j. absurd (omega arith))
    | inr (was, stood, _, items) ↦ subst (IsKeyed cmp key) items (are.keyed was stood)
  ];
  grouped = λ block there x own. elim (same block there) [
    | inl none ↦ absurd (nothing x (subst (λ l. Contains l x) none own))
    | inr (was, stood, group, items) ↦ are.grouped was stood x (subst (λ l. Contains l x) (sym items) own) ∙ group
  ];
}
