-- Lists of predecessors in blocks, and a list in the place of another.
use Rattle.std.proofs.Common.{◌≡◌, ◌≢◌, ◌↔◌, ℕ, ◌+◌, ◌<◌, ◌⊎◌, Bool, true, List, [], ◌∷◌, ◌++◌, length}
use Rattle.std.proofs.Common.{get_or, map, take, drop, refl, sym, ap, subst, ◌∙◌, inl, inr, arith, Bor, Ordering, Option, Some, None}
use Rattle.std.proofs.Common.{option_map}
use Rattle.std.specs.declared.cmp.Ordering.TheVariants.{Less, Equal, Greater}
use Rattle.std.specs.List.{Contains, filter}
use Rattle.std.specs.Cmp.{IsTotalOrder}
use Rattle.std.specs.Cmp.Lexicographic.{slice_cmp}
use Rattle.std.specs.Ordering.{is_gt, is_lt, nat_cmp, ordering_reverse}
use Rattle.std.proofs.lemmas.Cmp.{nat_list_cmp_total, on_total, then_total, tied_itself}
use Rattle.std.proofs.lemmas.Bool.{false≢true}
use Rattle.std.proofs.lemmas.List.{get_or_default, get_or-drop, get_or-map, get_or-take, length-drop, length-map, length-take-le, take_more}
use Rattle.std.proofs.lemmas.List.Elements.{Contains-append_cases, Contains-append_left, Contains-append_right}
use Rattle.std.proofs.lemmas.List.Kept.{AllPairs-filter}
use Rattle.external_dependencies.specs.Link.{KeepsNames, link_cmp}
use Rattle.external_dependencies.specs.Rising.{IsRising}
use Rattle.external_dependencies.specs.declared.links.Link.{Link}
use Rattle.external_dependencies.proofs.LexLemmas.{link_total}
use Rattle.external_dependencies.proofs.MapLemmas.{map_back, map_has}
use Rattle.external_dependencies.proofs.OrderLemmas.{keeps_all, less_not_equal, name_ties, named_once}
use Rattle.external_dependencies.proofs.OrderLemmas.{names_tie}
use Rattle.external_dependencies.proofs.RisingLemmas.{rising_unique}
use Rattle.plan_store_lists.specs.Blocks.{items_in}
use Rattle.plan_store_lists.specs.Keyed.{AreApart, LacksKey}
use Rattle.plan_store_lists.specs.LinkBlocks.{AreLinkBlocks, links_rise, names_cmp, names_in, names_of, naming_of}
use Rattle.plan_store_lists.specs.LinkBlocks.{with_list}
use Rattle.plan_store_lists.specs.ListsThen.{links_then, with_own}
use Rattle.plan_store_lists.specs.declared.app_lists.AppList.{AppList}
use Rattle.plan_store_lists.specs.declared.blocks.Block.{Block}
use Rattle.plan_store_lists.specs.declared.lists_then.ListsThen.{ListsThen}
use Rattle.plan_store_lists.specs.declared.namings.Names.{Names}
use Rattle.plan_store_lists.specs.declared.namings.Naming.{Naming}
use Rattle.plan_store_lists.proofs.BlockLemmas.{all_pairs_append, blocks_keyed}
use Rattle.plan_store_lists.proofs.KeyLemmas.{contains_filter, contains_first, filter_contains, one_is}
use Rattle.plan_store_lists.proofs.MergeLemmas.{halves}
use Rattle.plan_store_lists.proofs.RunLemmas.{items_more}

-- the links of blocks rise
pub links_rising : (blocks : List (Block (List ℕ) Link)) → AreLinkBlocks blocks → IsRising link_cmp (items_in blocks)
links_rising blocks are = blocks_keyed (slice_cmp nat_cmp) names_cmp (λ (link : Link). link.app) names_of blocks are
    links_rise

-- names are in a total order
pub names_total : IsTotalOrder names_cmp
names_total = then_total (on_total (λ (names : Names). names.first) nat_list_cmp_total)
    (on_total (λ (names : Names). names.second) nat_list_cmp_total)

-- rising lists of the same links are the same
pub links_unique : (xs ys : List Link) → IsRising link_cmp xs → IsRising link_cmp ys
    → ((link : Link) → Contains xs link ↔ Contains ys link) → xs ≡ ys
links_unique xs ys rising rising' same = rising_unique link_cmp link_total xs ys rising rising' same

-- what is kept of links that rise among others is all of them
pub kept_among : (all links kept : List Link) → IsRising link_cmp all
    → ((link : Link) → Contains links link → Contains all link) → KeepsNames links kept
    → (link : Link) → Contains kept link ↔ Contains links link
kept_among all links kept rising among keeps = keeps_all links kept
    (λ a b at_a at_b same. named_once all rising a b (among a at_a) (among b at_b) same) keeps

-- an application comes before another, or after it
is_apart : (a b : List ℕ) → a ≢ b → (is_lt (slice_cmp nat_cmp a b) ≡ true) ⊎ (is_gt (slice_cmp nat_cmp a b) ≡ true)
is_apart a b apart = elim (slice_cmp nat_cmp a b)
    as (λ o. slice_cmp nat_cmp a b ≡ o → (is_lt o ≡ true) ⊎ (is_gt o ≡ true)) [
      | Less ↦ λ _. inl refl
      | Equal ↦ λ tied. absurd (apart (name_ties a b tied))
      | Greater ↦ λ _. inr refl
    ] refl

is_less : (o : Ordering) → is_lt o ≡ true → o ≡ Less
is_less Less is = refl
is_less Equal is = absurd (false≢true is)
is_less Greater is = absurd (false≢true is)

is_greater : (o : Ordering) → is_gt o ≡ true → o ≡ Greater
is_greater Less is = absurd (false≢true is)
is_greater Equal is = absurd (false≢true is)
is_greater Greater is = refl

tied_names : (a b : List ℕ) → a ≡ b → slice_cmp nat_cmp a b ≡ Equal
tied_names a b same = subst (λ z. slice_cmp nat_cmp a z ≡ Equal) same (tied_itself nat_list_cmp_total a)

module _ (app : List ℕ) (list links : List Link) where
  abbrev comes_before : Link → Bool
  comes_before link = is_lt (slice_cmp nat_cmp link.app app)

  abbrev comes_after : Link → Bool
  comes_after link = is_gt (slice_cmp nat_cmp link.app app)

  before_less : (link : Link) → comes_before link ≡ true → slice_cmp nat_cmp link.app app ≡ Less
  before_less link is = is_less (slice_cmp nat_cmp link.app app) is

  after_less : (link : Link) → comes_after link ≡ true → slice_cmp nat_cmp app link.app ≡ Less
  after_less link is = nat_list_cmp_total.antisymm app link.app
      ∙ ap ordering_reverse (is_greater (slice_cmp nat_cmp link.app app) is)

  before_apart : (link : Link) → comes_before link ≡ true → link.app ≢ app
  before_apart link is same = less_not_equal (sym (before_less link is) ∙ tied_names link.app app same)

  after_apart : (link : Link) → comes_after link ≡ true → link.app ≢ app
  after_apart link is same = less_not_equal (sym (after_less link is) ∙ tied_names app link.app (sym same))

  -- a list in the place of the one of its application: its links, and those of the others
  pub with_list-contains : (link : Link) → Contains (with_list app list links) link
      ↔ (Contains list link ⊎ (Contains links link × (link.app ≢ app)))
  with_list-contains link = (forward, backward)
    where
      forward : Contains (with_list app list links) link → Contains list link
          ⊎ (Contains links link × (link.app ≢ app))
      forward there = elim (Contains-append_cases (filter comes_before links) (list ++ filter comes_after links) link
          there) [
            | inl early ↦
                let is = contains_filter comes_before links link early in
                inr (is.0, before_apart link is.1)
            | inr rest ↦ elim (Contains-append_cases list (filter comes_after links) link rest) [
              | inl here ↦ inl here
              | inr late ↦ let is = contains_filter comes_after links link late in inr (is.0, after_apart link is.1)
            ]
          ]

      backward : Contains list link ⊎ (Contains links link × (link.app ≢ app)) → Contains (with_list app list links)
          link
      backward (inl here) = Contains-append_right (filter comes_before links) (list ++ filter comes_after links) link
          (Contains-append_left list (filter comes_after links) link here)
      backward (inr (old, apart)) = elim (is_apart link.app app apart) [
        | inl early ↦ Contains-append_left (filter comes_before links) (list ++ filter comes_after links) link
            (filter_contains comes_before links link old early)
        | inr late ↦ Contains-append_right (filter comes_before links) (list ++ filter comes_after links) link
            (Contains-append_right list (filter comes_after links) link (filter_contains comes_after links link old late))
      ]

  -- and they rise
  pub with_list-rising : IsRising link_cmp list → ((link : Link) → Contains list link → link.app ≡ app)
      → IsRising link_cmp links → IsRising link_cmp (with_list app list links)
  with_list-rising rises own rising =
      all_pairs_append (λ x y. link_cmp x y ≡ Less) (filter comes_before links) (list ++ filter comes_after links)
      (AllPairs-filter (λ x y. link_cmp x y ≡ Less) comes_before links rising)
      (all_pairs_append (λ x y. link_cmp x y ≡ Less) list (filter comes_after links) rises
      (AllPairs-filter (λ x y. link_cmp x y ≡ Less) comes_after links rising) ahead) behind
    where
      ahead : (x y : Link) → Contains list x → Contains (filter comes_after links) y → link_cmp x y ≡ Less
      ahead x y at_x at_y = links_rise x y (subst (λ a. slice_cmp nat_cmp a y.app ≡ Less) (sym (own x at_x))
          (after_less y (contains_filter comes_after links y at_y).1))

      behind : (x y : Link) → Contains (filter comes_before links) x
          → Contains (list ++ filter comes_after links) y → link_cmp x y ≡ Less
      behind x y at_x at_y =
          let below = before_less x (contains_filter comes_before links x at_x).1 in
          elim (Contains-append_cases list (filter comes_after links) y at_y) [
            | inl here ↦ links_rise x y (subst (λ a. slice_cmp nat_cmp x.app a ≡ Less) (sym (own y here)) below)
            | inr late ↦ links_rise x y (nat_list_cmp_total.trans x.app app y.app below
                (after_less y (contains_filter comes_after links y late).1))
          ]

  -- rising links that are those with the list in its place
  pub with_list-is : IsRising link_cmp list → ((link : Link) → Contains list link → link.app ≡ app)
      → IsRising link_cmp links → (new : List Link) → IsRising link_cmp new
      → ((link : Link) → Contains new link ↔ (Contains list link ⊎ (Contains links link × (link.app ≢ app))))
      → new ≡ with_list app list links
  with_list-is rises own rising new rises' are = links_unique new (with_list app list links) rises'
      (with_list-rising rises own rising) (λ link. (
        (λ there. (with_list-contains link).1 ((are link).0 there)),
        λ there. (are link).1 ((with_list-contains link).0 there),
      ))

-- and so do those where it may be that no list is replaced
pub with_own-rising : (own : Option AppList) (links : List Link) → IsRising link_cmp links
    → IsRising link_cmp (with_own own links)
with_own-rising None links rising = rising
with_own-rising (Some list) links rising = with_list-rising list.app list.links.items links list.rising list.own rising

pub then_rising : (then : ListsThen) → IsRising link_cmp then.lists.now.items → IsRising link_cmp (links_then then)
then_rising then rising = with_own-rising (option_map (λ (list : Bor AppList). list.now) then.own) then.lists.now.items
    rising

pub then_some : (then : ListsThen) (own : Bor AppList) → then.own ≡ Some own
    → links_then then ≡ with_list own.now.app own.now.links.items then.lists.now.items
then_some then own is = ap (λ (o : Option (Bor AppList)). with_own (option_map (λ (list : Bor AppList). list.now) o)
    then.lists.now.items) is

pub then_none : (then : ListsThen) → then.own ≡ None → links_then then ≡ then.lists.now.items
then_none then is = ap (λ (o : Option (Bor AppList)). with_own (option_map (λ (list : Bor AppList). list.now) o)
    then.lists.now.items) is

-- with the list of an application in the place of its own, its list is that
pub own_list : (app : List ℕ) (list links : List Link) → ((link : Link) → Contains list link → link.app ≡ app)
    → (other : List ℕ) → app ≡ other → (link : Link) → Contains list link
    ↔ (Contains (with_list app list links) link × (link.app ≡ other))
own_list app list links own other same link = (
  (λ there. ((with_list-contains app list links link).1 (inl there), own link there ∙ same)),
  λ (there, is). elim ((with_list-contains app list links link).0 there) [
    | inl listed ↦ listed
    | inr (_, apart) ↦ absurd (apart (is ∙ sym same))
  ],
)

-- and the lists of others are as they were
pub other_list : (app : List ℕ) (list links found : List Link)
    → ((link : Link) → Contains list link → link.app ≡ app) → (other : List ℕ) → app ≢ other
    → ((link : Link) → Contains found link ↔ (Contains links link × (link.app ≡ other))) → (link : Link)
    → Contains found link ↔ (Contains (with_list app list links) link × (link.app ≡ other))
other_list app list links found own other apart are link = (
  (λ there.
      let both = (are link).0 there in
      ((with_list-contains app list links link).1 (inr (both.0, λ same. apart (sym same ∙ both.1))), both.1)),
  λ (there, is). elim ((with_list-contains app list links link).0 there) [
    | inl listed ↦ absurd (apart (sym (own link listed) ∙ is))
    | inr (old, _) ↦ (are link).1 (old, is)
  ],
)

-- the links of one block more, but for those of an application
module _ (app : List ℕ) (blocks : List (Block (List ℕ) Link)) (are : AreLinkBlocks blocks) (i : ℕ)
    (block : Block (List ℕ) Link) (lt : i < length blocks) (at : block ≡ get_or blocks i block) (found : List Link)
    (so_far : (link : Link) → Contains found link ↔ (Contains (items_in (take i blocks)) link × (link.app ≢ app)))
  where
    its : (link : Link) → Contains block.items.items link → link.app ≡ block.group
    its link there = are.grouped block (i, lt, sym at) link there

    more_cases : (link : Link) → Contains (items_in (take (i + 1) blocks)) link
        ↔ (Contains (items_in (take i blocks)) link ⊎ Contains block.items.items link)
    more_cases link = (
      (λ there. Contains-append_cases (items_in (take i blocks)) block.items.items link
          (subst (λ (l : List Link). Contains l link) (items_more blocks i block lt at) there)),
      λ either. subst (λ (l : List Link). Contains l link) (sym (items_more blocks i block lt at)) (elim either [
        | inl before ↦ Contains-append_left (items_in (take i blocks)) block.items.items link before
        | inr last ↦ Contains-append_right (items_in (take i blocks)) block.items.items link last
      ]),
    )

    pub others_more : block.group ≢ app → (link : Link) → Contains (found ++ block.items.items) link
        ↔ (Contains (items_in (take (i + 1) blocks)) link × (link.app ≢ app))
    others_more apart link = (
      (λ there. elim (Contains-append_cases found block.items.items link there) [
        | inl early ↦
            let both = (so_far link).0 early in
            ((more_cases link).1 (inl both.0), both.1)
        | inr last ↦ ((more_cases link).1 (inr last), λ same. apart (sym (its link last) ∙ same))
      ]),
      λ (there, other). elim ((more_cases link).0 there) [
        | inl early ↦ Contains-append_left found block.items.items link ((so_far link).1 (early, other))
        | inr last ↦ Contains-append_right found block.items.items link last
      ],
    )

    pub others_same : block.group ≡ app → (link : Link) → Contains found link
        ↔ (Contains (items_in (take (i + 1) blocks)) link × (link.app ≢ app))
    others_same same link = (
      (λ early.
          let both = (so_far link).0 early in
          ((more_cases link).1 (inl both.0), both.1)),
      λ (there, other). elim ((more_cases link).0 there) [
        | inl early ↦ (so_far link).1 (early, other)
        | inr last ↦ absurd (other (its link last ∙ same))
      ],
    )

-- the lists of one application more
pub apps_more : (all found own : List Link) (apps : List (List ℕ)) (i : ℕ) (app : List ℕ) → i < length apps
    → app ≡ get_or apps i app
    → ((link : Link) → Contains found link ↔ (Contains all link × Contains (take i apps) link.app))
    → ((link : Link) → Contains own link ↔ (Contains all link × (link.app ≡ app))) → (link : Link)
    → Contains (found ++ own) link ↔ (Contains all link × Contains (take (i + 1) apps) link.app)
apps_more all found own apps i app lt at so_far is_own link =
    let front : take (i + 1) apps ≡ take i apps ++ app ∷ [] = take_more apps i app lt
    ∙ ap (λ (a : List ℕ). take i apps ++ a ∷ []) (sym at) in (
      (λ there. elim (Contains-append_cases found own link there) [
        | inl early ↦
            let both = (so_far link).0 early in (
              both.0,
              subst (λ (l : List (List ℕ)). Contains l link.app) (sym front)
                  (Contains-append_left (take i apps) (app ∷ []) link.app both.1),
            )
        | inr last ↦
            let both = (is_own link).0 last in (
              both.0,
              subst (λ (l : List (List ℕ)). Contains l link.app) (sym front)
                  (Contains-append_right (take i apps) (app ∷ []) link.app
                  (subst (λ (a : List ℕ). Contains (app ∷ []) a) (sym both.1) (contains_first app []))),
            )
      ]),
      λ (there, among). elim (Contains-append_cases (take i apps) (app ∷ []) link.app
          (subst (λ (l : List (List ℕ)). Contains l link.app) front among)) [
            | inl early ↦ Contains-append_left found own link ((so_far link).1 (there, early))
            | inr last ↦ Contains-append_right found own link
                ((is_own link).1 (there, sym (one_is app link.app last)))
          ],
    )

-- of links found once, those that are kept are all
pub kept_all : (all links kept : List Link) → IsRising link_cmp all → IsRising link_cmp kept
    → ((link : Link) → Contains links link ↔ Contains all link) → KeepsNames links kept → kept ≡ all
kept_all all links kept rising rising' same keeps = links_unique kept all rising' rising (λ link.
    let is = kept_among all links kept rising (λ l there. (same l).0 there) keeps link in (
      (λ there. (same link).0 (is.0 there)),
      λ there. is.1 ((same link).1 there),
    ))

-- the links of others, then the list
pub others_list : (app : List ℕ) (list links others : List Link)
    → ((link : Link) → Contains others link ↔ (Contains links link × (link.app ≢ app))) → (link : Link)
    → Contains (others ++ list) link ↔ Contains (with_list app list links) link
others_list app list links others are link = (
  (λ there. (with_list-contains app list links link).1 (elim (Contains-append_cases others list link there) [
    | inl early ↦ inr ((are link).0 early)
    | inr last ↦ inl last
  ])),
  λ there. elim ((with_list-contains app list links link).0 there) [
    | inl listed ↦ Contains-append_right others list link listed
    | inr other ↦ Contains-append_left others list link ((are link).1 other)
  ],
)

-- the names of a link, from the other side
abbrev flipped : Names → Names
flipped names = record { first = names.second; second = names.first }

pub turned_names : (a b : Link) → names_of a ≡ names_of b → names_in (naming_of a) ≡ names_in (naming_of b)
turned_names a b same = ap flipped same

names_turned : (a b : Link) → names_in (naming_of a) ≡ names_in (naming_of b) → names_of a ≡ names_of b
names_turned a b same = ap flipped same

-- the namings of links that rise are apart, and they are those of the links
pub namings_apart : (links : List Link) → IsRising link_cmp links → AreApart names_in (map naming_of links)
namings_apart links rising i j d below lt same =
    let long : length (map naming_of links) ≡ length links = length-map links naming_of in
    let at_i : get_or (map naming_of links) i d ≡ naming_of (get_or links i d.link) =
    get_or-map naming_of links i d.link d (omega (arith, below, lt, long)) in
    let at_j : get_or (map naming_of links) j d ≡ naming_of (get_or links j d.link) =
    get_or-map naming_of links j d.link d (omega (arith, lt, long)) in
    let names = names_turned (get_or links i d.link) (get_or links j d.link)
    (ap names_in (sym at_i) ∙ same ∙ ap names_in at_j) in
    less_not_equal (sym (rising i j d.link below (omega (arith, lt, long)))
    ∙ names_tie (get_or links i d.link) (get_or links j d.link) (
      ap (λ (n : Names). n.first) names,
      ap (λ (n : Names). n.second) names,
    ))

pub namings_are : (links : List Link) (naming : Naming) → Contains (map naming_of links) naming
    ↔ Contains links naming.link
namings_are links naming = (
  (λ there. let (link, among, is) = map_back naming_of links naming there in
      subst (λ (n : Naming). Contains links n.link) is among),
  λ there. map_has naming_of links naming.link there,
)

-- links up to a place
module _ (links : List Link) (i : ℕ) (link : Link) (lt : i < length links) (at : link ≡ get_or links i link) where
  here : Contains links link
  here = (i, lt, sym at)

  front : take (i + 1) links ≡ take i links ++ link ∷ []
  front = take_more links i link lt ∙ ap (λ l. take i links ++ l ∷ []) (sym at)

  pub front_cases : (x : Link) → Contains (take (i + 1) links) x ↔ (Contains (take i links) x ⊎ (link ≡ x))
  front_cases x = (
    (λ there. elim (Contains-append_cases (take i links) (link ∷ []) x (subst (λ l. Contains l x) front there)) [
      | inl before ↦ inl before
      | inr last ↦ inr (one_is link x last)
    ]),
    λ either. subst (λ l. Contains l x) (sym front) (elim either [
      | inl before ↦ Contains-append_left (take i links) (link ∷ []) x before
      | inr same ↦ subst (λ l. Contains (take i links ++ link ∷ []) l) same
          (Contains-append_right (take i links) (link ∷ []) link (contains_first link []))
    ]),
  )

  -- it is the next of those that are left
  pub next_in : Contains (drop i links) link
  next_in =
      let place : i + 0 ≡ i = omega arith in (
        0,
        omega (arith, lt, length-drop i links),
        get_or-drop i links 0 link ∙ ap (λ n. get_or links n link) place ∙ sym at,
      )

  -- and those that follow it are left too
  pub later_in : (x : Link) → Contains (drop (i + 1) links) x → Contains (drop i links) x
  later_in x (k, lt_k, at_k) =
      let long = length-drop (i + 1) links in
      let place : i + (k + 1) ≡ i + 1 + k = omega arith in (
        k + 1,
        omega (arith, lt_k, long, length-drop i links),
        get_or-drop i links (k + 1) x ∙ ap (λ n. get_or links n x) place ∙ sym (get_or-drop (i + 1) links k x) ∙ at_k,
      )

  -- those so far are out
  pub removed_next : (old now after : List Naming)
      → ((x : Naming) → Contains now x
      ↔ (Contains old x × LacksKey names_of (take i links) (names_of x.link)))
      → ((x : Naming) → Contains after x ↔ (Contains now x × LacksKey names_in (naming_of link ∷ []) (names_in x)))
      → (x : Naming) → Contains after x
      ↔ (Contains old x × LacksKey names_of (take (i + 1) links) (names_of x.link))
  removed_next old now after before is x = (forward, backward)
    where
      forward : Contains after x → Contains old x × LacksKey names_of (take (i + 1) links) (names_of x.link)
      forward there =
          let (stays, lacks) = (is x).0 there in
          let (was, lacked) = (before x).0 stays in (
            was,
            λ y at_y same. elim ((front_cases y).0 at_y) [
              | inl early ↦ lacked y early same
              | inr own ↦ lacks (naming_of link) (contains_first (naming_of link) []) (turned_names link x.link
                  (ap names_of own ∙ same))
            ],
          )

      backward : Contains old x × LacksKey names_of (take (i + 1) links) (names_of x.link) → Contains after x
      backward (was, lacks) = (is x).1 (
        (before x).1 (was, λ y early. lacks y ((front_cases y).1 (inl early))),
        λ y own same. lacks link ((front_cases link).1 (inr refl)) (names_turned link x.link
            (ap names_in (one_is (naming_of link) y own) ∙ same)),
      )

  -- those so far are in
  pub inserted_next : (old now after : List Naming)
      → ((x : Naming) → Contains now x ↔ (Contains (take i links) x.link ⊎ Contains old x))
      → ((x : Naming) → Contains after x ↔ (Contains (naming_of link ∷ []) x ⊎ Contains now x))
      → (x : Naming) → Contains after x ↔ (Contains (take (i + 1) links) x.link ⊎ Contains old x)
  inserted_next old now after before is x = (forward, backward)
    where
      forward : Contains after x → Contains (take (i + 1) links) x.link ⊎ Contains old x
      forward there = elim ((is x).0 there) [
        | inl own ↦ inl ((front_cases x.link).1 (inr (ap (λ (n : Naming). n.link) (one_is (naming_of link) x own))))
        | inr stood ↦ elim ((before x).0 stood) [
          | inl early ↦ inl ((front_cases x.link).1 (inl early))
          | inr was ↦ inr was
        ]
      ]

      backward : Contains (take (i + 1) links) x.link ⊎ Contains old x → Contains after x
      backward (inl there) = elim ((front_cases x.link).0 there) [
        | inl early ↦ (is x).1 (inr ((before x).1 (inl early)))
        | inr own ↦ (is x).1 (inl (subst (λ l. Contains (naming_of link ∷ []) (naming_of l)) own
            (contains_first (naming_of link) [])))
      ]
      backward (inr was) = (is x).1 (inr ((before x).1 (inr was)))

  -- in rising order
  module _ (rising : IsRising link_cmp links) where
    below_it : (x : Link) → Contains (take i links) x → link_cmp x link ≡ Less
    below_it x (k, lt_k, at_k) =
        let long = length-take-le i links (omega (arith, lt)) in
        let below : k < i = omega (arith, lt_k, long) in
        let is : get_or links k x ≡ x = sym (get_or-take i links k x below) ∙ at_k in
        subst (λ l. link_cmp l link ≡ Less) is (subst (λ l. link_cmp (get_or links k x) l ≡ Less)
        (get_or_default links i x link lt ∙ sym at) (rising k i x below lt))

    above_it : (x : Link) → Contains (drop (i + 1) links) x → link_cmp link x ≡ Less
    above_it x (k, lt_k, at_k) =
        let long = length-drop (i + 1) links in
        let within : i + 1 + k < length links = omega (arith, lt_k, long) in
        let is : get_or links (i + 1 + k) x ≡ x = sym (get_or-drop (i + 1) links k x) ∙ at_k in
        subst (λ l. link_cmp l x ≡ Less) (get_or_default links i x link lt ∙ sym at)
        (subst (λ l. link_cmp (get_or links i x) l ≡ Less) is (rising i (i + 1 + k) x (omega arith) within))

    -- none of those so far has its names
    pub new_next : (old now : List Naming)
        → ((x : Link) → Contains links x → LacksKey names_in old (names_in (naming_of x)))
        → ((x : Naming) → Contains now x ↔ (Contains (take i links) x.link ⊎ Contains old x))
        → LacksKey names_in now (names_in (naming_of link))
    new_next old now new is y at_y same = elim ((is y).0 at_y) [
      | inl early ↦ less_not_equal (sym (below_it y.link early) ∙ names_tie y.link link (
        ap (λ (names : Names). names.second) same,
        ap (λ (names : Names). names.first) same,
      ))
      | inr was ↦ new link here y was same
    ]

    -- those that follow in the list of its application have other predecessors
    pub other_named : ((a b : Link) → Contains links a → Contains links b → a.app ≡ b.app) → (x : Link)
        → Contains (drop (i + 1) links) x → link.predecessor ≢ x.predecessor
    other_named one x later same = less_not_equal (sym (above_it x later)
        ∙ names_tie link x (one link x here ((halves links (i + 1) x).1 (inr later)), same))

-- a list is put in the place of the one of its application, and so are its namings
module _ (app : List ℕ) (list own items : List Link) (namings thinned : List Naming)
    (same : (naming : Naming) → Contains namings naming ↔ Contains items naming.link)
    (is_own : (link : Link) → Contains own link ↔ (Contains items link × (link.app ≡ app)))
    (thin : (naming : Naming) → Contains thinned naming
    ↔ (Contains namings naming × LacksKey names_of own (names_of naming.link))) where
  -- none of its links is named any more
  pub none_named : ((link : Link) → Contains list link → link.app ≡ app) → (link : Link) → Contains list link
      → LacksKey names_in thinned (names_in (naming_of link))
  none_named of_app link there y at_y is =
      let (stood, lacks) = (thin y).0 at_y in
      let its : y.link.app ≡ app = ap (λ (names : Names). names.second) is ∙ of_app link there in
      lacks y.link ((is_own y.link).1 ((same y).0 stood, its)) refl

  pub put_same : (new : List Link) (after : List Naming) → ((naming : Naming) → Contains after naming ↔ (Contains list naming.link ⊎ Contains thinned naming))
      → ((link : Link) → Contains new link ↔ (Contains list link ⊎ (Contains items link × (link.app ≢ app))))
      → (naming : Naming) → Contains after naming ↔ Contains new naming.link
  put_same new after are is naming = (forward, backward)
    where
      forward : Contains after naming → Contains new naming.link
      forward there = elim ((are naming).0 there) [
        | inl listed ↦ (is naming.link).1 (inl listed)
        | inr stays ↦
            let (stood, lacks) = (thin naming).0 stays in
            let old = (same naming).0 stood in
            (is naming.link).1 (inr (old, λ its. lacks naming.link ((is_own naming.link).1 (old, its)) refl))
      ]

      backward : Contains new naming.link → Contains after naming
      backward there = elim ((is naming.link).0 there) [
        | inl listed ↦ (are naming).1 (inl listed)
        | inr (old, apart) ↦ (are naming).1 (inr ((thin naming).1 (
          (same naming).1 old,
          λ y at_y names. apart (sym (ap (λ (n : Names). n.first) names) ∙ ((is_own y).0 at_y).1),
        )))
      ]
