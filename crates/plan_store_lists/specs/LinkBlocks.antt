-- Lists of predecessors in blocks: one for each application, and one for each predecessor.
use Rattle.std.proofs.Common.{ap}
use Rattle.std.specs.Prelude.{◌≡◌, ◌↔◌, ◌++◌, ℕ, List, Contains, filter}
use Rattle.std.specs.Cmp.Lexicographic.{slice_cmp}
use Rattle.std.specs.FinMap.{IsAntisymmetric, nat_cmp-IsAntisymmetric, slice_cmp-IsAntisymmetric}
use Rattle.std.specs.Ordering.{is_gt, is_lt, nat_cmp, ordering_then}
use Rattle.std.specs.declared.cmp.Ordering.{Ordering}
use Rattle.std.specs.declared.cmp.Ordering.TheVariants.{Less}
use Rattle.external_dependencies.proofs.OrderLemmas.{then_equal}
use Rattle.external_dependencies.specs.declared.links.Link.{Link}
use Rattle.plan_store_lists.specs.Blocks.{AreBlocks, HasRoomAt, items_in}
use Rattle.plan_store_lists.specs.declared.app_lists.AppList.{AppList}
use Rattle.plan_store_lists.specs.declared.blocks.Block.{Block}
use Rattle.plan_store_lists.specs.declared.namings.Names.{Names}
use Rattle.plan_store_lists.specs.declared.namings.Naming.{Naming}

-- by the first name, then by the second, in byte order
abbrev pub names_cmp : Names → Names → Ordering
names_cmp a b = ordering_then (slice_cmp nat_cmp a.first b.first) (slice_cmp nat_cmp a.second b.second)

-- the names in a link, by which the links of a block of an application are in order
abbrev pub names_of : Link → Names
names_of link = record { first = link.app; second = link.predecessor }

-- the names in a naming, by which those of a block of a predecessor are in order
abbrev pub names_in : Naming → Names
names_in naming = record { first = naming.link.predecessor; second = naming.link.app }

-- a link, as it is found by its predecessor
abbrev pub naming_of : Link → Naming
naming_of link = record { link = link }

-- only equal names compare as equal
pub names_ties : IsAntisymmetric names_cmp
names_ties a b is =
    let both = then_equal (slice_cmp nat_cmp a.first b.first) (slice_cmp nat_cmp a.second b.second) is in
    let first : a.first ≡ b.first = slice_cmp-IsAntisymmetric nat_cmp-IsAntisymmetric a.first b.first both.0 in
    let second : a.second ≡ b.second = slice_cmp-IsAntisymmetric nat_cmp-IsAntisymmetric a.second b.second both.1 in
    λ i. record { first = first i; second = second i }

-- blocks rise with links
pub links_rise : (x y : Link) → slice_cmp nat_cmp x.app y.app ≡ Less → names_cmp (names_of x) (names_of y) ≡ Less
links_rise x y less = ap (λ o. ordering_then o (slice_cmp nat_cmp x.predecessor y.predecessor)) less

-- and with namings
pub namings_rise : (x y : Naming) → slice_cmp nat_cmp x.link.predecessor y.link.predecessor ≡ Less
    → names_cmp (names_in x) (names_in y) ≡ Less
namings_rise x y less = ap (λ o. ordering_then o (slice_cmp nat_cmp x.link.app y.link.app)) less

-- these blocks are of links, one for each application
abbrev pub AreLinkBlocks : List (Block (List ℕ) Link) → Type 0
AreLinkBlocks blocks = AreBlocks (slice_cmp nat_cmp) names_cmp (λ (link : Link). link.app) names_of blocks

-- these blocks are of namings, one for each predecessor
abbrev pub AreNamingBlocks : List (Block (List ℕ) Naming) → Type 0
AreNamingBlocks blocks =
    AreBlocks (slice_cmp nat_cmp) names_cmp (λ (naming : Naming). naming.link.predecessor) names_in blocks

-- these blocks are of links and of their namings
pub record AreBothBlocks (by_app : List (Block (List ℕ) Link)) (by_predecessor : List (Block (List ℕ) Naming))
    : Type 0 where
  pub links : AreLinkBlocks by_app
  pub namings : AreNamingBlocks by_predecessor
  pub same : (naming : Naming) → Contains (items_in by_predecessor) naming ↔ Contains (items_in by_app) naming.link

-- the links in rising order, and the blocks, which contracts see for the room in them
pub record LinkList : Type 0 where
  pub items : List Link
  pub blocks : List (Block (List ℕ) Link)
  pub namings : List (Block (List ℕ) Naming)

-- the links in these blocks
abbrev pub listed_links : List (Block (List ℕ) Link) → List (Block (List ℕ) Naming) → LinkList
listed_links blocks namings = record { items = items_in blocks; blocks = blocks; namings = namings }

-- the links with the list in the place of the one of the application: those of applications before it, then the list,
-- then those of applications after it
abbrev pub with_list : List ℕ → List Link → List Link → List Link
with_list app list links = filter (λ (link : Link). is_lt (slice_cmp nat_cmp link.app app)) links
    ++ (list ++ filter (λ (link : Link). is_gt (slice_cmp nat_cmp link.app app)) links)

-- there is room for the list: its application has a block, and the block of each predecessor takes one naming more
pub record HasListRoom (list : AppList) (lists : LinkList) : Type 0 where
  pub own : HasRoomAt lists.blocks list.app 0
  pub named : (link : Link) → Contains list.links.items link → HasRoomAt lists.namings link.predecessor 1
