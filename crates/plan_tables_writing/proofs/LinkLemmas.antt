-- Links are told apart by their names and their limits.
use Rattle.std.proofs.Common.{◌≡◌, ◌&&◌, ℕ, Bool, true, false, Option, Some, None, Err, get_or, inl, inr, refl, sym, ap, subst}
use Rattle.std.proofs.Common.{◌∙◌, arith, Decides, bytes_eq, nat_eq, List}
use Rattle.std.specs.List.{Contains}
use Rattle.std.specs.List.Sorted.{IsBinarySearchResult}
use Rattle.std.specs.Option.{option_eq}
use Rattle.std.specs.declared.cmp.Ordering.TheVariants.{Equal}
use Rattle.std.proofs.lemmas.Bool.{cases_lt, eq-eqb, eqb-true, false≢true}
use Rattle.std.proofs.lemmas.Cmp.{tied_itself}
use Rattle.std.proofs.lemmas.Map.Made.{is_member-Decides}
use Rattle.std.proofs.lemmas.Slice.Eq.{bytes_eq-Decides}
use Rattle.external_dependencies.specs.Link.{link_cmp}
use Rattle.external_dependencies.specs.Rising.{IsRising}
use Rattle.external_dependencies.specs.declared.links.Link.{Link}
use Rattle.external_dependencies.proofs.LexLemmas.{link_total}
use Rattle.external_dependencies.proofs.OrderLemmas.{equal_not_greater, less_not_equal, rising_searchable}
use Rattle.plan_tables_content.proofs.SameOptions.{is_some as same_some, none_some}
use Rattle.plan_tables_writing.specs.Writing.{holds_link, is_same_link}

both_true : (a b : Bool) → (a && b) ≡ true → (a ≡ true) × (b ≡ true)
both_true true b h = (refl, h)
both_true false b h = absurd (false≢true h)

true_both : (a b : Bool) → a ≡ true → b ≡ true → (a && b) ≡ true
true_both a b e h = ap (λ x. x && b) e ∙ h

limits : (a b : Option ℕ) → Decides (option_eq nat_eq a b) (a ≡ b)
limits None None = (λ h. refl, λ e. refl)
limits None (Some n) = (λ h. absurd (false≢true h), λ e. none_some None n refl e)
limits (Some m) None = (λ h. absurd (false≢true h), λ e. none_some None m refl (sym e))
limits (Some m) (Some n) = (λ h. ap Some (eqb-true m n h), λ e. eq-eqb m n (same_some m n e))

pub same_link-Decides : (l m : Link) → Decides (is_same_link l m) (l ≡ m)
same_link-Decides l m = (
  (λ h.
      let one = both_true (bytes_eq l.app m.app) _ h in
      let two = both_true (bytes_eq l.predecessor m.predecessor) (option_eq nat_eq l.within m.within) one.1 in
      let app : l.app ≡ m.app = (bytes_eq-Decides l.app m.app).0 one.0 in
      let predecessor : l.predecessor ≡ m.predecessor = (bytes_eq-Decides l.predecessor m.predecessor).0 two.0 in
      let within : l.within ≡ m.within = (limits l.within m.within).0 two.1 in
      λ i. record { app = app i; predecessor = predecessor i; within = within i }),
  λ e. true_both (bytes_eq l.app m.app) _ ((bytes_eq-Decides l.app m.app).1 (ap (λ (k : Link). k.app) e))
      (true_both (bytes_eq l.predecessor m.predecessor) (option_eq nat_eq l.within m.within)
      ((bytes_eq-Decides l.predecessor m.predecessor).1 (ap (λ (k : Link). k.predecessor) e))
      ((limits l.within m.within).1 (ap (λ (k : Link). k.within) e))),
)

-- the test finds the links that are there
pub holds_link-Decides : (links : List Link) (l : Link) → Decides (holds_link links l) (Contains links l)
holds_link-Decides links l = is_member-Decides {eq = is_same_link} same_link-Decides links l

-- a search that finds no link of these names tells that the link is not there
pub search_absent : (links : List Link) → IsRising link_cmp links → (link : Link) (at : ℕ)
    → IsBinarySearchResult (λ y. link_cmp y link) links (Err at) → Contains links link → ⊥
search_absent links rising link at parted (place, lt, is) =
    let point = parted (rising_searchable link_total links rising link) in
    let tied : link_cmp (get_or links place link) link ≡ Equal =
    subst (λ l. link_cmp l link ≡ Equal) (sym is) (tied_itself link_total link) in
    elim (cases_lt place at) [
      | inl below ↦ less_not_equal (sym (point.0 place link (omega arith) below) ∙ tied)
      | inr above ↦ equal_not_greater (sym tied ∙ point.1 place link above lt)
    ]
