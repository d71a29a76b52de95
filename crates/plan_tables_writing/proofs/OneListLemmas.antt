-- Where one list changes, the links that come and go are those of that list.
use Rattle.std.proofs.Common.{◌≡◌, ◌≢◌, ◌↔◌, ◌⊎◌, ◌∙◌, ℕ, true, false, not, refl, sym, subst, inl, inr, List, Result}
use Rattle.std.specs.Bool.{⊤}
use Rattle.std.specs.List.{Contains}
use Rattle.std.specs.declared.cmp.Ordering.TheVariants.{Less}
use Rattle.std.specs.Str.{bytes_eq}
use Rattle.std.proofs.lemmas.Bool.{false≢true, not-true}
use Rattle.std.proofs.lemmas.List.Kept.{AllPairs-filter}
use Rattle.std.proofs.lemmas.Slice.Eq.{bytes_eq-Decides}
use Rattle.external_dependencies.specs.Link.{link_cmp}
use Rattle.external_dependencies.specs.Rising.{IsRising}
use Rattle.external_dependencies.specs.declared.links.Link.{Link}
use Rattle.external_dependencies.proofs.LexLemmas.{link_total}
use Rattle.external_dependencies.proofs.RisingLemmas.{rising_unique}
use Rattle.plan_store_lists.specs.LinkBlocks.{with_list}
use Rattle.plan_store_lists.specs.declared.app_lists.AppList.{AppList}
use Rattle.plan_store_lists.proofs.KeyLemmas.{contains_filter, filter_contains}
use Rattle.plan_store_lists.proofs.LinkBlockLemmas.{with_list-contains, with_list-rising}
use Rattle.sqlite.specs.Store.{Ghosts}
use Rattle.sqlite.specs.declared.error.Error.{Error}
use Rattle.sqlite.specs.declared.transaction.Transaction.{Transaction}
use Rattle.plan_tables_schema.specs.declared.tables.Table.TheVariants as table
use Rattle.plan_tables_content.specs.Facts.{link_key, link_values}
use Rattle.plan_tables_writing.specs.Accepted.{AcceptsEach, AcceptsNewLinks, WritesAccepted}
use Rattle.plan_tables_writing.specs.Writing.{beside, holds_link, links_replaced, with_each, without_each}
use Rattle.plan_tables_writing.proofs.LinkLemmas.{holds_link-Decides}

-- ---- what the others lack

lacks : (others : List Link) (l : Link) → not (holds_link others l) ≡ true → Contains others l → ⊥
lacks others l is has = false≢true (sym (not-true _ is) ∙ (holds_link-Decides others l).1 has)

lacked : (others : List Link) (l : Link) → (Contains others l → ⊥) → not (holds_link others l) ≡ true
lacked others l none = elim (holds_link others l) as (λ b. holds_link others l ≡ b → not b ≡ true) [
  | true ↦ λ is. absurd (none ((holds_link-Decides others l).0 is))
  | false ↦ λ is. refl
] refl

beside_has : (others links : List Link) (l : Link) → Contains (beside others links) l
    → Contains links l × (Contains others l → ⊥)
beside_has others links l there =
    let both = contains_filter (λ (m : Link). not (holds_link others m)) links l there in
    (both.0, lacks others l both.1)

has_beside : (others links : List Link) (l : Link) → Contains links l → (Contains others l → ⊥)
    → Contains (beside others links) l
has_beside others links l has none =
    filter_contains (λ (m : Link). not (holds_link others m)) links l has (lacked others l none)

beside_rises : (others links : List Link) → IsRising link_cmp links → IsRising link_cmp (beside others links)
beside_rises others links =
    AllPairs-filter (λ x y. link_cmp x y ≡ Less) (λ (m : Link). not (holds_link others m)) links

-- lists that rise lack the same if they lack the same links
same_beside : (others links some list : List Link) → IsRising link_cmp links → IsRising link_cmp list
    → ((l : Link) → Contains links l → (Contains others l → ⊥) → Contains list l × (Contains some l → ⊥))
    → ((l : Link) → Contains list l → (Contains some l → ⊥) → Contains links l × (Contains others l → ⊥))
    → beside others links ≡ beside some list
same_beside others links some list rise rise' into back = rising_unique link_cmp link_total
    (beside others links) (beside some list) (beside_rises others links rise) (beside_rises some list rise') (λ l. (
      (λ there.
          let was = beside_has others links l there in
          let is = into l was.0 was.1 in has_beside some list l is.0 is.1),
      λ there.
          let was = beside_has some list l there in
          let is = back l was.0 was.1 in has_beside others links l is.0 is.1,
    ))

-- ---- one list in place of that of its application

module _ (old new list own : List Link) (app : List ℕ) (new_rise : IsRising link_cmp new)
    (list_rise : IsRising link_cmp list) (of_app : (l : Link) → Contains list l → l.app ≡ app)
    (has : (l : Link) → Contains new l ↔ (Contains list l ⊎ (Contains old l × (l.app ≢ app)))) where
  -- those that come are not in the old lists, so not in the list before
  pub come_alone : ((l : Link) → l.app ≡ app → Contains own l ↔ Contains old l) → beside old new ≡ beside own list
  come_alone owns = same_beside old new own list new_rise list_rise
      (λ l there none. elim ((has l).0 there) [
        | inl listed ↦ (listed, λ was. none ((owns l (of_app l listed)).0 was))
        | inr other ↦ absurd (none other.0)
      ])
      (λ l listed none. ((has l).1 (inl listed), λ was. none ((owns l (of_app l listed)).1 was)))

  -- those that go are of the list before
  pub gone_alone : IsRising link_cmp old → IsRising link_cmp own
      → ((l : Link) → Contains own l ↔ (Contains old l × (l.app ≡ app))) → beside new old ≡ beside list own
  gone_alone old_rise own_rise owns = same_beside new old list own old_rise own_rise
      (λ l was none.
      let same : l.app ≡ app = elim (bytes_eq l.app app) as (λ b. bytes_eq l.app app ≡ b → l.app ≡ app) [
        | true ↦ λ is. (bytes_eq-Decides l.app app).0 is
        | false ↦ λ is. absurd (none ((has l).1 (inr (
          was,
          λ at. false≢true
              (sym is ∙ (bytes_eq-Decides l.app app).1 at),
        ))))
      ] refl in ((owns l).1 (was, same), λ listed. none ((has l).1 (inl listed))))
      (λ l its none.
      let was = (owns l).0 its in (
        was.0,
        λ there. elim ((has l).0 there) [
          | inl listed ↦ none listed
          | inr other ↦ other.1 was.1
        ],
      ))

-- ---- a list that is given with its application

module _ (old : List Link) (list : AppList) (rising : IsRising link_cmp old) where
  abbrev new : List Link
  new = with_list list.app list.links.items old

  new_rises : IsRising link_cmp new
  new_rises = with_list-rising list.app list.links.items old list.rising list.own rising

  new_has : (l : Link) → Contains new l ↔ (Contains list.links.items l ⊎ (Contains old l × (l.app ≢ list.app)))
  new_has = with_list-contains list.app list.links.items old

  pub come_of_list : beside old new ≡ beside old list.links.items
  come_of_list = come_alone old new list.links.items old list.app new_rises list.rising list.own new_has
      (λ l of_app. ((λ there. there), λ there. there))

  module _ (own : List Link) (own_rises : IsRising link_cmp own)
      (owns : (l : Link) → Contains own l ↔ (Contains old l × (l.app ≡ list.app))) where
    pub come_of_own : beside old new ≡ beside own list.links.items
    come_of_own = come_alone old new list.links.items own list.app new_rises list.rising list.own new_has
        (λ l of_app. ((λ there. ((owns l).0 there).0), λ there. (owns l).1 (there, of_app)))

    pub gone_of_own : beside new old ≡ beside list.links.items own
    gone_of_own = gone_alone old new list.links.items own list.app new_rises list.rising list.own new_has rising own_rises
        owns

    module _ {S T : Type 0} (g : Ghosts S) (tx mid : Transaction S) (result : Result T Error) where
      abbrev Writes : List Link → List Link → Type 0
      Writes come gone = WritesAccepted (λ _. ⊤) (λ all. AcceptsEach table.LinkInForce link_values come
          (without_each table.LinkInForce link_key gone all)) g tx mid result
          (λ all. with_each table.LinkInForce link_values come (without_each table.LinkInForce link_key gone all))

      -- what replaces the list of the application replaces all lists
      pub writes_list : WritesAccepted (λ _. ⊤) (AcceptsNewLinks own list.links.items) g tx mid result
          (links_replaced own list.links.items)
          → WritesAccepted (λ _. ⊤) (AcceptsNewLinks old new) g tx mid result (links_replaced old new)
      writes_list writes = subst (λ come. Writes come (beside new old)) (sym come_of_own)
          (subst (λ gone. Writes (beside own list.links.items) gone) (sym gone_of_own) writes)
