-- The lists that a statement puts into force.
use Rattle.std.proofs.Common.{◌≡◌, ◌≢◌, ◌⊎◌, ℕ, List, refl, sym, ap, subst, ◌∙◌, inl, inr}
use Rattle.std.proofs.Common.{Option, None, Some, Less}
use Rattle.std.specs.List.{AllPairs, Contains}
use Rattle.std.specs.FinMap as map
use Rattle.app_definition_records.specs.ByName.{IsDefinedBy, records_of}
use Rattle.app_definition_records.specs.Predecessors.{ArePredecessorsOf}
use Rattle.app_definition_records.specs.declared.predecessors.Predecessor.{Predecessor}
use Rattle.app_definition_records.proofs.RisingLemmas.{own_names}
use Rattle.app_definitions.specs.declared.definitions.Definitions.{Definitions}
use Rattle.external_dependencies.specs.Link.{AreNamedOnce, HaveSameNames, Lists, link_cmp}
use Rattle.external_dependencies.specs.Loop.{IsLeastOnLoop, OnLoop}
use Rattle.external_dependencies.specs.declared.links.Link.{Link}
use Rattle.app_occurrences.proofs.LeastLemmas.{IsAtMost, at_most_trans}
use Rattle.planner_machine.specs.Content.{Content}
use Rattle.planner_machine.specs.InForce.{AreLinks, IsDefinedLink, PutsAll, PutsLists, PutsOne}
use Rattle.planner_machine.specs.Plans.{WouldLoop}
use Rattle.planner_machine.specs.Sound.{AreDefinitions}
use Rattle.planner_answers.proofs.Finite.{Decided, Finite, decided_any, decided_both, decided_not, decided_so, finite_either}
use Rattle.planner_answers.proofs.Finite.{finite_if, finite_list, finite_made, finite_over, finite_so}
use Rattle.planner_answers.proofs.Ordered.{least, listing}
use Rattle.planner_answers.proofs.Orders.{link_ranked, link_total, name_at_most, one_of_name}
use Rattle.planner_answers.proofs.Equal.{decided_name}
use Rattle.planner_answers.proofs.Names.{finite_entries}
use Rattle.planner_answers.proofs.Rings.{finite_on_ring}

-- links in order, where no two have the same names
pub links_listed : (Is : Link → Type 0) → Finite Is → ((a b : Link) → Is a → Is b → HaveSameNames a b → a ≡ b)
    → (links : List Link) × AreLinks Is links
links_listed Is f once =
    let all = listing (λ x y. link_cmp x y ≡ Less) (λ x y z. link_total.trans x y z) f
    (λ x y h k. link_ranked x y (once x y h k)) in
    (all.list, record { rising = all.rising; exactly = all.exactly })

module _ (all : Definitions) where
  abbrev Entry : Type 0
  Entry = List ℕ × List Predecessor

  abbrev link_of : List ℕ → Predecessor → Link
  link_of app p = record { app = app; predecessor = p.name; within = p.within }

  pub finite_defined : Finite (IsDefinedLink all)
  finite_defined =
      finite_so to back
      (finite_over (λ (e : Entry) link. (p : Predecessor) × Contains e.1 p × (link_of e.0 p ≡ link))
      (finite_entries all.predecessors) (λ e there. finite_made (link_of e.0) (finite_list e.1)))
    where
      to : (link : Link)
          → ((e : Entry) × (map.get all.predecessors e.0 ≡ Some e.1)
          × ((p : Predecessor) × Contains e.1 p × (link_of e.0 p ≡ link)))
          → IsDefinedLink all link
      to link (e, is, (p, there, same)) = subst (IsDefinedLink all) same (e.1, is, there)

      back : (link : Link) → IsDefinedLink all link
          → (e : Entry) × (map.get all.predecessors e.0 ≡ Some e.1)
          × ((p : Predecessor) × Contains e.1 p × (link_of e.0 p ≡ link))
      back link (listed, is, there) =
          ((link.app, listed), is, (record { name = link.predecessor; within = link.within }, there, refl))

  module _ (are : AreDefinitions all) where
    own_list : (app : List ℕ) (o : Option (List Predecessor)) → map.get all.predecessors app ≡ o
        → (listed : List Predecessor) → o ≡ Some listed → AllPairs (λ (p q : Predecessor). p.name ≢ q.name) listed
    own_list app None is listed there = let no : None ≡ Some listed = there in absurd (let x : ⊥ = cc in x)
    own_list app (Some own) is listed there =
        let (rows, good, defined) = are.predecessors app in
        let whole = subst (λ o. IsDefinedBy ArePredecessorsOf o (records_of app rows)) (is ∙ there) defined in
        own_names (λ (p : Predecessor). p.name) listed whole.1.rising

    pub defined_once : (a b : Link) → IsDefinedLink all a → IsDefinedLink all b → HaveSameNames a b → a ≡ b
    defined_once a b (listed, is, there) (listed', is', there') (apps, names) =
        let both : Some listed ≡ Some listed' = sym is ∙ ap (map.get all.predecessors) apps ∙ is' in
        let one : listed' ≡ listed = cc in
        let same = one_of_name (λ (p : Predecessor). p.name) listed (own_list a.app (map.get all.predecessors a.app) refl listed is)
        (record { name = a.predecessor; within = a.within }) (record { name = b.predecessor; within = b.within }) there
        (subst (λ l. Contains l (record { name = b.predecessor; within = b.within })) one there') names in
        let within : a.within ≡ b.within = ap (λ (p : Predecessor). p.within) same in
        λ i. record { app = apps i; predecessor = names i; within = within i }

    pub puts_all : (before : List Link) → (after : List Link) × PutsAll all before after
    puts_all before = links_listed (IsDefinedLink all) finite_defined defined_once

    pub puts_one : (app : List ℕ) (before : List Link) → AreNamedOnce before → (after : List Link)
        × PutsOne app all before after
    puts_one app before named = links_listed IsPut finite_put put_once
      where
        IsPut : Link → Type 0
        IsPut link = ((link.app ≡ app) × IsDefinedLink all link) ⊎ ((link.app ≢ app) × Contains before link)

        finite_put : Finite (λ (link : Link). ((link.app ≡ app) × IsDefinedLink all link)
            ⊎ ((link.app ≢ app) × Contains before link))
        finite_put = finite_either
            (finite_so (λ link (is, own). (own, is)) (λ link (own, is). (is, own))
            (finite_if finite_defined (λ link is. decided_name link.app app)))
            (finite_so (λ link (there, other). (other, there)) (λ link (other, there). (there, other))
            (finite_if (finite_list before) (λ link there. decided_not (decided_name link.app app))))

        put_once : (a b : Link)
            → ((a.app ≡ app) × IsDefinedLink all a) ⊎ ((a.app ≢ app) × Contains before a)
            → ((b.app ≡ app) × IsDefinedLink all b) ⊎ ((b.app ≢ app) × Contains before b) → HaveSameNames a b → a ≡ b
        put_once a b (inl own) (inl own') same = defined_once a b own.1 own'.1 same
        put_once a b (inl own) (inr other) same = absurd (other.0 (sym same.0 ∙ own.0))
        put_once a b (inr other) (inl own) same = absurd (other.0 (same.0 ∙ own.0))
        put_once a b (inr other) (inr other') same = named a b other.1 other'.1 same

-- loops

decided_lists : (links : List Link) (x y : List ℕ) → Decided (Lists links x y)
decided_lists links x y =
    decided_so to back
    (decided_any (finite_list links) (λ link there. decided_both (decided_name link.app x) (decided_name link.predecessor y)))
  where
    to : ((link : Link) × Contains links link × ((link.app ≡ x) × (link.predecessor ≡ y))) → Lists links x y
    to (link, there, (apps, names)) = (
      link.within,
      subst (λ n. Contains links (record { app = n; predecessor = y; within = link.within })) apps
          (subst (λ n. Contains links (record { app = link.app; predecessor = n; within = link.within })) names there),
    )

    back : Lists links x y → (link : Link) × Contains links link × ((link.app ≡ x) × (link.predecessor ≡ y))
    back (within, there) = (record { app = x; predecessor = y; within = within }, there, (refl, refl))

finite_nodes : (links : List Link) → Finite (λ (x : List ℕ). (y : List ℕ) × Lists links x y)
finite_nodes links =
    finite_so to (λ x (y, (within, there)). (record { app = x; predecessor = y; within = within }, there, refl))
    (finite_made (λ (link : Link). link.app) (finite_list links))
  where
    to : (x : List ℕ) → ((link : Link) × Contains links link × (link.app ≡ x)) → (y : List ℕ) × Lists links x y
    to x (link, there, same) = subst (λ n. (y : List ℕ) × Lists links n y) same (link.predecessor, (link.within, there))

pub finite_looping : (links : List Link) → Finite (OnLoop links)
finite_looping links = finite_on_ring (Lists links) decided_name (decided_lists links) (finite_nodes links)

least_loop : (links : List Link) → Decided ((app : List ℕ) × IsLeastOnLoop links (Some app))
least_loop links = elim (least IsAtMost at_most_trans (finite_looping links) (λ x y h k. name_at_most x y)) [
  | inl none ↦ inr (λ (app, is). none app is.0)
  | inr found ↦ inl (found.0, (found.1, found.2))
]

-- where a statement puts one list of lists into force
pub decided_loop : (Puts : PutsLists) (c : Content) (lists : List Link) → Puts c.definitions c.in_force lists
    → ((other : List Link) → Puts c.definitions c.in_force other → other ≡ lists)
    → Decided ((app : List ℕ) × WouldLoop Puts c app)
decided_loop Puts c lists put one =
    decided_so
    (λ (app, least). (app, (lists, put, least)))
    (λ (app, (other, puts, least)). (app, subst (λ l. IsLeastOnLoop l (Some app)) (one other puts) least))
    (least_loop lists)
