use Rattle.std.proofs.Common.{◌≡◌, ◌↔◌, ◌∙◌, ℕ, List, ap, map, refl, subst, sym, arith, [], Some, Result, Ok, Err}
use Rattle.std.specs.Prelude.{IfOk}
use Rattle.std.specs.List.{Contains}
use Rattle.std.specs.FinMap as map_of
use Rattle.app_definition_records.proofs.RisingLemmas.{Contains-map, Contains-map_back}
use Rattle.app_definition_records.specs.Rising.{AreRising}
use Rattle.app_definition_records.specs.declared.predecessors.Predecessor.{Predecessor}
use Rattle.app_occurrences.proofs.LinkLemmas.{one_named}
use Rattle.app_definitions.specs.declared.definitions.Definitions.{Definitions}
use Rattle.external_dependencies.specs.Link.{AreNamedOnce}
use Rattle.external_dependencies.specs.declared.links.Link.{Link}
use Rattle.long_term_plan.specs.Lists.{link_to}
use Rattle.long_term_plan.proofs.OneListLemmas.{IsOwn}
use Rattle.long_term_plan.proofs.lists.own_links.Goals as goal

weaker : {A E : Type 0} (r : Result A E) (P Q : A → Type 0) → ((a : A) → P a → Q a) → IfOk r P → IfOk r Q
weaker (Ok a) P Q f is = f a is
weaker (Err e) P Q f is = tt

own_are : (all : Definitions) (app : List ℕ) (names : List Predecessor) → map_of.get all.predecessors app ≡ Some names
    → (links : List Link) → links ≡ map (link_to app) names → (link : Link) → Contains links link ↔ IsOwn all app link
own_are all app names at links is link = (
  (λ there.
      let (name, in_list, same) = Contains-map_back (link_to app) names link (subst (λ l. Contains l link) is there) in
      subst (IsOwn all app) same (refl, (names, at, in_list))),
  λ (own, (others, at', has)).
      let both : Some others ≡ Some names = sym at' ∙ ap (map_of.get all.predecessors) own ∙ at in
      let one : others ≡ names = cc in
      let p : Predecessor = record { name = link.predecessor; within = link.within } in
      let same : link_to app p ≡ link =
      λ i. record { app = sym own i; predecessor = link.predecessor; within = link.within } in
      subst (λ l. Contains l link) (sym is) (subst (Contains (map (link_to app) names)) same
      (Contains-map (link_to app) names p (subst (λ l. Contains l p) one has))),
)

-- links to predecessors of a rising list have their own names
own_once : (app : List ℕ) (listed : List Predecessor) → AreRising (λ p. p.name) listed → (links : List Link)
    → links ≡ map (link_to app) listed → AreNamedOnce links
own_once app listed rising links is = subst AreNamedOnce (sym is) (λ a b at_a at_b same.
    let (p, in_p, is_p) = Contains-map_back (link_to app) listed a at_a in
    let (q, in_q, is_q) = Contains-map_back (link_to app) listed b at_b in
    let names : p.name ≡ q.name =
    ap (λ (l : Link). l.predecessor) is_p ∙ same.1 ∙ ap (λ (l : Link). l.predecessor) (sym is_q) in
    sym is_p ∙ ap (link_to app) (one_named listed rising p q in_p in_q names) ∙ is_q)

none_once : (links : List Link) → links ≡ [] → AreNamedOnce links
none_once links is = subst AreNamedOnce (sym is) (λ a b (k, lt, at) there same. absurd (omega (arith, lt)))

pub returns-in-Some-clause-exactly : goal.returns-in-Some-clause-exactly
returns-in-Some-clause-exactly c = weaker c.links_to.result _ _ (λ links is.
    own_are c.args.all.now c.args.app.now c.as_slice.result.now
    (sym c.in-Some.ensures ∙ ap Some (sym c.as_slice.ensures.value)) links.items is) c.links_to.ensures

pub returns-in-Some-clause-once : goal.returns-in-Some-clause-once
returns-in-Some-clause-once c = weaker c.links_to.result _ _ (λ links is.
    own_once c.args.app.now c.as_slice.result.now c.as_slice.ensures.rising links.items is) c.links_to.ensures

pub returns-in-None-clause-once : goal.returns-in-None-clause-once
returns-in-None-clause-once c = none_once c.new.result.items c.new.ensures.items
