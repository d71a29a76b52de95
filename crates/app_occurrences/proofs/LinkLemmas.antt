-- The links of entries of predecessor lists.
use Rattle.std.proofs.Common.{◌≡◌, ◌∙◌, ◌⊎◌, sym, ap, subst, inl, inr, ℕ, List, [], ◌∷◌, ◌++◌, append_assoc, map}
use Rattle.std.proofs.Common.{Some, arith, get_or}
use Rattle.std.specs.Prelude.{Contains, ◌↔◌}
use Rattle.std.proofs.lemmas.List.{append-nil, get_or_default}
use Rattle.std.proofs.lemmas.List.Elements.{Contains-append_cases, Contains-append_left, Contains-append_right}
use Rattle.std.proofs.lemmas.List.Elements.{Contains-push_cases}
use Rattle.app_definition_records.specs.ByName.{AreEntriesOf}
use Rattle.app_definition_records.specs.Rising.{AreRising}
use Rattle.app_occurrences.specs.Links.{HaveOwnNames, IsDefinedLink}
use Rattle.app_definition_records.specs.declared.predecessors.Predecessor.{Predecessor}
use Rattle.app_definitions.specs.declared.definitions.Definitions.{Definitions}
use Rattle.app_definition_records.proofs.ByNameLemmas.{entry_is, entry_there}
use Rattle.app_definition_records.proofs.RisingLemmas.{Contains-map, Contains-map_back, behind, first_of_list, own_names}
use Rattle.app_definition_records.proofs.RisingLemmas.{later_of_list, three}

abbrev Entry : Type 0
Entry = List ℕ × List Predecessor

abbrev Pair : Type 0
Pair = List ℕ × Predecessor

-- the application with a name
abbrev pub link_of : List ℕ → Predecessor → List ℕ × Predecessor
link_of app name = (app, name)

-- the application with each of its names, entry by entry
abbrev pub links_of : List (List ℕ × List Predecessor) → List (List ℕ × Predecessor)
links_of [] = []
links_of (e ∷ es) = map (link_of e.0) e.1 ++ links_of es

-- one entry more
pub links_of-push : (es : List (List ℕ × List Predecessor)) (app : List ℕ) (names : List Predecessor)
    → links_of (es ++ (app, names) ∷ []) ≡ links_of es ++ map (link_of app) names
links_of-push [] app names = append-nil (map (link_of app) names)
links_of-push (e ∷ es) app names = ap (λ l. map (link_of e.0) e.1 ++ l) (links_of-push es app names)
    ∙ sym (append_assoc (map (link_of e.0) e.1) (links_of es) (map (link_of app) names))

-- a link stands in the list of an entry
in_entry : (es : List Entry) (app : List ℕ) (predecessor : Predecessor) → Contains (links_of es) (app, predecessor)
    → (names : List Predecessor) × Contains es (app, names) × Contains names predecessor
in_entry [] app predecessor (k, lt, is) = absurd (omega (arith, lt))
in_entry (e ∷ es) app predecessor has = from
    (Contains-append_cases (map (link_of e.0) e.1) (links_of es) (app, predecessor) has) (in_entry es app predecessor)
  where
    from : Contains (map (link_of e.0) e.1) (app, predecessor) ⊎ Contains (links_of es) (app, predecessor)
        → (Contains (links_of es) (app, predecessor) → (names : List Predecessor) × Contains es (app, names)
        × Contains names predecessor)
        → (names : List Predecessor) × Contains (e ∷ es) (app, names) × Contains names predecessor
    from (inl here) rest =
        let (name, there, same) = Contains-map_back (link_of e.0) e.1 (app, predecessor) here in
        let of : e.0 ≡ app = ap (λ (p : Pair). p.0) same in
        let named : name ≡ predecessor = ap (λ (p : Pair). p.1) same in
        (e.1, subst (λ n. Contains (e ∷ es) (n, e.1)) of (first_of_list e es), subst (Contains e.1) named there)
    from (inr later) rest = let (names, there, has) = rest later in (names, later_of_list e es (app, names) there, has)

of_entry : (es : List Entry) (app : List ℕ) (predecessor : Predecessor) (names : List Predecessor) → Contains es (app, names)
    → Contains names predecessor → Contains (links_of es) (app, predecessor)
of_entry [] app predecessor names (k, lt, is) has = absurd (omega (arith, lt))
of_entry (e ∷ es) app predecessor names there has =
    from (behind e es (app, names) there) (λ later. of_entry es app predecessor names later has)
  where
    from : (e ≡ (app, names)) ⊎ Contains es (app, names)
        → (Contains es (app, names) → Contains (links_of es) (app, predecessor))
        → Contains (map (link_of e.0) e.1 ++ links_of es) (app, predecessor)
    from (inl same) rest =
        let here : Contains (map (link_of app) names) (app, predecessor) =
        Contains-map (link_of app) names predecessor has in
        let P : Entry → Type 0 = λ x. Contains (map (link_of x.0) x.1) (app, predecessor) in
        Contains-append_left (map (link_of e.0) e.1) (links_of es) (app, predecessor) (subst P (sym same) here)
    from (inr later) rest = Contains-append_right (map (link_of e.0) e.1) (links_of es) (app, predecessor) (rest later)

-- all links of the entries
pub links_are : (all : Definitions) (es : List (List ℕ × List Predecessor)) (app : List ℕ) (predecessor : Predecessor)
    → AreEntriesOf es all.predecessors
    → Contains (links_of es) (app, predecessor) ↔ IsDefinedLink all app predecessor
links_are all es app predecessor are = (
  λ has. let (names, there, in_list) = in_entry es app predecessor has in
      (names, entry_is es all.predecessors app names are there, in_list),
  λ (names, there, in_list). of_entry es app predecessor names
      (entry_there es all.predecessors app names are there) in_list,
)

-- the list of each entry rises
abbrev pub ListsRise : List (List ℕ × List Predecessor) → Type 0
ListsRise es = (e : List ℕ × List Predecessor) → Contains es e → AreRising (λ p. p.name) e.1

pub rise_more : (es : List (List ℕ × List Predecessor)) (app : List ℕ) (listed : List Predecessor) → ListsRise es
    → AreRising (λ p. p.name) listed → ListsRise (es ++ (app, listed) ∷ [])
rise_more es app listed before rising e there = elim (Contains-push_cases es (app, listed) e there) [
  | inl old ↦ before e old
  | inr same ↦ subst (λ (x : Entry). AreRising (λ p. p.name) x.1) same rising
]

-- a list that rises has one predecessor of a name
pub one_named : (xs : List Predecessor) → AreRising (λ p. p.name) xs → (p q : Predecessor) → Contains xs p → Contains xs q
    → p.name ≡ q.name → p ≡ q
one_named xs rising p q (k, lt, at_p) (j, lt', at_q) same =
    let here : get_or xs j p ≡ q = get_or_default xs j p q lt' ∙ at_q in
    let there : get_or xs k q ≡ p = get_or_default xs k q p lt ∙ at_p in
    elim (three k j) [
      | inl less ↦ absurd (own_names (λ x. x.name) xs rising k j p less lt'
          (ap (λ (x : Predecessor). x.name) at_p ∙ same ∙ ap (λ (x : Predecessor). x.name) (sym here)))
      | inr (inl one) ↦ sym at_p ∙ ap (λ n. get_or xs n p) one ∙ here
      | inr (inr more) ↦ absurd (own_names (λ x. x.name) xs rising j k q more lt
          (ap (λ (x : Predecessor). x.name) at_q ∙ sym same ∙ ap (λ (x : Predecessor). x.name) (sym there)))
    ]

same_lists : (a b : List Predecessor) → Some a ≡ Some b → a ≡ b
same_lists a b is = cc

-- all links of the entries have their own names
pub own_links : (all : Definitions) (es : List (List ℕ × List Predecessor)) → AreEntriesOf es all.predecessors
    → ListsRise es → HaveOwnNames (links_of es)
own_links all es are rise app p q at_p at_q same =
    let (xs, in_xs, has_p) = in_entry es app p at_p in
    let (ys, in_ys, has_q) = in_entry es app q at_q in
    let one : ys ≡ xs = same_lists ys xs (sym (entry_is es all.predecessors app ys are in_ys)
    ∙ entry_is es all.predecessors app xs are in_xs) in
    one_named xs (rise (app, xs) in_xs) p q has_p (subst (λ l. Contains l q) one has_q) same
