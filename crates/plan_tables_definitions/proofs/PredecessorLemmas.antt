-- What rows of predecessors have told so far.
use Rattle.std.proofs.Common.{◌≡◌, ◌⊎◌, inl, inr, ℕ, List, Option, Some, None, true, false, cond, nat_eq}
use Rattle.std.proofs.Common.{refl, sym, ap, ◌∙◌, subst}
use Rattle.std.specs.Prelude.{map, Contains, IsSome}
use Rattle.std.specs.Cmp.Lexicographic.{pointwise, slice_cmp}
use Rattle.std.specs.FinMap as maps
use Rattle.std.specs.FinMap.{get-empty}
use Rattle.std.specs.Ordering.{nat_cmp}
use Rattle.std.proofs.lemmas.Bool.{false≢true}
use Rattle.sqlite.specs.Order.{Row as Values}
use Rattle.app_definition_records.specs.ByName.{AreNamesOf}
use Rattle.app_definition_records.specs.Rising.{AreRising}
use Rattle.app_definition_records.specs.declared.predecessors.Predecessor.{Predecessor}
use Rattle.app_definition_records.proofs.ByNameLemmas.{get-inserted, name_itself, same_name}
use Rattle.app_definition_records.proofs.RisingLemmas.{Contains-map, Contains-map_back}
use Rattle.plan_tables_content.specs.Content.{ByName}
use Rattle.plan_tables_content.specs.Facts.{IsPredecessorRow, predecessor_values}
use Rattle.plan_tables_content.proofs.DefinitionLemmas.{one_predecessor, same_named}
use Rattle.plan_tables_definitions.specs.Drafted.{AreSoundPredecessors, IsReadPredecessor, limit_in, predecessor_of}
use Rattle.plan_tables_definitions.specs.Gathering.{Alike, Joins, Within}
use Rattle.plan_tables_definitions.proofs.WholeLemmas.{rising_map}

some_is : {X : Type 0} (a b : X) → Some a ≡ Some b → a ≡ b
some_is a b e = cc

none_some : {X A : Type 0} (o : Option X) (x : X) → o ≡ None → o ≡ Some x → A
none_some o x e h = absurd (let k : ⊥ = cc in k)

-- a row of a name that was not read before
module _ (app : List ℕ) (old new : ByName (Option ℕ)) (p : Predecessor) (put : new ≡ maps.insert old p.name p.within)
  where
    got : (n : List ℕ) → maps.get new n ≡ cond (pointwise nat_eq p.name n) (Some p.within) (maps.get old n)
    got n = ap (λ l. maps.get l n) put ∙ get-inserted old p.name p.within n

    here : maps.get new p.name ≡ Some p.within
    here = got p.name ∙ ap (λ b. cond b (Some p.within) (maps.get old p.name)) (name_itself p.name)

    -- with another name, the limit is that of before
    kept : maps.get old p.name ≡ None → (n : List ℕ) (within : Option ℕ) → maps.get old n ≡ Some within
        → maps.get new n ≡ Some within
    kept none n within had = elim (pointwise nat_eq p.name n) as (λ b. pointwise nat_eq p.name n ≡ b
        → maps.get new n ≡ Some within) [
          | true ↦ λ e. none_some (maps.get old n) within (ap (maps.get old) (sym (same_name p.name n e)) ∙ none) had
          | false ↦ λ e. got n ∙ ap (λ b. cond b (Some p.within) (maps.get old n)) e ∙ had
        ] refl

    came : (q : Predecessor) → maps.get new q.name ≡ Some q.within → (maps.get old q.name ≡ Some q.within) ⊎ (q ≡ p)
    came q has = elim (pointwise nat_eq p.name q.name) as (λ b. pointwise nat_eq p.name q.name ≡ b
        → (maps.get old q.name ≡ Some q.within) ⊎ (q ≡ p)) [
          | true ↦ λ e.
              let names : q.name ≡ p.name = sym (same_name p.name q.name e) in
              let withins : q.within ≡ p.within = some_is q.within p.within (sym has ∙ got q.name
              ∙ ap (λ b. cond b (Some p.within) (maps.get old q.name)) e) in
              inr (λ i. record { name = names i; within = withins i })
          | false ↦ λ e. inl (sym (got q.name ∙ ap (λ b. cond b (Some p.within) (maps.get old q.name)) e) ∙ has)
        ] refl

    pub predecessor_joins : (row : Values) → maps.get old p.name ≡ None → row ≡ predecessor_values app p
        → Joins (IsReadPredecessor app old) row (IsReadPredecessor app new)
    predecessor_joins row none at v = (
      λ (q, has, is). elim (came q has) [
        | inl before ↦ inl (q, before, is)
        | inr same ↦ inr (is ∙ ap (predecessor_values app) same ∙ sym at)
      ],
      λ some. elim some [
        | inl (q, has, is) ↦ (q, kept none q.name q.within has, is)
        | inr is ↦ (p, here, is ∙ at)
      ],
    )

-- two limits of one name are one, where a list has both
pub other_limit : (app : List ℕ) (limits : ByName (Option ℕ)) (d : List Predecessor) (p : Predecessor)
    (within : Option ℕ) (row : Values) → AreSoundPredecessors app d → maps.get limits p.name ≡ Some within
    → row ≡ predecessor_values app p → IsPredecessorRow app d row
    → Within (IsReadPredecessor app limits) (IsPredecessorRow app d) → within ≡ p.within
other_limit app limits d p within row sound got at (q, has, is) inside =
    let other : Predecessor = record { name = p.name; within = within } in
    let (r, there, same) = inside (predecessor_values app other) (other, got, refl) in
    let there : Contains d other = subst (Contains d) (sym (one_predecessor app other r same)) there in
    let has : Contains d p = subst (Contains d) (sym (one_predecessor app p q (sym at ∙ is))) has in
    ap (λ (s : Predecessor). s.within) (same_named (λ (s : Predecessor). s.name) d sound.rising other p there has refl)

pub no_predecessor : (app : List ℕ) (limits : ByName (Option ℕ)) (v : Values) → limits ≡ maps.empty
    → IsReadPredecessor app limits v → ⊥
no_predecessor app limits v empty (p, has, is) = none_some (maps.get limits p.name) p.within
    (ap (λ m. maps.get m p.name) empty ∙ get-empty (slice_cmp nat_cmp) p.name) has

abbrev IsReadWith : ByName (Option ℕ) → Predecessor → Type 0
IsReadWith limits p = maps.get limits p.name ≡ Some p.within

-- what was read with a name
some_limit : (o : Option (Option ℕ)) → IsSome o → o ≡ Some (limit_in o)
some_limit None has = absurd (false≢true has)
some_limit (Some within) has = refl

module _ (app : List ℕ) (limits : ByName (Option ℕ)) (names : List (List ℕ)) (are : AreNamesOf names limits) where
  pub predecessors_alike : Alike (IsPredecessorRow app (map (predecessor_of limits) names)) (IsReadPredecessor app limits)
  predecessors_alike v = (
    λ (p, has, is). let (name, there, same) = Contains-map_back (predecessor_of limits) names p has in
        (p, subst (IsReadWith limits) same (some_limit (maps.get limits name) ((are.exactly name).0 there)), is),
    λ (p, got, is).
        let there : Contains names p.name = (are.exactly p.name).1 (subst IsSome (sym got) refl) in
        let same : predecessor_of limits p.name ≡ p = λ i. record p { within = ap limit_in got i } in (
          p,
          subst (Contains (map (predecessor_of limits) names)) same
              (Contains-map (predecessor_of limits) names p.name there),
          is,
        ),
  )

  pub predecessors_rise : AreRising (λ (p : Predecessor). p.name) (map (predecessor_of limits) names)
  predecessors_rise = rising_map (predecessor_of limits) (λ name. name) (λ (p : Predecessor). p.name) names
      (λ name. refl) are.rising
