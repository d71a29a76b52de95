-- Numbers that fall along the edges of a graph, and walks that come back.
use Rattle.std.proofs.Common.{◌≡◌, ◌≢◌, ℕ, ◌<◌, ◌≤◌, Bool, true, false, List, [], ◌∷◌, length, get_or, refl}
use Rattle.std.proofs.Common.{sym, subst, ◌∙◌, inl, inr, arith}
use Rattle.std.proofs.lemmas.Bool.{cases_order, false≢true}
use Rattle.external_dependencies.specs.Falling.{AreShared, FallAlong}
use Rattle.external_dependencies.specs.Walk.{Edge, IsWalk, ReturnsTo}

module _ (g : List (List ℕ)) (numbers : List ℕ) (fall : FallAlong g numbers) where
  -- the number at the end of a walk is at most that at its start
  walk_falls : (from to : ℕ) (between : List ℕ) → from < length g → IsWalk (Edge g) from between to
      → (to < length g) × (get_or numbers to 0 ≤ get_or numbers from 0)
  walk_falls from to [] lt walk = let facts = fall.falls from to lt walk.0 in
      (omega (arith, facts.0, fall.same_length), facts.1)
  walk_falls from to (x ∷ between) lt walk =
      let facts = fall.falls from x lt walk.0.0 in
      let rest = walk_falls x to between (omega (arith, facts.0, fall.same_length)) walk.1 in
      (rest.0, omega (arith, facts.1, rest.1))

  -- a node whose number no other node has does not return to itself
  pub lone_stays : (node : ℕ) → node < length g
      → ((other : ℕ) → other < length numbers → node ≢ other → get_or numbers node 0 ≢ get_or numbers other 0)
      → ReturnsTo g node → ⊥
  lone_stays node lt alone ([], walk) = walk.1 refl
  lone_stays node lt alone (x ∷ between, walk) =
      let facts = fall.falls node x lt walk.0.0 in
      let rest = walk_falls x node between (omega (arith, facts.0, fall.same_length)) walk.1 in
      alone x facts.0 walk.0.1 (omega (arith, facts.1, rest.1))

-- a number that is not marked as shared has one node
pub lone_from_shared : (numbers : List ℕ) (shared : List Bool) → AreShared numbers (length numbers) shared → (count : ℕ)
    → count ≤ length numbers → ((k : ℕ) → k < count → get_or shared (get_or numbers k 0) false ≡ false)
    → (i j : ℕ) → i < count → j < length numbers → i ≢ j → get_or numbers i 0 ≢ get_or numbers j 0
lone_from_shared numbers shared are count fits unmarked i j lt_i lt_j differ same = elim (cases_order i j) [
  | inl is ↦ differ is
  | inr (inl below) ↦ false≢true (sym (unmarked i lt_i) ∙ are.twice i j below lt_j same)
  | inr (inr above) ↦
      false≢true (sym (unmarked i lt_i) ∙ subst (λ n. get_or shared n false ≡ true) (sym same)
      (are.twice j i above (omega arith) (sym same)))
]
