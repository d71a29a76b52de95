-- A node stands on a ring exactly where a walk over steps between different nodes leads back to it.
use Rattle.std.proofs.Common.{◌≡◌, ◌≢◌, ℕ, zero, suc, ◌+◌, ◌-◌, ◌<◌, ◌≤◌, ◌⊎◌, List, [], ◌∷◌, length, get_or, refl}
use Rattle.std.proofs.Common.{sym, subst, inl, inr, arith}
use Rattle.std.specs.List.{AllPairs, AllByRecursion}
use Rattle.std.proofs.lemmas.List.Elements.{All-from_recursion}
use Rattle.std.proofs.lemmas.List.Kept.{AllPairs-cons}
use Rattle.std.proofs.lemmas.Bool.{cases_lt}
use Rattle.external_dependencies.specs.Walk.{WalkStep, IsWalk, Reaches}
use Rattle.external_dependencies.specs.Loop.{IsRing, OnRing}
use Rattle.external_dependencies.proofs.WalkLemmas.{reaches-trans, reaches-step}

module _ {V : Type 0} (E : V → V → Type 0) (ring : List V) (is : IsRing E ring) (d : V) where
  -- from one place of a ring to a later one
  along : (n i j : ℕ) → j ≡ i + n + 1 → j < length ring → Reaches E (get_or ring i d) (get_or ring j d)
  along zero i j same lt =
      let next : i + 1 ≡ j = omega arith in
      subst (λ k. Reaches E (get_or ring i d) (get_or ring k d)) next
      (reaches-step E _ _ (is.next i d (omega arith)) (is.different i (i + 1) d (omega arith) (omega arith)))
  along (suc n) i j same lt =
      let before : Reaches E (get_or ring i d) (get_or ring (i + n + 1) d) = along n i (i + n + 1) refl (omega arith) in
      let next : i + n + 1 + 1 ≡ j = omega arith in
      let step : Reaches E (get_or ring (i + n + 1) d) (get_or ring (i + n + 1 + 1) d) =
      reaches-step E _ _ (is.next (i + n + 1) d (omega arith))
      (is.different (i + n + 1) (i + n + 1 + 1) d (omega arith) (omega arith)) in
      subst (λ k. Reaches E (get_or ring i d) (get_or ring k d)) next (reaches-trans E _ _ _ before step)

  forth : (i j : ℕ) → i < j → j < length ring → Reaches E (get_or ring i d) (get_or ring j d)
  forth i j below lt = along (j - i - 1) i j (omega arith) lt

  -- from the last place to the first
  back : Reaches E (get_or ring (length ring - 1) d) (get_or ring 0 d)
  back = reaches-step E _ _ (is.closes d) (λ same. is.different 0 (length ring - 1) d (omega (arith, is.several))
      (omega (arith, is.several)) (sym same))

  -- and so from each place to itself
  pub round : (k : ℕ) → k < length ring → Reaches E (get_or ring k d) (get_or ring k d)
  round zero lt = reaches-trans E _ _ _ (forth 0 (length ring - 1) (omega (arith, is.several))
      (omega (arith, is.several))) back
  round (suc k) lt = elim (cases_lt (suc k) (length ring - 1)) [
    | inl inside ↦ reaches-trans E _ _ _ (forth (suc k) (length ring - 1) inside (omega (arith, is.several)))
        (reaches-trans E _ _ _ back (forth 0 (suc k) (omega arith) lt))
    | inr last ↦
        let same : length ring - 1 ≡ suc k = omega arith in
        let out : Reaches E (get_or ring (suc k) d) (get_or ring 0 d) =
        subst (λ n. Reaches E (get_or ring n d) (get_or ring 0 d)) same back in
        reaches-trans E _ _ _ out (forth 0 (suc k) (omega arith) lt)
  ]

module _ {V : Type 0} (E : V → V → Type 0) (decide : (x y : V) → (x ≡ y) ⊎ (x ≢ y)) where
  -- a node on a ring returns to itself
  pub returns_on_ring : (v : V) → OnRing E v → Reaches E v v
  returns_on_ring v (ring, is, (k, lt, at)) = subst (λ x. Reaches E x x) at (round E ring is v k lt)

  -- no two nodes of the list are the same
  abbrev Different : List V → Type 0
  Different [] = Unit {0}
  Different (x ∷ xs) = AllByRecursion (λ y. x ≢ y) xs × Different xs

  module _ (goal : V) where
    -- a walk to the goal that visits no node twice, and the goal only at its end
    record Short (from : V) : Type 0 where
      between : List V
      walk : IsWalk E from between goal
      different : Different between
      short_of : AllByRecursion (λ y. goal ≢ y) between

    -- such a walk that does not come back to its first node
    record Shorter (from : V) : Type 0 where
      between : List V
      walk : IsWalk E from between goal
      different : Different between
      short_of : AllByRecursion (λ y. goal ≢ y) between
      never_back : AllByRecursion (λ y. from ≢ y) between

    -- where a node stands on such a walk, the rest of the walk serves it
    cut : (x from : V) (between : List V) → IsWalk E from between goal → Different between
        → AllByRecursion (λ y. goal ≢ y) between → AllByRecursion (λ y. x ≢ y) between ⊎ Shorter x
    cut x from [] walk different short_of = inl tt
    cut x from (y ∷ between) walk different short_of = elim (decide x y) [
      | inl same ↦ inr (record {
        between = between;
        walk = subst (λ z. IsWalk E z between goal) (sym same) walk.1;
        different = different.1;
        short_of = short_of.1;
        never_back = subst (λ z. AllByRecursion (λ w. z ≢ w) between) (sym same) different.0;
      })
      | inr differ ↦ elim (cut x y between walk.1 different.1 short_of.1) [
        | inl out ↦ inl (differ, out)
        | inr shorter ↦ inr shorter
      ]
    ]

    -- each walk to the goal has such a walk beside it
    shorten : (from : V) (between : List V) → IsWalk E from between goal → Short from
    shorten from [] walk = record { between = []; walk = walk; different = tt; short_of = tt }
    shorten from (x ∷ between) walk =
        let rest = shorten x between walk.1 in
        elim (decide goal x) [
          | inl same ↦ record {
            between = [];
            walk = subst (λ y. WalkStep E from y) (sym same) walk.0;
            different = tt;
            short_of = tt;
          }
          | inr differ ↦ elim (cut x x rest.between rest.walk rest.different rest.short_of) [
            | inl out ↦ record {
              between = x ∷ rest.between;
              walk = (walk.0, rest.walk);
              different = (out, rest.different);
              short_of = (differ, rest.short_of);
            }
            | inr shorter ↦ record {
              between = x ∷ shorter.between;
              walk = (walk.0, shorter.walk);
              different = (shorter.never_back, shorter.different);
              short_of = (differ, shorter.short_of);
            }
          ]
        ]

    all_different : (xs : List V) → Different xs → AllPairs (λ x y. x ≢ y) xs
    all_different [] different = λ i j d below lt. absurd (omega arith)
    all_different (x ∷ xs) different = AllPairs-cons (λ x y. x ≢ y) x xs
        (All-from_recursion (λ y. x ≢ y) xs different.0) (all_different xs different.1)

    -- the edges of a walk
    walk-next : (from : V) (between : List V) → IsWalk E from between goal → (k : ℕ) (d : V)
        → suc k < length (from ∷ between) → E (get_or (from ∷ between) k d) (get_or (from ∷ between) (suc k) d)
    walk-next from [] walk k d lt = absurd (omega arith)
    walk-next from (x ∷ between) walk zero d lt = walk.0.0
    walk-next from (x ∷ between) walk (suc k) d lt = walk-next x between walk.1 k d (omega arith)

    walk-last : (from : V) (between : List V) → IsWalk E from between goal → (d : V)
        → E (get_or (from ∷ between) (length between) d) goal
    walk-last from [] walk d = walk.0
    walk-last from (x ∷ between) walk d = walk-last x between walk.1 d

    -- a node that returns to itself stands on a ring
    pub on_ring : Reaches E goal goal → OnRing E goal
    on_ring (between, walk) = made (shorten goal between walk)
      where
        several : (xs : List V) → IsWalk E goal xs goal → 2 ≤ length (goal ∷ xs)
        several [] walk = absurd (walk.1 refl)
        several (x ∷ xs) walk = omega arith

        made : Short goal → OnRing E goal
        made short = (
          goal ∷ short.between,
          record {
            several = several short.between short.walk;
            different = all_different (goal ∷ short.between) (short.short_of, short.different);
            next = λ k d lt. let is : suc k ≡ k + 1 = omega arith in
                subst (λ n. E (get_or (goal ∷ short.between) k d) (get_or (goal ∷ short.between) n d)) is
                (walk-next goal short.between short.walk k d (omega arith));
            closes = λ d. let is : length short.between ≡ length (goal ∷ short.between) - 1 = omega arith in
                subst (λ n. E (get_or (goal ∷ short.between) n d) goal) is (walk-last goal short.between short.walk d);
          },
          (0, omega arith, refl),
        )
