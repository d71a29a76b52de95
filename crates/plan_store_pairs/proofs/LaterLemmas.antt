-- The last rows of each application.
use Rattle.std.proofs.Common.{◌≡◌, ◌⊎◌, ℕ, ◌+◌, ◌-◌, ◌<◌, ◌≤◌, List, [], ◌∷◌, ◌++◌, length, get_or, drop, refl, sym, ap, subst, ◌∙◌}
use Rattle.std.proofs.Common.{inl, inr, arith, Err, IfOk, Ok, Result}
use Rattle.std.specs.List.{Contains}
use Rattle.std.specs.Cmp.Lexicographic.{slice_cmp}
use Rattle.std.specs.FinMap.{nat_cmp-IsAntisymmetric}
use Rattle.std.specs.Ordering.{nat_cmp, ordering_then}
use Rattle.std.specs.declared.cmp.Ordering.TheVariants.{Less, Equal}
use Rattle.std.proofs.lemmas.Bool.{cases_order}
use Rattle.std.proofs.lemmas.Cmp.{nat_list_cmp_total, ranked, tied_itself}
use Rattle.std.proofs.lemmas.List.{get_or_default, get_or-drop, length-drop}
use Rattle.std.proofs.lemmas.List.Elements.{Contains-append_cases, Contains-append_left, Contains-append_right}
use Rattle.std.proofs.lemmas.List.Elements.{Contains-get_or}
use Rattle.occurrences.specs.declared.row.Row.{Row}
use Rattle.external_dependencies.specs.Arrival.{arrival_cmp}
use Rattle.external_dependencies.specs.Nearest.{arrival_of}
use Rattle.external_dependencies.specs.declared.touch.Touch.{Touch}
use Rattle.plan_store_lists.proofs.KeyLemmas.{nothing}
use Rattle.plan_store_lists.proofs.SliceLemmas.{then_less}
use Rattle.plan_store_lists.specs.Keyed.{IsKeyed}
use Rattle.plan_store_pairs.specs.Later.{AreEnough, AreLater, ReachesFrom}

-- of one application, by input arrival and then by serial
in_order : (a b : Row) → a.key.app ≡ b.key.app → arrival_cmp (arrival_of a) (arrival_of b) ≡ Less
    → (a.key.ia < b.key.ia) ⊎ ((a.key.ia ≡ b.key.ia) × (a.serial < b.serial))
in_order a b same less =
    let tied : slice_cmp nat_cmp a.key.app b.key.app ≡ Equal =
    ap (slice_cmp nat_cmp a.key.app) (sym same) ∙ tied_itself nat_list_cmp_total a.key.app in
    elim (then_less (slice_cmp nat_cmp a.key.app b.key.app)
    (ordering_then (nat_cmp a.key.ia b.key.ia) (nat_cmp a.serial b.serial)) less) [
      | inl below ↦ absurd (let h : ⊥ = cc in h)
      | inr rest ↦ elim (then_less (nat_cmp a.key.ia b.key.ia) (nat_cmp a.serial b.serial) rest.1) [
        | inl early ↦ inl (ranked a.key.ia b.key.ia Less (sym early))
        | inr last ↦ inr (
          nat_cmp-IsAntisymmetric a.key.ia b.key.ia last.0,
          ranked a.serial b.serial Less (sym last.1),
        )
      ]
    ]

-- no earlier
abbrev NoEarlier : Row → Row → Type 0
NoEarlier a b = (a.key.ia ≤ b.key.ia) × (a.key.ia ≡ b.key.ia → a.serial ≤ b.serial)

module _ (rows : List Row) (keyed : IsKeyed arrival_cmp arrival_of rows)
    (one : (x y : Row) → Contains rows x → Contains rows y → x.key.app ≡ y.key.app) where
  rises : (i j : ℕ) (d : Row) → i ≤ j → j < length rows → NoEarlier (get_or rows i d) (get_or rows j d)
  rises i j d le lt = elim (cases_order i j) [
    | inl same ↦ subst (λ n. NoEarlier (get_or rows i d) (get_or rows n d)) same (omega arith, λ _. omega arith)
    | inr (inl below) ↦
        let there = Contains-get_or rows i d (omega arith) in
        let late = Contains-get_or rows j d lt in
        elim (in_order (get_or rows i d) (get_or rows j d) (one (get_or rows i d) (get_or rows j d) there late)
        (keyed i j d below lt)) [
          | inl early ↦ (omega (arith, early), λ tie. absurd (let h : ⊥ = omega (arith, early, tie) in h))
          | inr (tie, less) ↦ (omega (arith, tie), λ _. omega (arith, less))
        ]
    | inr (inr above) ↦ absurd (let h : ⊥ = omega (arith, le, above) in h)
  ]

  module _ (moment start : ℕ) (within : start ≤ length rows)
      (after : (i : ℕ) (d : Row) → start ≤ i → i < length rows → moment ≤ (get_or rows i d).key.ia)
      (before : (d : Row) → 0 < start → (get_or rows (start - 1) d).key.ia < moment) where
    abbrev tail : List Row
    tail = drop (start - 1) rows

    in_tail : (i : ℕ) (d : Row) → start - 1 ≤ i → i < length rows → Contains tail (get_or rows i d)
    in_tail i d from lt =
        let place : start - 1 + (i - (start - 1)) ≡ i = omega (arith, from) in (
          i - (start - 1),
          omega (arith, from, lt, length-drop (start - 1) rows),
          get_or-drop (start - 1) rows (i - (start - 1)) (get_or rows i d)
              ∙ ap (λ n. get_or rows n (get_or rows i d)) place ∙ get_or_default rows i (get_or rows i d) d lt,
        )

    of_tail : (row : Row) → Contains tail row → Contains rows row
    of_tail row (k, lt, at) = (
      start - 1 + k,
      omega (arith, lt, length-drop (start - 1) rows, within),
      sym (get_or-drop (start - 1) rows k row) ∙ at,
    )

    pub tail_later : AreLater rows moment tail
    tail_later = record {
      stand = of_tail;
      late = λ row (i, lt, at) late. subst (Contains tail) at (in_tail i row (far row i lt at late) lt);
      last = λ row (i, lt, at) early.
          let low = near row i lt at early in
          let b = get_or rows (start - 1) row in
          let order = subst (λ (r : Row). NoEarlier r b) at (rises i (start - 1) row (omega (arith, low)) (omega (
            arith,
            low,
            within,
          ))) in (
            b,
            in_tail (start - 1) row (omega arith) (omega (arith, low, within)),
            record {
              app = one b row (Contains-get_or rows (start - 1) row (omega (arith, low, within))) (i, lt, at);
              before = before row (omega (arith, low));
              ia = order.0;
              serial = order.1;
            },
          );
    }
      where
        -- what arrives late is not before the place
        far : (row : Row) (i : ℕ) → i < length rows → get_or rows i row ≡ row → moment ≤ row.key.ia → start - 1 ≤ i
        far row i lt at late = elim (cases_order (start - 1) i) [
          | inl same ↦ omega (arith, same)
          | inr (inl below) ↦ omega (arith, below)
          | inr (inr above) ↦
              let b = before row (omega (arith, above)) in
              let order = (rises i (start - 1) row (omega (arith, above)) (omega (arith, above, within))).0 in
              let own : (get_or rows i row).key.ia ≡ row.key.ia = ap (λ (r : Row). r.key.ia) at in
              absurd (let h : ⊥ = omega (arith, b, order, own, late) in h)
        ]

        -- and what arrives early is
        near : (row : Row) (i : ℕ) → i < length rows → get_or rows i row ≡ row → row.key.ia < moment → i < start
        near row i lt at early = elim (cases_order i start) [
          | inl same ↦ absurd (let h : ⊥ = late same in h)
          | inr (inl below) ↦ below
          | inr (inr above) ↦ absurd (let h : ⊥ = later (omega (arith, above)) in h)
        ]
          where
            later : start ≤ i → ⊥
            later le =
                let a = after i row le lt in
                let own : (get_or rows i row).key.ia ≡ row.key.ia = ap (λ (r : Row). r.key.ia) at in
                omega (arith, a, own, early)

            late : i ≡ start → ⊥
            late same = later (omega (arith, same))

-- of two lists, one after the other
pub later_both : (xs ys first second : List Row) (moment : ℕ) → AreLater xs moment first → AreLater ys moment second
    → AreLater (xs ++ ys) moment (first ++ second)
later_both xs ys first second moment one two = record {
  stand = λ row there. elim (Contains-append_cases first second row there) [
    | inl here ↦ Contains-append_left xs ys row (one.stand row here)
    | inr here ↦ Contains-append_right xs ys row (two.stand row here)
  ];
  late = λ row there late. elim (Contains-append_cases xs ys row there) [
    | inl here ↦ Contains-append_left first second row (one.late row here late)
    | inr here ↦ Contains-append_right first second row (two.late row here late)
  ];
  last = λ row there early. elim (Contains-append_cases xs ys row there) [
    | inl here ↦ let (b, among, is) = one.last row here early in (b, Contains-append_left first second b among, is)
    | inr here ↦ let (b, among, is) = two.last row here early in (b, Contains-append_right first second b among, is)
  ];
}

pub none_later : (moment : ℕ) → AreLater [] moment []
none_later moment = record {
  stand = λ row there. there;
  late = λ row there late. there;
  last = λ row there early. absurd (nothing row there);
}

-- all of them
pub all_later : (rows : List Row) → AreLater rows 0 rows
all_later rows = record {
  stand = λ row there. there;
  late = λ row there late. there;
  last = λ row there early. absurd (let h : ⊥ = omega (arith, early) in h);
}

-- what was found is enough
pub enough_from : {V E : Type 0} (touch : Touch) (rows : List Row) (moment : ℕ) (items : V → List Row)
    (result : Result V E) → ReachesFrom touch moment → IfOk result (λ later. AreLater rows moment (items later))
    → IfOk result (λ later. AreEnough touch rows (items later))
enough_from touch rows moment items (Ok later) reaches are = (moment, reaches, are)
enough_from touch rows moment items (Err e) reaches are = tt

pub none_in : {X : Type 0} (xs : List X) → length xs ≡ 0 → xs ≡ []
none_in [] none = refl
none_in (x ∷ xs) none = absurd (let h : ⊥ = omega (arith, none) in h)
