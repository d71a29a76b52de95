-- Rows of the long-term plan, parted by what becomes of them.
use Rattle.std.proofs.Common.{◌≡◌, ◌≢◌, zero, suc, ◌+◌, ◌++◌, Bool, true, false, cond, List, [], ◌∷◌, filter, get_or}
use Rattle.std.proofs.Common.{length, refl, sym}
use Rattle.std.proofs.Common.{ap, subst, ◌∙◌, inl, inr, arith, Option, None, Some}
use Rattle.std.specs.Prelude.{is_none, if◌then◌else◌}
use Rattle.std.specs.List.{Contains, cons_option, filter_map}
use Rattle.std.proofs.lemmas.List.{append-nil}
use Rattle.std.proofs.lemmas.List.Elements.{All-from_get_or, Contains-append_left, Contains-get_or, Contains-push}
use Rattle.std.proofs.lemmas.List.Elements.{Contains-push_cases, filter-append, filter_map-append}
use Rattle.std.proofs.lemmas.List.Kept.{AllPairs-cons}
use Rattle.std.proofs.lemmas.List.Quantifiers.{all_pairs_push}
use Rattle.occurrences.proofs.KeyLemmas.{key_other, key_strict, other_key, same_key}
use Rattle.occurrences.specs.Key.{KeyBefore, key_eq}
use Rattle.occurrences.specs.declared.key.Key.{Key}
use Rattle.occurrences.specs.declared.row.Row.{Row}
use Rattle.planner_machine.specs.declared.content.Draft.{Draft}
use Rattle.planner_machine.specs.Modify.{draft_with}
use Rattle.plan_store_lists.specs.Rows.{HasEachOnce, of_row}
use Rattle.plan_store_pairs.proofs.ListLemmas.{first_or_later, further, here, none}
use Rattle.long_term_plan.specs.Drafting.{DraftsRise}
use Rattle.long_term_plan.specs.Modifying.{AreChanged}
use Rattle.long_term_plan.proofs.PairwiseLemmas.{front_pairs, last_pairs}

abbrev Apart : Row → Row → Type 0
Apart x y = x.serial ≡ y.serial → ⊥

module _ (f : Row → Option Row) where
  -- what stands among what the rows become
  pub mapped_has : (rows : List Row) (x : Row) → Contains (filter_map f rows) x
      → (row : Row) × Contains rows row × (f row ≡ Some x)
  mapped_has [] x there = absurd (none x there)
  mapped_has (row ∷ rows) x there =
      by_head (λ at. let (r, in_rows, is) = mapped_has rows x at in (r, further row r rows in_rows, is)) (f row) refl
      there
    where
      by_head : (Contains (filter_map f rows) x → (r : Row) × Contains (row ∷ rows) r × (f r ≡ Some x))
          → (o : Option Row) → f row ≡ o → Contains (cons_option o (filter_map f rows)) x
          → (r : Row) × Contains (row ∷ rows) r × (f r ≡ Some x)
      by_head later None is at = later at
      by_head later (Some y) is at = elim (first_or_later y x (filter_map f rows) at) [
        | inl same ↦ (row, here row rows, is ∙ ap Some same)
        | inr rest ↦ later rest
      ]

  pub mapped_all : (rows : List Row) (row x : Row) → Contains rows row → f row ≡ Some x
      → Contains (filter_map f rows) x
  mapped_all [] row x there is = absurd (none row there)
  mapped_all (first ∷ rows) row x there is = elim (first_or_later first row rows there) [
    | inl same ↦ subst (λ (o : Option Row). Contains (cons_option o (filter_map f rows)) x)
        (sym (ap f same ∙ is)) (here x (filter_map f rows))
    | inr rest ↦ behind (f first) (mapped_all rows row x rest is)
  ]
    where
      behind : (o : Option Row) → Contains (filter_map f rows) x → Contains (cons_option o (filter_map f rows)) x
      behind None at = at
      behind (Some y) at = further y x (filter_map f rows) at

  pub mapped_once : ((row x : Row) → f row ≡ Some x → x.serial ≡ row.serial) → (rows : List Row)
      → HasEachOnce of_row rows → HasEachOnce of_row (filter_map f rows)
  mapped_once keeps [] once = λ i j d lt within. absurd (omega (arith, lt, within))
  mapped_once keeps (row ∷ rows) once =
      by_head (mapped_once keeps rows
      (λ i j d lt within. once (suc i) (suc j) d (omega (arith, lt)) (omega (arith, within)))) (f row) refl
    where
      apart : (x y : Row) → f row ≡ Some x → Contains (filter_map f rows) y → x.serial ≡ y.serial → ⊥
      apart x y is at same =
          let (r, (k, lt, at_k), is') = mapped_has rows y at in
          once zero (suc k) r (omega arith) (omega (arith, lt))
          (sym (keeps row x is) ∙ same ∙ keeps r y is' ∙ ap (λ (z : Row). z.serial) (sym at_k))

      by_head : HasEachOnce of_row (filter_map f rows) → (o : Option Row) → f row ≡ o
          → HasEachOnce of_row (cons_option o (filter_map f rows))
      by_head rest None is = rest
      by_head rest (Some x) is = AllPairs-cons Apart x (filter_map f rows)
          (All-from_get_or (λ (y : Row). x.serial ≡ y.serial → ⊥) (filter_map f rows) x
          (λ i lt. apart x (get_or (filter_map f rows) i x) is (Contains-get_or (filter_map f rows) i x lt))) rest

  pub changed_none : AreChanged f [] []
  changed_none = record {
    from = λ x there. absurd (none x there);
    all = λ row x there is. absurd (none row there);
    once = λ once keeps i j d lt within. absurd (omega (arith, lt, within));
  }

  module _ (front : List Row) (row : Row) where
    pub mapped_more : (o : Option Row) → f row ≡ o
        → filter_map f (front ++ row ∷ []) ≡ filter_map f front ++ cons_option o []
    mapped_more o at = filter_map-append f front (row ∷ []) ∙ ap (λ p. filter_map f front ++ cons_option p []) at

    gone_more : (o : Option Row) → f row ≡ o → filter (λ r. is_none (f r)) (front ++ row ∷ [])
        ≡ filter (λ r. is_none (f r)) front ++ (if is_none o then row ∷ [] else [])
    gone_more o at = filter-append (λ r. is_none (f r)) front (row ∷ [])
        ∙ ap (λ p. filter (λ r. is_none (f r)) front ++ (if is_none p then row ∷ [] else [])) at

    -- a row that goes, and one that stays
    pub gone_comes : (old : List Row) → old ≡ filter (λ r. is_none (f r)) front → f row ≡ None
        → old ++ row ∷ [] ≡ filter (λ r. is_none (f r)) (front ++ row ∷ [])
    gone_comes old is at = ap (λ rs. rs ++ row ∷ []) is ∙ sym (gone_more None at)

    pub gone_stays : (old : List Row) (now : Row) → old ≡ filter (λ r. is_none (f r)) front → f row ≡ Some now
        → old ≡ filter (λ r. is_none (f r)) (front ++ row ∷ [])
    gone_stays old now is at =
        is ∙ sym (append-nil (filter (λ r. is_none (f r)) front)) ∙ sym (gone_more (Some now) at)

    module _ (old : List Row) (is : AreChanged f front old) where
      wider : (x : Row) → (r : Row) × Contains front r × (f r ≡ Some x) × (x ≢ r)
          → (r : Row) × Contains (front ++ row ∷ []) r × (f r ≡ Some x) × (x ≢ r)
      wider x (r, there, at, other) = (r, Contains-append_left front (row ∷ []) r there, at, other)

      -- one more row that doesn't change
      pub changed_skip : ((x : Row) → f row ≡ Some x → x ≡ row) → AreChanged f (front ++ row ∷ []) old
      changed_skip stays = record {
        from = λ x there. wider x (is.from x there);
        all = λ r x there becomes. elim (Contains-push_cases front row r there) [
          | inl was ↦ is.all r x was becomes
          | inr same ↦ inr (stays x (ap f same ∙ becomes) ∙ same)
        ];
        once = λ once keeps. is.once (front_pairs Apart front row once) keeps;
      }

      -- and one that does
      pub changed_more : (now : Row) → f row ≡ Some now → now ≢ row
          → AreChanged f (front ++ row ∷ []) (old ++ now ∷ [])
      changed_more now at other = record {
        from = λ x there. elim (Contains-push_cases old now x there) [
          | inl was ↦ wider x (is.from x was)
          | inr same ↦ (row, Contains-push front row, at ∙ ap Some same, λ so. other (same ∙ so))
        ];
        all = λ r x there becomes. elim (Contains-push_cases front row r there) [
          | inl was ↦ elim (is.all r x was becomes) [
            | inl listed ↦ inl (Contains-append_left old (now ∷ []) x listed)
            | inr same ↦ inr same
          ]
          | inr same ↦ inl (subst (Contains (old ++ now ∷ [])) (one r x same becomes) (Contains-push old now))
        ];
        once = λ once keeps. all_pairs_push Apart old now (is.once (front_pairs Apart front row once) keeps)
            (λ k d lt same.
            let (r, there, becomes, _) = is.from (get_or old k d) (Contains-get_or old k d lt) in
            last_pairs Apart front row once r there (sym (keeps r (get_or old k d) becomes) ∙ same ∙ keeps row now at));
      }
        where
          one : (r x : Row) → row ≡ r → f r ≡ Some x → now ≡ x
          one r x same becomes = let both : Some now ≡ Some x = sym at ∙ ap f same ∙ becomes in cc

  -- each row stays or goes
  pub counts : (rows : List Row) → length (filter_map f rows) + length (filter (λ row. is_none (f row)) rows)
      ≡ length rows
  counts [] = refl
  counts (row ∷ rows) = by_head (f row) (counts rows)
    where
      rest : List Row
      rest = filter (λ row. is_none (f row)) rows

      by_head : (o : Option Row) → length (filter_map f rows) + length rest ≡ length rows
          → length (cons_option o (filter_map f rows)) + length (cond (is_none o) (row ∷ rest) rest) ≡ suc (length rows)
      by_head None same = omega (arith, same)
      by_head (Some x) same = omega (arith, same)

-- ---- the draft of a key

pub draft_there : (key : Key) (named : List Draft) (draft : Draft) → DraftsRise named → Contains named draft
    → draft.key ≡ key → draft_with key named ≡ Some draft
draft_there key [] draft order there same = absurd (none draft there)
draft_there key (first ∷ named) draft order there same =
    by_key (λ rest. draft_there key named draft
    (λ i j d lt within. order (suc i) (suc j) d (omega (arith, lt)) (omega (arith, within))) rest same)
    (key_eq first.key key) refl
  where
    by_key : (Contains named draft → draft_with key named ≡ Some draft) → (b : Bool) → key_eq first.key key ≡ b
        → (if b then Some first else draft_with key named) ≡ Some draft
    by_key later true is = elim (first_or_later first draft named there) [
      | inl here ↦ ap Some here
      | inr (k, lt, at) ↦
          let before = order zero (suc k) draft (omega arith) (omega (arith, lt)) in
          let keys : first.key ≡ draft.key = same_key first.key key is ∙ sym same in
          absurd (key_strict.irreflexive draft.key (subst (λ x. KeyBefore x draft.key) keys
          (subst (λ (d : Draft). KeyBefore first.key d.key) at before)))
    ]
    by_key later false is = elim (first_or_later first draft named there) [
      | inl here ↦ absurd (other_key first.key key is (ap (λ (d : Draft). d.key) here ∙ same))
      | inr rest ↦ later rest
    ]

pub draft_nowhere : (key : Key) (named : List Draft) → ((draft : Draft) → Contains named draft → draft.key ≢ key)
    → draft_with key named ≡ None
draft_nowhere key [] lacks = refl
draft_nowhere key (first ∷ named) lacks =
    let other : key_eq first.key key ≡ false = key_other first.key key (lacks first (here first named)) in
    ap (λ (b : Bool). if b then Some first else draft_with key named) other
    ∙ draft_nowhere key named (λ draft there. lacks draft (further first draft named there))
