-- Moves in a set, and what its table shows then.
use Rattle.std.proofs.Common.{◌≡◌, ◌↔◌, ◌==◌, true, false, not, List, [], ◌∷◌, ◌⊎◌, inl, inr, filter, refl, sym, ap}
use Rattle.std.proofs.Common.{subst, ◌∙◌}
use Rattle.std.specs.List.{Contains}
use Rattle.std.proofs.lemmas.Bool.{eq-eqb, not-true, not_from_false}
use Rattle.sqlite.specs.Order.{Row as Values}
use Rattle.sqlite.specs.Rowids.TheVariants.{Chosen}
use Rattle.sqlite_rules.specs.Edit.{with_rowid}
use Rattle.plan_store_lists.proofs.KeyLemmas.{contains_cases, contains_first, contains_later, nothing}
use Rattle.plan_tables_schema.specs.Rows.{Tables, matches, placed, shown, stored, with_cells, with_rows, without_key}
use Rattle.plan_tables_schema.specs.Schema.{place}
use Rattle.plan_tables_schema.specs.declared.tables.Table.{Table}
use Rattle.plan_tables_content.specs.Content.{IsOfList}
use Rattle.plan_tables_writing.specs.Writing.{with_each, without_each}
use Rattle.plan_tables_constraints.proofs.Held.{Shows, matched, matches_shown, mem_filter, mem_placed}

same_place : (t : Table) → (place t == place t) ≡ true
same_place t = eq-eqb (place t) (place t) refl

pub at_itself : (t : Table) (rows : List Values) (all : Tables) → with_rows t rows all t ≡ rows
at_itself t rows all = rw (same_place t) refl

pub at_other : (t u : Table) (rows : List Values) (all : Tables) → (place u == place t) ≡ false
    → with_rows t rows all u ≡ all u
at_other t u rows all apart = rw apart refl

module _ {X : Type 0} (t : Table) (values_of : X → Values) where
  -- other tables stay
  pub with_other : (u : Table) → (place u == place t) ≡ false → (xs : List X) (all : Tables)
      → with_each t values_of xs all u ≡ all u
  with_other u apart [] all = refl
  with_other u apart (x ∷ xs) all = with_other u apart xs (with_cells t (values_of x) all) ∙ at_other t u _ all apart

  pub without_other : (u : Table) → (place u == place t) ≡ false → (xs : List X) (all : Tables)
      → without_each t values_of xs all u ≡ all u
  without_other u apart [] all = refl
  without_other u apart (x ∷ xs) all =
      without_other u apart xs (without_key t (values_of x) all) ∙ at_other t u _ all apart

  -- no row that is left has one of the keys
  pub shows_without : (xs : List X) (all : Tables) (v : Values) → Shows t (without_each t values_of xs all t) v
      ↔ (Shows t (all t) v × ((x : X) → Contains xs x → matched t (values_of x) v ≡ false))
  shows_without [] all v = ((λ there. (there, λ x none. absurd (nothing x none))), λ both. both.0)
  shows_without (x ∷ xs) all v =
      let next = without_key t (values_of x) all in
      let more = shows_without xs next v in
      let one = mem_filter (shown t) (λ r. not (matches t (values_of x) r)) (λ w. not (matched t (values_of x) w))
      (λ r. ap not (matches_shown t (values_of x) r)) (all t) v in
      let at : next t ≡ filter (λ r. not (matches t (values_of x) r)) (all t) = at_itself t _ all in (
        (λ there.
            let k = more.0 there in
            let h = one.0 (subst (λ rows. Shows t rows v) at k.0) in (
              h.0,
              λ y has. elim (contains_cases x y xs has) [
                | inl is ↦ subst (λ z. matched t (values_of z) v ≡ false) is (not-true _ h.1)
                | inr rest ↦ k.1 y rest
              ],
            )),
        λ both. more.1 (
          subst (λ rows. Shows t rows v) (sym at) (one.1 (both.0, not_from_false _ (both.1 x (contains_first x xs)))),
          λ y has. both.1 y (contains_later x y xs has),
        ),
      )

  module _ (shows : (x : X) (rows : List Values) → shown t (with_rowid Chosen rows (stored t
      (values_of x))) ≡ values_of x) where
    pub shows_cells : (x : X) (all : Tables) (v : Values) → Shows t (with_cells t (values_of x) all t) v
        ↔ ((values_of x ≡ v) ⊎ Shows t (all t) v)
    shows_cells x all v =
        let new = with_rowid Chosen (all t) (stored t (values_of x)) in
        let at : with_cells t (values_of x) all t ≡ placed new (all t) = at_itself t _ all in
        let one = mem_placed (shown t) new (all t) v in (
          (λ there. elim (one.0 (subst (λ rows. Shows t rows v) at there)) [
            | inl is ↦ inl (sym (shows x (all t)) ∙ is)
            | inr rest ↦ inr rest
          ]),
          λ either. subst (λ rows. Shows t rows v) (sym at) (one.1 (elim either [
            | inl is ↦ inl (shows x (all t) ∙ is)
            | inr rest ↦ inr rest
          ])),
        )

    -- the rows of these stand there, beside those that stood there
    pub shows_with : (xs : List X) (all : Tables) (v : Values) → Shows t (with_each t values_of xs all t) v
        ↔ (IsOfList values_of xs v ⊎ Shows t (all t) v)
    shows_with [] all v = (
      (λ there. inr there),
      λ either. elim either [ inl none ↦ absurd (nothing none.0 none.1) | inr there ↦ there ],
    )
    shows_with (x ∷ xs) all v =
        let more = shows_with xs (with_cells t (values_of x) all) v in
        let one = shows_cells x all v in (
          (λ there. elim (more.0 there) [
            | inl new ↦ inl (new.0, contains_later x new.0 xs new.1, new.2)
            | inr old ↦ elim (one.0 old) [ inl is ↦ inl (x, contains_first x xs, sym is) | inr rest ↦ inr rest ]
          ]),
          λ either. more.1 (elim either [
            | inl new ↦ elim (contains_cases x new.0 xs new.1) [
              | inl is ↦ inr (one.1 (inl (ap values_of is ∙ sym new.2)))
              | inr rest ↦ inl (new.0, rest, new.2)
            ]
            | inr rest ↦ inr (one.1 (inr rest))
          ]),
        )
