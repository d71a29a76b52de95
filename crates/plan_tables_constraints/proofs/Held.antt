-- What tables show after rows are put in and taken out.
use Rattle.std.proofs.Common.{◌≡◌, ◌↔◌, ℕ, ℤ, Bool, true, false, cond, List, [], ◌∷◌, ◌⊎◌, inl, inr, map, filter}
use Rattle.std.proofs.Common.{refl, sym, ap, subst, ◌∙◌, ◌&&◌, not}
use Rattle.std.proofs.Common.{Ordering, Less, Equal, Greater, is_eq}
use Rattle.std.specs.List.{Contains, list_all}
use Rattle.std.specs.Ordering.{match_ordering, int_cmp, nat_cmp}
use Rattle.std.specs.FinMap.{int_cmp-IsAntisymmetric, slice_cmp-IsAntisymmetric, nat_cmp-IsAntisymmetric}
use Rattle.std.specs.Cmp.Lexicographic.{slice_cmp}
use Rattle.std.proofs.lemmas.Cmp.{tied_itself, int_cmp_total}
use Rattle.std.specs.Cmp.Lexicographic.{nat_list_cmp_total}
use Rattle.std.specs.Prelude.{pos, Some}
use Rattle.std.proofs.lemmas.Bool.{false≢true}
use Rattle.sqlite.specs.Order.{Row as Values, column}
use Rattle.sqlite.specs.Tree.{rowid}
use Rattle.sqlite_schema.specs.Rules.{agree, passes_checks}
use Rattle.plan_tables_schema.specs.Schema.{table as description}
use Rattle.sqlite_value.specs.Keys.{first_key, plain}
use Rattle.sqlite_sql.specs.Ops.{binary, is_false, is_true, from_truth}
use Rattle.sqlite_sql.specs.declared.ops.BinaryOp.TheVariants.{Compare}
use Rattle.sqlite_sql.specs.declared.ops.CompareOp.TheVariants.{Eq}
use Rattle.sqlite_value.specs.declared.keys.Collation.TheVariants.{Binary}
use Rattle.sqlite_value.specs.declared.value.Value.{Value}
use Rattle.sqlite_value.specs.declared.value.Value.TheVariants.{Int, Text}
use Rattle.sqlite_value.specs.Order.{value_cmp}
use Rattle.sqlite_value.proofs.OrderLemmas.{value_cmp-Int, value_cmp-Text}
use Rattle.plan_store_lists.proofs.KeyLemmas.{contains_cases, contains_first, contains_later, nothing}
use Rattle.plan_tables_schema.specs.Rows.{matches, placed, shown}
use Rattle.plan_tables_schema.specs.declared.tables.Table.{Table}
use Rattle.plan_tables_schema.specs.declared.tables.Table.TheVariants as table
use Rattle.plan_tables_content.specs.Facts.{natural}

-- the table shows these values
abbrev pub Shows : Table → List Values → Values → Type 0
Shows t rows v = Contains (map (shown t) rows) v

pub mem_placed : (f : Values → Values) (new : Values) (rows : List Values) (v : Values)
    → Contains (map f (placed new rows)) v ↔ ((f new ≡ v) ⊎ Contains (map f rows) v)
mem_placed f new [] v = (
  (λ there. contains_cases (f new) v [] there),
  λ either. elim either [
    | inl is ↦ subst (Contains (f new ∷ [])) is (contains_first (f new) [])
    | inr none ↦ absurd (nothing v none)
  ],
)
mem_placed f new (r ∷ rs) v = go (value_cmp (rowid r) (rowid new)) (mem_placed f new rs v)
  where
    later : Contains (map f (placed new rs)) v ↔ ((f new ≡ v) ⊎ Contains (map f rs) v)
        → Contains (f r ∷ map f (placed new rs)) v ↔ ((f new ≡ v) ⊎ Contains (f r ∷ map f rs) v)
    later more = (
      (λ there. elim (contains_cases (f r) v (map f (placed new rs)) there) [
        | inl is ↦ inr (subst (Contains (f r ∷ map f rs)) is (contains_first (f r) (map f rs)))
        | inr rest ↦ elim (more.0 rest) [ inl is ↦ inl is | inr has ↦ inr (contains_later (f r) v (map f rs) has) ]
      ]),
      λ either. elim either [
        | inl is ↦ contains_later (f r) v (map f (placed new rs)) (more.1 (inl is))
        | inr has ↦ elim (contains_cases (f r) v (map f rs) has) [
          | inl is ↦ subst (Contains (f r ∷ map f (placed new rs))) is (contains_first (f r) (map f (placed new rs)))
          | inr rest ↦ contains_later (f r) v (map f (placed new rs)) (more.1 (inr rest))
        ]
      ],
    )

    here : Contains (f new ∷ f r ∷ map f rs) v ↔ ((f new ≡ v) ⊎ Contains (f r ∷ map f rs) v)
    here = (
      (λ there. contains_cases (f new) v (f r ∷ map f rs) there),
      λ either. elim either [
        | inl is ↦ subst (Contains (f new ∷ f r ∷ map f rs)) is (contains_first (f new) (f r ∷ map f rs))
        | inr has ↦ contains_later (f new) v (f r ∷ map f rs) has
      ],
    )

    go : (o : Ordering) → Contains (map f (placed new rs)) v ↔ ((f new ≡ v) ⊎ Contains (map f rs) v)
        → Contains (map f (match_ordering o (r ∷ placed new rs) (r ∷ placed new rs) (new ∷ r ∷ rs))) v
        ↔ ((f new ≡ v) ⊎ Contains (f r ∷ map f rs) v)
    go Less more = later more
    go Equal more = later more
    go Greater more = here

pub mem_filter : (f : Values → Values) (p : Values → Bool) (q : Values → Bool) → ((r : Values) → p r ≡ q (f r))
    → (rows : List Values) (v : Values)
    → Contains (map f (filter p rows)) v ↔ (Contains (map f rows) v × (q v ≡ true))
mem_filter f p q same [] v = ((λ there. absurd (nothing v there)), λ both. both.0)
mem_filter f p q same (r ∷ rs) v = go (p r) refl (mem_filter f p q same rs v)
  where
    go : (b : Bool) → p r ≡ b → Contains (map f (filter p rs)) v ↔ (Contains (map f rs) v × (q v ≡ true))
        → Contains (map f (cond b (r ∷ filter p rs) (filter p rs))) v ↔ (Contains (f r ∷ map f rs) v × (q v ≡ true))
    go true e more = (
      (λ there. elim (contains_cases (f r) v (map f (filter p rs)) there) [
        | inl is ↦ (
          subst (Contains (f r ∷ map f rs)) is (contains_first (f r) (map f rs)),
          ap q (sym is)
              ∙ sym (same r) ∙ e,
        )
        | inr rest ↦ let k = more.0 rest in (contains_later (f r) v (map f rs) k.0, k.1)
      ]),
      λ both. elim (contains_cases (f r) v (map f rs) both.0) [
        | inl is ↦ subst (Contains (f r ∷ map f (filter p rs))) is (contains_first (f r) (map f (filter p rs)))
        | inr rest ↦ contains_later (f r) v (map f (filter p rs)) (more.1 (rest, both.1))
      ],
    )
    go false e more = (
      (λ there. let k = more.0 there in (contains_later (f r) v (map f rs) k.0, k.1)),
      λ both. elim (contains_cases (f r) v (map f rs) both.0) [
        | inl is ↦ absurd (false≢true (sym (sym (same r) ∙ e) ∙ ap q is ∙ both.1))
        | inr rest ↦ more.1 (rest, both.1)
      ],
    )

-- ---- keys

pub same_cell : Value → Value → Bool
same_cell a b = is_true (binary (Compare Eq Binary) a b)

-- the values have the key
abbrev pub matched : Table → Values → Values → Bool
matched table.LinkInForce key v = list_all (λ (i : ℕ). same_cell (column v i) (column key i)) (0 ∷ 1 ∷ [])
matched table.Dependency key v = list_all (λ (i : ℕ). same_cell (column v i) (column key i)) (0 ∷ 1 ∷ [])
matched _ key v = list_all (λ (i : ℕ). same_cell (column v i) (column key i)) (0 ∷ [])

pub matches_shown : (t : Table) (key r : Values) → matches t key r ≡ matched t key (shown t r)
unfolding same_cell
matches_shown table.Meta key r = refl
matches_shown t key r = refl

told : (b : Bool) → is_true (from_truth (Some b)) ≡ b
told true = refl
told false = refl

pub equal_from : (o : Ordering) → is_eq o ≡ true → o ≡ Equal
equal_from Less h = cc
equal_from Equal h = refl
equal_from Greater h = cc

cell_int : (a b : ℤ) → same_cell (Int a) (Int b) ≡ is_eq (int_cmp a b)
unfolding same_cell binary
cell_int a b = told _ ∙ ap is_eq (value_cmp-Int a b)

cell_text : (a b : List ℕ) → same_cell (Text a) (Text b) ≡ is_eq (slice_cmp nat_cmp a b)
unfolding same_cell binary
cell_text a b = told _ ∙ ap is_eq (value_cmp-Text a b)

pub one_natural : (a b : ℕ) → same_cell (natural a) (natural b) ≡ true → a ≡ b
one_natural a b h = let same : pos a ≡ pos b = int_cmp-IsAntisymmetric (pos a) (pos b) (equal_from _ (sym
    (cell_int (pos a) (pos b)) ∙ h)) in cc

pub natural_itself : (a b : ℕ) → a ≡ b → same_cell (natural a) (natural b) ≡ true
natural_itself a b e = cell_int (pos a) (pos b) ∙ ap is_eq (ap (int_cmp (pos a)) (sym (ap pos e))
    ∙ tied_itself int_cmp_total (pos a))

pub one_text : (a b : List ℕ) → same_cell (Text a) (Text b) ≡ true → a ≡ b
one_text a b h = slice_cmp-IsAntisymmetric nat_cmp-IsAntisymmetric a b (equal_from _ (sym (cell_text a b) ∙ h))

pub text_itself : (a b : List ℕ) → a ≡ b → same_cell (Text a) (Text b) ≡ true
text_itself a b e = cell_text a b ∙ ap is_eq (ap (slice_cmp nat_cmp a) (sym e) ∙ tied_itself nat_list_cmp_total a)

-- two rows agree at the places of a key where each cell of it is the same
pub agree_cell : (p : ℕ) (ps : List ℕ) (a b : Values)
    → agree plain (p ∷ ps) a (p ∷ ps) b ≡ (same_cell (column a p) (column b p) && agree plain ps a ps b)
unfolding first_key same_cell
agree_cell p ps a b = refl

untold : (b : Bool) → is_false (from_truth (Some b)) ≡ not b
untold true = refl
untold false = refl

-- the number of the one row of how far the plans reach is 1
pub one_passes : (rest : Values) → passes_checks (description table.Meta) (natural 1 ∷ rest) ≡ true
unfolding binary
one_passes rest = ap (λ b. not b && true) (untold _ ∙ ap not (ap is_eq (value_cmp-Int (pos 1) (pos 1))))
