-- CREATE TABLE of a table of the plan beside others: why it fails, and what it makes.
use Rattle.std.proofs.Common.{◌≡◌, ◌≤◌, ◌+◌, ◌*◌, ◌^◌, ℕ, true, false, inl, inr, List, [], ◌∷◌, length, map}
use Rattle.std.proofs.Common.{Option, Some, None, Result, Ok, Err, true≢false, refl, sym, ap, subst, ◌∙◌, arith, nat_lt, codes}
use Rattle.std.specs.List.{AllByRecursion}
use Rattle.std.specs.Prelude.{IsUtf8}
use Rattle.std.specs.Str.{is_utf8}
use Rattle.std.proofs.lemmas.Bool.Decides.{nat_tests}
use Rattle.std.proofs.lemmas.Str.{IsUtf8-from_is_utf8}
use Rattle.sqlite.specs.Effect.{Database, IsDatabase}
use Rattle.sqlite.specs.Command.TheVariants.{CreateTable}
use Rattle.sqlite.specs.Compile.{table_defined_by}
use Rattle.sqlite.specs.Change.{created, next_tree, KeepsRows}
use Rattle.sqlite.specs.Does.{Does, MakesTable as MakesIts, lacks_sequence}
use Rattle.sqlite.specs.Listing.{understood}
use Rattle.sqlite.specs.Schema.{Schema}
use Rattle.sqlite.specs.State.{State, Executes, ExecutesInside, mode_of}
use Rattle.sqlite.specs.Table.{Table as Described}
use Rattle.sqlite.specs.declared.error.Error.{Error}
use Rattle.sqlite.specs.declared.run.Mode.{Mode}
use Rattle.sqlite.proofs.Callers.{runs_as}
use Rattle.sqlite_catalog.specs.Calls.{RefusesTable}
use Rattle.sqlite_catalog.specs.Change.{automatics, is_reserved, is_used}
use Rattle.sqlite_catalog.specs.Listing.{is_fit, is_formed}
use Rattle.sqlite_catalog.specs.declared.error.Refusal.{Refusal}
use Rattle.sqlite_catalog.specs.declared.error.Refusal.TheVariants.{Invalid, NameTaken, BadName, TooBig, BadKey, BadText, Violates}
use Rattle.sqlite_resolve.specs.declared.error.CompileError.{CompileError}
use Rattle.sqlite_rules.specs.Lists.{Has}
use Rattle.sqlite_schema.specs.Names.{same_name}
use Rattle.sqlite_schema.specs.Rules.{index_reals, table_reals}
use Rattle.sqlite_schema.specs.declared.schema.Index.{Index}
use Rattle.sqlite_tied.specs.Compute.{everything}
use Rattle.sqlite_value.specs.declared.value.Value.TheVariants.{Text}
use Rattle.plan_tables_schema.specs.Rows.{MayFail}
use Rattle.plan_tables_schema.specs.Schema.{name, table_at, uniques}
use Rattle.plan_tables_schema.specs.Texts.{create_sql}
use Rattle.plan_tables_schema.specs.declared.tables.Table.{Table}
use Rattle.plan_tables_schema.specs.declared.tables.Table.TheVariants.{Meta}
use Rattle.plan_tables_schema.specs.declared.tables.Table.TheVariants.{Current, Deletion}
use Rattle.plan_tables_schema.specs.declared.tables.Table.TheVariants.{Job}
use Rattle.plan_tables_schema.proofs.CreatedLemmas.{front_all, stays_uncounted}
use Rattle.plan_tables_schema.proofs.CreateTexts.{create_defines, create_means}
use Rattle.plan_tables_schema.proofs.MadeLemmas.{CanMakeEach, all_names}
use Rattle.plan_tables_schema.proofs.MeaningLemmas.{Means}
use Rattle.plan_tables_schema.proofs.Steps as steps
use Rattle.plan_tables_schema.proofs.StopLemmas.{IsOrdinary, IsStopped, in_vain, stopped}

-- nothing in the table itself stands in the way
abbrev Fits : Table → Type 0
Fits t = (is_utf8 (name t) ≡ true) × (is_reserved (name t) ≡ false)
    × (nat_lt (table_reals (table_at 0 t)) (2 ^ 64) ≡ true)
    × AllByRecursion (λ key. nat_lt (index_reals (table_reals (table_at 0 t)) key) (2 ^ 64) ≡ true) (uniques t)
    × (is_formed (table_at 0 t) ≡ true)
    × (is_fit (Text (codes "table")) (Text (name t)) (Text (name t)) (Text (create_sql t)) ≡ true)
    × (nat_lt (2 * length (name t) + length (create_sql t) + 200) (10 ^ 9) ≡ true) × (is_utf8 (create_sql t) ≡ true)

fits : (t : Table) → Fits t
unfolding
    understood everything same_name is_utf8 Rattle.std.specs.Str.chars lib.Utf8.encode
    Rattle.sqlite_trees.specs.Sound.fits_kind Rattle.sqlite_trees.specs.Sound.is_free_name
    Rattle.sqlite_trees.specs.Sound.same_name Rattle.sqlite_trees.specs.Sound.begins
    Rattle.sqlite_value.specs.Order.value_cmp lib.Ieee.is_nan lib.Ieee.lt
fits Meta = (refl, refl, refl, tt, refl, refl, refl, refl)
fits Current = (refl, refl, refl, tt, refl, refl, refl, refl)
fits Deletion = (refl, refl, refl, tt, refl, refl, refl, refl)
fits Job = (refl, refl, refl, tt, refl, refl, refl, refl)
fits t = (refl, refl, refl, (refl, tt), refl, refl, refl, refl)

pub has_passes : {X : Type 0} (P : X → Type 0) (xs : List X) (x : X) → AllByRecursion P xs → Has xs x → P x
has_passes P [] x all here = absurd here
has_passes P (y ∷ ys) x all (inl same) = subst P (sym same) all.0
has_passes P (y ∷ ys) x all (inr later) = has_passes P ys x all.1 later

below : (a b : ℕ) → nat_lt a b ≡ true → b ≤ a → ⊥
below a b less over = grind (arith, nat_tests)

all_mapped : {X Y : Type 0} (P : Y → Type 0) (f : X → Y) (xs : List X) → AllByRecursion P (map f xs) → AllByRecursion (λ x. P (f x)) xs
all_mapped P f [] h = tt
all_mapped P f (x ∷ xs) h = (h.0, all_mapped P f xs h.1)

ordinary_create : IsOrdinary CreateTable
ordinary_create = record { quiet = refl; plain = refl; begins = λ e. cc; commits = λ e. cc; undoes = λ e. cc; releases = λ name e. cc; goes_back = λ name e. cc }

module _ (schema : Schema) (left : List Table) (t : Table) (can : CanMakeEach schema (t ∷ left)) where
  means : Means schema (create_sql t) CreateTable 0
  means = (create_means schema t can.free.0).0

  same_table : (d : Described) → table_defined_by (create_sql t) ≡ Ok d → d ≡ table_at 0 t
  same_table d h = let e : ◌≡◌ {A = Result Described CompileError} (Ok d) (Ok (table_at 0 t)) = sym h ∙ create_defines t in cc

  keys_free : AllByRecursion (λ (i : Index). is_used schema i.name ≡ false) (automatics (table_at 0 t) 0 0 (uniques t))
  keys_free = all_mapped (λ n. is_used schema n ≡ false) (λ (i : Index). i.name) (automatics (table_at 0 t) 0 0 (uniques t))
      (front_all (λ n. is_used schema n ≡ false) (map (λ (i : Index). i.name) (automatics (table_at 0 t) 0 0 (uniques t))) (all_names left) can.free.1)

  not_refused : (why : Refusal) → RefusesTable schema (create_sql t) why → ⊥
  not_refused (Invalid e) h = let clash = sym (create_defines t) ∙ h in cc
  not_refused NameTaken (d, defined, inl used) = true≢false (sym (subst (λ (d : Described). is_used schema d.name ≡ true) (same_table d defined) used) ∙ can.free.0)
  not_refused NameTaken (d, defined, inr (index, has, used)) = true≢false (sym used ∙ has_passes (λ i. is_used schema i.name ≡ false)
      (automatics (table_at 0 t) 0 0 (uniques t)) index keys_free (subst (λ (d : Described). Has (automatics d 0 0 d.uniques) index) (same_table d defined) has))
  not_refused BadName (d, defined, inl bad) = subst (λ (d : Described). ¬ IsUtf8 d.name) (same_table d defined) bad (IsUtf8-from_is_utf8 (name t) (fits t).0)
  not_refused BadName (d, defined, inr (reserved, own)) = true≢false (sym (subst (λ (d : Described). is_reserved d.name ≡ true) (same_table d defined) reserved) ∙ (fits t).1)
  not_refused TooBig (d, defined, inl many) =
      let over = subst (λ (d : Described). 65536 ≤ next_tree schema + length d.uniques) (same_table d defined) many in absurd (omega (arith, over, can.room))
  not_refused TooBig (d, defined, inr (inl wide)) = below (table_reals (table_at 0 t)) (2 ^ 64) (fits t).2
      (subst (λ (d : Described). 2 ^ 64 ≤ table_reals d) (same_table d defined) wide)
  not_refused TooBig (d, defined, inr (inr (key, has, wide))) =
      let same = same_table d defined in
      below (index_reals (table_reals (table_at 0 t)) key) (2 ^ 64) (has_passes (λ key. nat_lt (index_reals (table_reals
      (table_at 0 t)) key) (2 ^ 64) ≡ true) (uniques t) key (fits t).3 (subst (λ (d : Described). Has
      d.uniques key) same has)) (subst (λ (d : Described). 2 ^ 64 ≤ index_reals (table_reals d) key) same wide)
  not_refused BadKey (d, defined, bad) = true≢false (sym (fits t).4 ∙ subst (λ (d : Described). is_formed d ≡ false) (same_table d defined) bad)
  not_refused BadText (d, defined, bad) = true≢false (sym (fits t).5 ∙ subst (λ (d : Described).
      is_fit (Text (codes "table")) (Text d.name) (Text d.name) (Text (create_sql t)) ≡ false) (same_table d defined) bad)
  not_refused (Violates rule) h = absurd h

  no_stop : (db : Database) → db.schema ≡ schema → (stop : Option Error) → MakesIts (create_sql t) db (Err stop) → ⊥
  no_stop db has None (d, defined, long) = below (2 * length (name t) + length (create_sql t) + 200) (10 ^ 9)
      (fits t).6 (subst (λ (d : Described). 10 ^ 9 ≤ 2 * length d.name + length (create_sql t) + 200) (same_table d defined) long)
  no_stop db has (Some e) (inl (bad, same)) = bad (IsUtf8-from_is_utf8 (create_sql t) (fits t).7)
  no_stop db has (Some e) (inr (why, refuses, same)) = not_refused why (subst (λ s. RefusesTable s (create_sql t) why) has refuses)

  uncounted : lacks_sequence (created schema (table_at 0 t)) ≡ false
  uncounted = stays_uncounted schema (table_at 0 t) refl can.uncounted

  never_stops : (limit : Option ℕ) (mode : Mode) (db : Database) (stop : Option Error)
      → db.schema ≡ schema → Does limit mode [] db (create_sql t) None CreateTable (Err stop) → ⊥
  never_stops limit mode db stop has (inr (a, made, e)) = let clash = e in cc
  never_stops limit mode db stop has (inl (s, inr (a, made, next), e)) =
      let made_is : a.schema ≡ created schema (table_at 0 t) = made.is ∙ ap (λ s. created s made.table) has
      ∙ ap (created schema) (same_table made.table made.defined) in
      let none : lacks_sequence a.schema ≡ false = ap lacks_sequence made_is ∙ uncounted in
      let clash = (rw none at next) in cc
  never_stops limit mode db stop has (inl (s, inl (s', made, e'), e)) = no_stop db has s' made

  pub make_fails : (old new : State) (e : Error) → old.now.schema ≡ schema → ExecutesInside 0 (create_sql t) [] old new (Err e) → MayFail old new e
  make_fails old new e has h = in_vain old new [] (create_sql t) CreateTable e
      (λ does. never_stops old.step_limit (mode_of old) old.now None has does)
      (λ opened does. absurd (never_stops old.step_limit (mode_of old) old.now (Some e) has does))
      (subst (λ text. IsStopped old new [] text CreateTable e) (create_means schema t can.free.0).1 (stopped schema (create_sql t) []
      CreateTable means.whole means.plain means.is ordinary_create old new e has h))

  -- the schema, the rows of the new table, and those of the others; and the database obeys its rules
  pub makes : (old new : State) (count : ℕ) → old.now.schema ≡ schema → Executes (create_sql t) [] old new (Ok count)
      → (new.now.schema ≡ created schema (table_at 0 t)) × (new.now.trees (next_tree schema) ≡ [])
      × KeepsRows schema.tables old.now.trees new.now.trees × IsDatabase new.now
  makes old new count has h =
      let text = (create_means schema t can.free.0).1 in
      let step = steps.creates schema (table_at 0 t) (create_sql t) means.is text (create_defines t) means.plain
      uncounted old new count has h in
      let writes = runs_as (create_sql t) [] old new schema has CreateTable means.is means.plain count h in
      (step.0, step.1, step.2, writes.sound)
