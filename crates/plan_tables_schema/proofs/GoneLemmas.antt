-- The rows of a key are taken out, but for the common causes of a failure.
use Rattle.std.proofs.Common.{◌≡◌, ◌≢◌, ◌⊎◌, ◌∙◌, ℕ, true, false, not, inl, inr, List, [], ◌∷◌, ◌++◌}
use Rattle.std.proofs.Common.{map, filter, Option, Some, None, IsSome, IsTrue, Ok, Err, refl, sym, ap, subst, true≢false}
use Rattle.std.specs.List.{AllByRecursion}
use Rattle.std.specs.List.Sorted.{IsPermutation}
use Rattle.std.proofs.lemmas.Bool.{both_ways, cases_eq, false_from_ne_true, not_from_false, or_cases, or_left, or_right}
use Rattle.sqlite.specs.Command.{Command}
use Rattle.sqlite.specs.Command.TheVariants.{Delete}
use Rattle.sqlite.specs.Does.{Does, OnRows}
use Rattle.sqlite.specs.Edit.{Applies, Edit, edit_of}
use Rattle.sqlite.specs.Effect.{Answers, RefusesQuery}
use Rattle.sqlite.specs.Listing.{understood}
use Rattle.sqlite.specs.Order.{Row}
use Rattle.sqlite.specs.Query.{Query}
use Rattle.sqlite_schema.specs.declared.program.Program.{Program}
use Rattle.sqlite.specs.Rowids.TheVariants.{Given}
use Rattle.sqlite.specs.Rows.{Deletes, Task, Written}
use Rattle.sqlite.specs.Schema.{Schema}
use Rattle.sqlite.specs.State.{State, ExecutesInside}
use Rattle.sqlite.specs.Table.{Table as Described}
use Rattle.sqlite.specs.Term.{col}
use Rattle.sqlite.specs.Tree.{Trees, rowid}
use Rattle.sqlite.specs.declared.error.Error.{Error}
use Rattle.sqlite.specs.declared.error.Error.TheVariants.{SqliteFailure}
use Rattle.sqlite.specs.declared.error.ErrorCode.TheVariants.{OperationInterrupted}
use Rattle.sqlite.specs.declared.run.Mode.{Mode}
use Rattle.sqlite.specs.declared.types.Value.TheVariants.{Null}
use Rattle.sqlite.proofs.Callers.{statement_of}
use Rattle.sqlite_rules.proofs.KeyLemmas.{agree_back}
use Rattle.sqlite_rules.proofs.ListLemmas.{all_has, has_filtered, has_kept, some_from, some_has}
use Rattle.sqlite_rules.proofs.RuleLemmas.{refers_at}
use Rattle.sqlite_rules.specs.Action.{Settles, Writes, works}
use Rattle.sqlite_rules.specs.Calls.{ids_of}
use Rattle.sqlite_rules.specs.Edit.{IsRefused, edited, taken_by}
use Rattle.sqlite_rules.specs.Lists.{Has}
use Rattle.sqlite_rules.specs.declared.error.Refusal.{Refusal}
use Rattle.sqlite_rules.specs.declared.error.Refusal.TheVariants.{Violates, Mismatch, NoRowid, BadReference, TooDeep}
use Rattle.sqlite_schema.specs.Names.{same_name}
use Rattle.sqlite_schema.specs.Rules.{Keeps, Refers, agree, has_null, has_parent, is_held, parent_key}
use Rattle.sqlite_schema.specs.declared.schema.Among.TheVariants.{All as Whole}
use Rattle.sqlite_schema.specs.declared.schema.Constraint.TheVariants.{Datatype, NotNull, Check, PrimaryKey, Unique, ForeignKey}
use Rattle.sqlite_schema.specs.declared.schema.Keys.TheVariants.{Enforced}
use Rattle.sqlite_trees.specs.Tree.{with_tree}
use Rattle.sqlite_value.specs.Keys.{plain}
use Rattle.plan_tables_schema.specs.Cells.{delete_tests}
use Rattle.plan_tables_schema.specs.Rows.{HaveRowids, IsAlone, MayFail, Tables, matches, tables_of, without_key}
use Rattle.plan_tables_schema.specs.Accepted.{IsKeyOf, IsSoundPlan, LosesKey}
use Rattle.plan_tables_schema.specs.Texts.{delete_sql}
use Rattle.plan_tables_schema.specs.declared.tables.Table.{Table}
use Rattle.std.specs.List.{list_all}
use Rattle.sqlite_rules.proofs.ListLemmas.{test_from}
use Rattle.std.proofs.Common.{length}
use Rattle.sqlite_schema.specs.Rules.{is_key_if_to, is_key_of}
use Rattle.sqlite_rules.specs.Edit.{row_at}
use Rattle.plan_tables_schema.specs.Schema.{HasTables, name, table_at, to_run_cycle}
use Rattle.plan_tables_schema.specs.declared.tables.Table.TheVariants.{RunCycle}
use Rattle.plan_tables_schema.specs.declared.tables.Table.TheVariants.{Offset, LinkInForce}
use Rattle.plan_tables_schema.specs.declared.tables.Table.TheVariants.{Dependency}
use Rattle.plan_tables_schema.proofs.CycleLemmas.{child_matches}
use Rattle.plan_tables_schema.proofs.MeaningLemmas.{IsWhole}
use Rattle.plan_tables_schema.proofs.StopLemmas.{IsOrdinary, in_vain, same_error, some_same, stopped}
use Rattle.plan_tables_schema.proofs.RowLemmas.{left_after}
use Rattle.plan_tables_schema.proofs.Steps.{plain_query, plain_rows, same_value}
use Rattle.plan_tables_schema.proofs.WrittenKeys.{key_width}
use Rattle.plan_tables_schema.proofs.DeleteTexts.{key_accepted}
use Rattle.plan_tables_schema.proofs.EffectLemmas.{none_referred, own}
use Rattle.plan_tables_schema.proofs.NamedLemmas.{rows_are}
use Rattle.plan_tables_schema.proofs.StatementLemmas.{deleted, gone_soundly, trees_tell}
use Rattle.plan_tables_schema.proofs.PlanLemmas.{each_reference, offsets_apart, offsets_refer, unreferred}
use Rattle.plan_tables_schema.proofs.RunCycleLemmas.{IsChildless, childless, ends, found_pass, key_is, one_step_by}
use Rattle.plan_tables_schema.proofs.StillLemmas.{is_listed, refers_still, unique_still}
use Rattle.plan_tables_schema.proofs.TakeLemmas.{at_other, at_own, cycles_keyed, in_plain_order, still_sound}
use Rattle.plan_tables_schema.proofs.TextMeanings.{delete_means}

-- a run cycle that has offsets is not one of the key
stays_for : (key : Row) (all : Tables) → IsAlone RunCycle key all → (p r : Row)
    → Has (all Offset) r → agree plain (1 ∷ 2 ∷ []) p (1 ∷ 2 ∷ []) r ≡ true → matches RunCycle key p ≡ false
stays_for key all alone p r has agrees = false_from_ne_true _ (λ is. both_ways _ (all_has (λ r. matches
    Offset key r ≡ false) (all Offset) r alone has) (child_matches key r p is (subst (λ o. agree o (1 ∷ 2 ∷ []) r
    (1 ∷ 2 ∷ []) p ≡ true) (sym in_plain_order) (agree_back plain (1 ∷ 2 ∷ []) (1 ∷ 2 ∷ []) p r agrees))))

module _ (schema : Schema) (it : HasTables schema) where
  stays_alone : (t : Table) (key : Row) (all : Tables) → IsAlone t key all → it.trees RunCycle ≡ it.trees t → (p r : Row)
      → Has (all Offset) r → agree plain (1 ∷ 2 ∷ []) p (1 ∷ 2 ∷ []) r ≡ true → matches t key p ≡ false
  stays_alone t key all alone same p r has agrees = subst (λ t. IsAlone t key all → matches t key p ≡ false) (trees_tell schema it RunCycle t same)
      (λ alone. stays_for key all alone p r has agrees) alone

  parent_is : parent_key schema.tables to_run_cycle ≡ Some (it.trees RunCycle, 1 ∷ 2 ∷ [], plain)
  parent_is = key_is schema (it.at RunCycle) (it.trees RunCycle) (it.trees Offset) (it.stands RunCycle) (is_listed schema it RunCycle) it.apart (offsets_refer schema it)
      ∙ ap (λ o. Some (it.trees RunCycle, 1 ∷ 2 ∷ [], o)) in_plain_order

  -- rows may be taken out, since each reference to the table is to a key of it
  removes_fit : is_key_of schema to_run_cycle ≡ true → (t : Table) → list_all (λ (d : Described). list_all (is_key_if_to schema (table_at (it.trees t) t)) d.references) schema.tables ≡ true
  removes_fit keyed t =
      let each = each_reference schema it (λ d ref. is_key_if_to schema (table_at (it.trees t) t) ref ≡ true) (λ d ref aside. or_left _ _ (ap not (aside t))) (or_right _ _ keyed) in
      test_from _ schema.tables (λ d has. test_from _ d.references (λ ref known. all_has _ d.references ref (all_has _ schema.tables d each has) known))

  unreferred_childless : (t : Table) → same_name (name t) (name RunCycle) ≡ false → (mid : Trees) (olds : List Row) → AllByRecursion (IsChildless mid) (works schema Enforced 0 (it.trees t) olds [])
  unreferred_childless t other mid olds = subst (AllByRecursion (IsChildless mid)) (sym (none_referred schema (table_at (it.trees t) t) (is_listed schema it t) it.apart (unreferred schema it t other) Enforced 0 olds [])) tt

  -- what is set off finds no child
  finds_none : (t : Table) (key : Row) (db mid : Trees) (rows : List Row) → HaveRowids (db (it.trees t)) → IsAlone t key (λ u. db (it.trees u))
      → IsPermutation (map (λ r. rowid r ∷ []) (filter (matches t key) (db (it.trees t)))) rows
      → Applies schema Enforced db (edit_of db (table_at (it.trees t) t) (ids_of rows) Given 0 []) mid
      → AllByRecursion (IsChildless mid) (works schema Enforced 0 (it.trees t) (taken_by db (edit_of db (table_at (it.trees t) t) (ids_of rows) Given 0 [])) [])
  unfolding same_name
  finds_none RunCycle key db mid rows rowids alone same applies =
      childless schema (it.at RunCycle) (it.trees RunCycle) (it.trees Offset) (it.stands RunCycle) (is_listed schema it RunCycle) it.apart (offsets_refer schema it) key (map (row_at (db (it.trees RunCycle))) (ids_of rows)) mid
      (found_pass (matches RunCycle key) (db (it.trees RunCycle)) rows rowids same)
      (λ r there. all_has _ (db (it.trees Offset)) r alone (subst (λ rows. Has rows r) (all_has (λ (d : Described). d.tree ≢ it.trees RunCycle → mid d.tree ≡ db d.tree) schema.tables (table_at (it.trees Offset) Offset) applies.tables
      (is_listed schema it Offset) (offsets_apart schema it)) there))
  finds_none t key db mid rows rowids alone same applies = unreferred_childless t refl mid _

  settles : (t : Table) (key : Row) (db next : Trees) (rows : List Row) → HaveRowids (db (it.trees t)) → IsAlone t key (λ u. db (it.trees u))
      → IsPermutation (map (λ r. rowid r ∷ []) (filter (matches t key) (db (it.trees t)))) rows
      → Writes schema Enforced db (edit_of db (table_at (it.trees t) t) (ids_of rows) Given 0 []) (Ok next)
      → Applies schema Enforced db (edit_of db (table_at (it.trees t) t) (ids_of rows) Given 0 []) next
  settles t key db next rows rowids alone same h = one_step_by schema db next (edit_of db (table_at (it.trees t) t) (ids_of rows) Given 0 [])
      (λ mid applies. finds_none t key db mid rows rowids alone same applies) h

  -- what it sets off is not refused
  sets_off_well : (t : Table) (key : Row) (db next : Trees) (rows : List Row) (why : Option Refusal) → HaveRowids (db (it.trees t))
      → IsAlone t key (λ u. db (it.trees u))
      → IsPermutation (map (λ r. rowid r ∷ []) (filter (matches t key) (db (it.trees t)))) rows
      → Applies schema Enforced db (edit_of db (table_at (it.trees t) t) (ids_of rows) Given 0 []) next
      → Settles schema Enforced next ([] ++ works schema Enforced 0 (it.trees t) (taken_by db (edit_of db
      (table_at (it.trees t) t) (ids_of rows) Given 0 [])) []) (Err why) → ⊥
  sets_off_well t key db next rows why rowids alone same applies (n, leads) =
      let e = ends schema next n _ (Err why) (finds_none t key db next rows rowids alone same applies) leads in cc

  module _ (t : Table) (key : Row) (fit : IsKeyOf t key) (db : Trees) (rowids : HaveRowids (db (it.trees t)))
      (alone : IsAlone t key (λ u. db (it.trees u))) where
    abbrev was : List Row
    was = db (it.trees t)

    abbrev left : List Row
    left = filter (λ r. not (matches t key r)) was

    abbrev IsFound : List Row → Type 0
    IsFound rows = IsPermutation (map (λ r. rowid r ∷ []) (filter (matches t key) was)) rows

    abbrev edit : List Row → Edit
    edit rows = edit_of db (table_at (it.trees t) t) (ids_of rows) Given 0 []

    left_is : (rows : List Row) → IsFound rows → edited db (edit rows) ≡ left
    left_is rows same = left_after (matches t key) was rows rowids same

    module _ (next : Trees) (here : next (it.trees t) ≡ left)
        (others : (d : Described) → Has schema.tables d → d.tree ≢ it.trees t → next d.tree ≡ db d.tree) where
      kept : (r : Row) → Has (next (it.trees t)) r → Has was r
      kept r has = (has_filtered (λ r. not (matches t key r)) was r (subst (λ rows. Has rows r) here has)).0

      from : (r : Row) → Has (next (it.trees t)) r → Has [] r ⊎ Has was r
      from r has = inr (kept r has)

      pub unique_after : Keeps Unique schema db → Keeps Unique schema next
      unique_after keeps = unique_still schema (table_at (it.trees t) t) (is_listed schema it t) it.apart db next [] others from (λ i listed on r none. absurd none) keeps

      offset_before : (r : Row) → Has (next (it.trees Offset)) r → Has (db (it.trees Offset)) r
      offset_before r has = elim (cases_eq (it.trees Offset) (it.trees t)) [
        | inl same ↦ subst (λ n. Has (db n) r) (sym same) (kept r (subst (λ n. Has (next n) r) same has))
        | inr other ↦ subst (λ rows. Has rows r) (others (table_at (it.trees Offset) Offset) (is_listed schema it Offset) other) has
      ]

      parent_after : (p r : Row) → Has (db (it.trees RunCycle)) p → Has (db (it.trees Offset)) r
          → agree plain (1 ∷ 2 ∷ []) p (1 ∷ 2 ∷ []) r ≡ true → Has (next (it.trees RunCycle)) p
      parent_after p r has child agrees = elim (cases_eq (it.trees RunCycle) (it.trees t)) [
        | inl same ↦ subst (λ n. Has (next n) p) (sym same) (subst (λ rows. Has rows p) (sym here) (has_kept (λ r. not
            (matches t key r)) was p (subst (λ n. Has (db n) p) same has) (not_from_false _ (stays_alone t key (λ u. db (it.trees u)) alone same p r child agrees))))
        | inr other ↦ subst (λ rows. Has rows p) (sym (others (table_at (it.trees RunCycle) RunCycle) (is_listed schema it RunCycle) other)) has
      ]

      parent_still : Refers Whole schema db → (r : Row) → Has (db (it.trees Offset)) r
          → has_parent schema.tables next r to_run_cycle ≡ true
      parent_still refers r has = elim (or_cases (has_null (1 ∷ 2 ∷ []) r) (is_held db (1 ∷ 2 ∷ []) r (parent_key
          schema.tables to_run_cycle)) (refers_at Whole schema db (table_at (it.trees Offset) Offset) r to_run_cycle refers (is_listed schema it Offset) has (inl refl) refl)) [
            | inl null ↦ or_left (has_null (1 ∷ 2 ∷ []) r) (is_held next (1 ∷ 2 ∷ []) r (parent_key schema.tables
                to_run_cycle)) null
            | inr in_db ↦
                let parent = some_has (λ p. agree plain (1 ∷ 2 ∷ []) p (1 ∷ 2 ∷ []) r) (db (it.trees RunCycle)) (rw parent_is at in_db) in
                or_right (has_null (1 ∷ 2 ∷ []) r) (is_held next (1 ∷ 2 ∷ []) r (parent_key schema.tables to_run_cycle))
                (rw parent_is (some_from (λ p. agree plain (1 ∷ 2 ∷ []) p (1 ∷ 2 ∷ []) r) (next (it.trees RunCycle))
                parent.0 (parent_after parent.0 r parent.1 has parent.2) parent.2))
          ]

      pub refers_after : Refers Whole schema db → Refers Whole schema next
      refers_after refers = refers_still schema it t db next [] others from refers (λ r has. parent_still refers r
          (offset_before r has))

    -- ---- it is not refused

    abbrev HasKeys : Type 0
    HasKeys = Keeps Unique schema db × (is_key_of schema to_run_cycle ≡ true)

    not_refused : HasKeys → (rows : List Row) → IsFound rows → (why : Refusal)
        → IsRefused schema Enforced db (edit rows) why → ⊥
    not_refused keeps rows same (Violates Datatype) h = let e = h in cc
    not_refused keeps rows same (Violates NotNull) h = let e = h in cc
    not_refused keeps rows same (Violates Check) h = let e = h in cc
    not_refused keeps rows same (Violates PrimaryKey) h = let e = h in cc
    not_refused keeps rows same (Violates Unique) h = h (unique_after (with_tree db (it.trees t) (edited db (edit rows)))
        (at_own db (it.trees t) (edited db (edit rows)) ∙ left_is rows same)
        (λ d listed other. at_other db d.tree (it.trees t) (edited db (edit rows)) other) keeps.0)
    not_refused keeps rows same (Violates ForeignKey) h = h
    not_refused keeps rows same Mismatch h = let e = h in cc
    not_refused keeps rows same NoRowid h = let e = h in cc
    not_refused keeps rows same BadReference h = true≢false (sym (or_right _ _ (removes_fit keeps.1 t)) ∙ h)
    not_refused keeps rows same TooDeep h = h

    never_big : (rows : List Row) → IsFound rows → Writes schema Enforced db (edit rows) (Err None) → ⊥
    never_big rows same (inl (reason, refused, e)) = absurd (let k = e in cc)
    never_big rows same (inr (inl (r, has, big, e))) = has
    never_big rows same (inr (inr (next, applies, leads))) =
        sets_off_well t key db next rows None rowids alone same applies leads

    never : HasKeys → (rows : List Row) → IsFound rows → (why : Refusal)
        → Writes schema Enforced db (edit rows) (Err (Some why)) → ⊥
    never keeps rows same why (inl (reason, refused, e)) = not_refused keeps rows same reason refused
    never keeps rows same why (inr (inl (r, has, big, e))) = has
    never keeps rows same why (inr (inr (next, applies, leads))) =
        sets_off_well t key db next rows (Some why) rowids alone same applies leads

    holds : Refers Whole schema db → (rows : List Row) → IsFound rows → (next : Trees)
        → Writes schema Enforced db (edit rows) (Ok next) → Refers Whole schema next
    holds refers rows same next h =
        let applies = settles t key db next rows rowids alone same h in
        refers_after next (applies.rows ∙ left_is rows same) (λ d listed other. all_has (λ (u : Described). u.tree ≢ it.trees
        t → next u.tree ≡ db u.tree) schema.tables d applies.tables listed other) refers

    -- ---- the statement

    abbrev query : Query
    query = plain_query (it.trees t) (delete_tests t) (col 1 0 ∷ [])

    abbrev program : Program
    program = record { lets = []; body = query }

    is_found : (rows : List Row) → Answers (record { schema = schema; trees = db }) program key rows → IsFound rows
    is_found rows answers =
        plain_rows (it.trees t) (delete_tests t) (col 1 0 ∷ []) db key rows (own schema (it.at t) (it.trees t) t (it.stands t) db) (answers.answer Null)

    late : (limit : Option ℕ) (e : Error) → RefusesQuery limit (record { schema = schema; trees = db }) program key e
        → (e ≡ SqliteFailure OperationInterrupted) × IsSome limit
    late limit e (inl h) = absurd (true≢false (sym (key_accepted schema (it.trees t) t (it.stands t).stored (it.stands t).found key fit) ∙ h.1))
    late limit e (inr (inl (same, inl h))) = absurd h
    late limit e (inr (inl (same, inr h))) = absurd h.4
    late limit e (inr (inr h)) = h

    module _ (limit : Option ℕ) where
      abbrev task : Task
      task = record { limit = limit; keys = Enforced; schema = schema; table = table_at (it.trees t) t; params = key }

      goes_none : Deletes task program db (Err None) → ⊥
      goes_none (inl (Some e, h, is)) = absurd (let k = is in cc)
      goes_none (inl (None, h, is)) = absurd h
      goes_none (inr (rows, answers, inl (s, (Some why, h, told), is))) = absurd (let e = is in let k = told in cc)
      goes_none (inr (rows, answers, inl (s, (None, h, told), is))) = never_big rows (is_found rows answers) h
      goes_none (inr (rows, answers, inr (mid, h, is))) = absurd (let e = is in cc)

      goes : HasKeys → (stop : Option Error) → Deletes task program db (Err stop)
          → (stop ≡ Some (SqliteFailure OperationInterrupted)) × IsSome limit
      goes keeps stop (inl (Some e, h, is)) = let told = late limit e h in (same_error is ∙ ap Some told.0, told.1)
      goes keeps stop (inl (None, h, is)) = absurd h
      goes keeps stop (inr (rows, answers, inl (s, (Some why, h, told), is))) =
          absurd (never keeps rows (is_found rows answers) why h)
      goes keeps stop (inr (rows, answers, inl (s, (None, h, told), is))) =
          absurd (never_big rows (is_found rows answers) h)
      goes keeps stop (inr (rows, answers, inr (mid, h, is))) = absurd (let e = is in cc)

      refers_then : Refers Whole schema db → (w : Written) → Deletes task program db (Ok w) → Refers Whole schema w.trees
      refers_then refers w (inl (s, h, is)) = absurd (let e = is in cc)
      refers_then refers w (inr (rows, answers, inl (s, h, is))) = absurd (let e = is in cc)
      refers_then refers w (inr (rows, answers, inr (mid, h, is))) =
          let trees : w.trees ≡ mid = ap (λ (it : Written). it.trees) (same_value is) in
          subst (Refers Whole schema) (sym trees) (holds refers rows (is_found rows answers) mid h)

      abbrev mode : Mode
      mode = record { keys = Enforced; in_doubt = false; may_wait = false }

      abbrev command : Command
      command = Delete (it.at t) program

      abbrev DoesSo : List ℕ → Option Error → Type 0
      DoesSo text stop = Does limit mode key (record { schema = schema; trees = db }) text None command (Err stop)

      pub never_stops : (text : List ℕ) → DoesSo text None → ⊥
      never_stops text does = go (rw ((it.stands t).got) at does)
        where
          go : OnRows task mode None command db (Err None) → ⊥
          go (inl (s, h, is)) = goes_none (subst (λ s. Deletes task program db (Err s)) (sym (same_error is)) h)
          go (inr (w, h, inl (s, tested, is))) = absurd (let e = tested.1 in let k = is in cc)
          go (inr (w, h, inr (in_doubt, tested, inl (s, shown, is)))) = absurd (let e = shown in cc)
          go (inr (w, h, inr (in_doubt, tested, inr (rows, shown, is)))) = absurd (let e = is in cc)

      pub stops : HasKeys → Refers Whole schema db → (text : List ℕ) (stop : Option Error)
          → DoesSo text stop → (stop ≡ Some (SqliteFailure OperationInterrupted)) × IsSome limit
      stops keeps refers text stop does = go (rw ((it.stands t).got) at does)
        where
          go : OnRows task mode None command db (Err stop)
              → (stop ≡ Some (SqliteFailure OperationInterrupted)) × IsSome limit
          go (inl (s, h, is)) = let told = goes keeps s h in (same_error is ∙ told.0, told.1)
          go (inr (w, h, inl (s, tested, is))) = absurd (tested.0 (refers_then refers w h))
          go (inr (w, h, inr (in_doubt, tested, inl (s, shown, is)))) = absurd (let e = shown in cc)
          go (inr (w, h, inr (in_doubt, tested, inr (rows, shown, is)))) = absurd (let e = is in cc)

ordinary : (place : ℕ) (p : Program) → IsOrdinary (Delete place p)
ordinary place p = record { quiet = refl; plain = refl; begins = λ e. cc; commits = λ e. cc; undoes = λ e. cc; releases = λ name e. cc; goes_back = λ name e. cc }

-- a key has so many values
key_length : (t : Table) (key : Row) → IsKeyOf t key → key_width t ≡ length key
key_length LinkInForce key fit = sym (ap length fit.2)
key_length Dependency key fit = sym (ap length fit.2)
key_length t key fit = sym (ap length fit.1)

pub lose_fails : (t : Table) (key : Row) (old new : State) (e : Error) → IsSoundPlan old
    → LosesKey t key (tables_of old.now.trees) → ExecutesInside 0 (delete_sql t) key old new (Err e) → MayFail old new e
lose_fails t key old new e sound loses h =
    let schema = old.now.schema in
    let it = sound.plan.schema in
    let sql = delete_sql t in
    let text = statement_of sql (understood schema sql) in
    let db = old.now.trees in
    let rowids = subst HaveRowids (ap db (sound.plan.told t)) (sound.plan.rowids t) in
    let alone = subst (IsAlone t key) (rows_are old sound.plan) loses.1 in
    let command = Delete (it.at t) (program schema it t key loses.0 db rowids alone) in
    let means = delete_means schema (it.at t) (it.trees t) t (it.stands t) in
    in_vain old new key text command e
    (λ does. never_stops schema it t key loses.0 db rowids alone old.step_limit text does)
    (λ opened does.
    let database = sound.sound opened in
    let keys : Keeps Unique schema db × (is_key_of schema to_run_cycle ≡ true) = (
      database.obeys.rules Unique,
      cycles_keyed
          schema it database.lists.guarded,
    ) in
    let told = stops schema it t key loses.0 db rowids alone old.step_limit keys (database.obeys.rules ForeignKey) text (Some e) does in
    (some_same told.0, told.1))
    (stopped schema sql key command (subst (IsWhole (understood schema sql) (length sql)) (key_length t key loses.0) means.whole)
    means.plain means.is (ordinary (it.at t) _) old new e refl h)

pub lose_sound : (t : Table) (key : Row) (old new : State) (count : ℕ) → IsSoundPlan old
    → LosesKey t key (tables_of old.now.trees) → ExecutesInside 0 (delete_sql t) key old new (Ok count)
    → IsSoundPlan new × (IsTrue old.is_open → IsTrue new.is_open) × (tables_of new.now.trees ≡ without_key t key (tables_of old.now.trees))
lose_sound t key old new count sound loses h =
    let stands = deleted t key old new count sound.plan loses.1 h in
    let kept = gone_soundly t key old new count sound.plan loses.1 h in
    (still_sound old new _ sound stands kept.0 kept.1, (λ _. h.1.is_open), stands.rows_are)
