-- The pairs and the rowids of their rows, as they are handed out.
use Rattle.std.proofs.Common.{◌≡◌, ◌≤◌, List, [], ◌++◌, map, true, IsTrue, Err, refl, sym, subst}
use Rattle.std.specs.List.Sorted.{IsPermutation}
use Rattle.sqlite.specs.Effect.{Database}
use Rattle.sqlite.specs.Given.{HasBegun, HasGiven}
use Rattle.sqlite.specs.Held.{Held, state}
use Rattle.sqlite.specs.Order.{Row as Values}
use Rattle.sqlite.specs.State.{Begins, CommitsShowing, FailsToQuery, IsLive, IsUnchanged, Shown, State, Survives}
use Rattle.sqlite.specs.declared.error.Error.{Error}
use Rattle.sqlite.proofs.Callers.{begun_plain, given_begin}
use Rattle.sqlite_keyed.proofs.ListLemmas.{all_of, filter_all}
use Rattle.sqlite_schema.specs.declared.command.Command.TheVariants as command
use Rattle.sqlite_trees.specs.declared.store.Store as store
use Rattle.plan_tables_lookups.proofs.AskLemmas.{told}
use Rattle.plan_tables_lookups.proofs.EmitLemmas.{fails_since, has_still, live_still}
use Rattle.plan_tables_lookups.proofs.TextLemmas as text
use Rattle.plan_tables_schema.specs.Rows.{MayFail, StaysOrIsUndone, tables_of}
use Rattle.plan_tables_schema.specs.Schema.{HasTables}
use Rattle.plan_tables_schema.specs.declared.tables.Table.TheVariants.{Dependency}
use Rattle.plan_tables_schema.proofs.MeaningLemmas.{Means}
use Rattle.plan_tables_schema.proofs.StatementLemmas.{text_fails, text_leaves, text_quiet, text_reads}
use Rattle.plan_tables_schema.proofs.Steps.{plain_query, plain_rows}
use Rattle.plan_tables_loading.specs.Rowids.{pair_shown, pair_sql, pair_terms}
use Rattle.plan_tables_loading.proofs.PairTexts.{pair_names, pairs_means}

-- all pairs and rowids, in some order
abbrev pub ArePairs : State → List Values → Type 0
ArePairs s = IsPermutation (map pair_shown (tables_of s.now.trees Dependency))

module _ (old new : State) (has : HasTables old.now.schema) where
  pub fails : (e : Error) → FailsToQuery pair_sql [] old new e → MayFail old new e
  fails = text_fails Dependency pair_sql pair_terms pair_names old new has (pairs_means old has)

  pub failed : (e : Error) → FailsToQuery pair_sql [] old new e → StaysOrIsUndone old new
  failed e h = text_leaves Dependency pair_sql pair_terms pair_names old new has (pairs_means old has)
      (λ (rows : List Values). rows) (Err e) tt h

  read : IsLive old → (rows : List Values) → Shown pair_sql [] old new rows → ArePairs old rows
  read live rows h = text_reads Dependency pair_sql pair_terms pair_names old new has (pairs_means old has) rows live h

  means : Means old.now.schema pair_sql
      (command.Select (record { lets = []; body = plain_query (has.trees Dependency) [] pair_terms }) pair_names) 0
  means =
      let it = pairs_means old has in
      record { is = it.means; plain = it.plain; whole = it.whole; own = it.unlisted }

pub quiet : (old new : State) → Survives old new (CommitsShowing pair_sql [] old)
    → Survives old new (λ _. HasTables old.now.schema → ⊥)
quiet old new = text_quiet pair_sql old new (λ has. (pairs_means old has).plain)

module _ (s : State) (has : HasTables s.now.schema) (live : IsLive s) (opened : IsTrue s.is_open) where
  begun : (given : List Values) → Begins pair_sql [] s given → (rest : List Values) × ArePairs s (given ++ rest)
  begun given h =
      let tree = has.trees Dependency in
      let more = text.front pair_sql [] s s (plain_query tree [] pair_terms) pair_names 0 (means s s has) given h in
      let was = s.now.trees tree in
      let own = text.own tree s.now.trees (has.stands Dependency).stored in (
        more.0,
        subst (λ all. IsPermutation (map pair_shown all) (given ++ more.0))
            (sym (told s has Dependency live opened))
            (subst (λ all. IsPermutation (map pair_shown all) (given ++ more.0))
            (filter_all (λ _. true) was (all_of _ (λ _. refl) was))
            (plain_rows tree [] pair_terms s.now.trees [] (given ++ more.0) own more.1)),
      )

module _ {S : Type 0} (g : store.Ghosts S) where
  -- the query has begun and has given nothing
  pub none_yet : (old new : Held S) → HasTables (state g old).now.schema → HasBegun g pair_sql [] old new
      → HasGiven g pair_sql [] new [] × IsUnchanged (state g old) (state g new)
  none_yet old new has h = begun_plain g pair_sql [] old new (pairs_means (state g old) has).plain h

  module _ (first : State) (h : Held S) (has : HasTables first.now.schema) (live : IsLive first)
      (same : IsUnchanged first (state g h)) where
    since : (rows : List Values) → ArePairs (state g h) rows → ArePairs first rows
    since rows = subst (λ (d : Database). IsPermutation (map pair_shown (tables_of d.trees Dependency)) rows)
        same.0.now_is

    -- the rows that were given so far are the first of all
    pub front : (given : List Values) → HasGiven g pair_sql [] h given
        → (rest : List Values) × ArePairs first (given ++ rest)
    front given it =
        let more = begun (state g h) (has_still first (state g h) same has) (live_still first (state g h) same live)
        same.0.is_open given (given_begin g pair_sql [] h given it) in
        (more.0, since (given ++ more.0) more.1)

    -- at the end they are all
    pub whole : (new : State) (given : List Values) → Shown pair_sql [] (state g h) new given → ArePairs first given
    whole new given it = since given (read (state g h) new (has_still first (state g h) same has)
        (live_still first (state g h) same live) given it)

    pub fails_then : (new : State) (e : Error) → first.faults ≤ (state g h).faults
        → (state g h).step_limit ≡ first.step_limit → FailsToQuery pair_sql [] (state g h) new e → MayFail first new e
    fails_then new e more limit it = fails_since first (state g h) same new e more limit
        (fails (state g h) new (has_still first (state g h) same has) e it)
