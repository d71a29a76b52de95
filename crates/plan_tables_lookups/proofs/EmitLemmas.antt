-- Rows that are handed out.
use Rattle.std.proofs.Common.{◌≡◌, ◌≤◌, true, List, [], ◌∷◌, ◌++◌, map, refl, sym, ap, subst}
use Rattle.std.specs.List.Sorted.{IsPermutation}
use Rattle.sqlite.specs.Effect.{Database, IsDatabase}
use Rattle.sqlite.specs.Given.{HasBegun, HasGiven}
use Rattle.sqlite.specs.Held.{Held, state}
use Rattle.sqlite.specs.Order.{Row as Values}
use Rattle.sqlite.specs.State.{FailsToQuery, IsLive, IsUnchanged, Shown, State}
use Rattle.sqlite.specs.declared.error.Error.{Error}
use Rattle.sqlite.proofs.Callers.{begun_plain, given_begin}
use Rattle.sqlite_trees.specs.declared.store.Store as store
use Rattle.sqlite_keyed.proofs.ListLemmas.{all_of, filter_all}
use Rattle.plan_tables_lookups.specs.Emitting.{EmitsAll, EmitsPart, AcceptsAll}
use Rattle.plan_tables_lookups.specs.Looks.{AreAsked, look_sql, question}
use Rattle.plan_tables_lookups.specs.Question.{Answers}
use Rattle.plan_tables_lookups.specs.declared.faults.Stopped.{Stopped}
use Rattle.plan_tables_lookups.specs.declared.looks.Look.{Look}
use Rattle.plan_tables_lookups.specs.declared.looks.Look.TheVariants.{Whole}
use Rattle.plan_tables_lookups.proofs.AskLemmas.{answered, begun, fails, plain}
use Rattle.plan_tables_schema.specs.Rows.{MayFail, Tables, shown, tables_of}
use Rattle.plan_tables_schema.specs.Schema.{HasTables}
use Rattle.plan_tables_schema.specs.declared.tables.Table.{Table}
use Rattle.plan_tables_schema.proofs.StatementLemmas.{moved}
use Rattle.plan_tables_schema.proofs.StopLemmas.{vain_since}

module _ {K : Type 0} (Accepts : K → Values → K → Type 0) where
  pub takes_more : (old : K) (given : List Values) (mid : K) (row : Values) (new : K) → AcceptsAll Accepts old given mid
      → Accepts mid row new → AcceptsAll Accepts old (given ++ row ∷ []) new
  takes_more old [] mid row new all last = (new, subst (λ k. Accepts k row new) all last, refl)
  takes_more old (r ∷ rs) mid row new all last = (all.0, all.1, takes_more all.0 rs mid row new all.2 last)

-- a connection that is unchanged is as it was to one who asks
module _ (first now : State) (same : IsUnchanged first now) where
  pub has_still : HasTables first.now.schema → HasTables now.now.schema
  has_still = moved first.now.schema now.now.schema (sym (ap (λ (d : Database). d.schema) same.0.now_is))

  pub live_still : IsLive first → IsLive now
  live_still live opened =
      let was = live same.0.was_open in
      (subst IsDatabase (sym same.0.now_is) was.0, subst IsDatabase (sym same.0.committed_is) was.1)

  -- what fails later fails
  pub fails_since : (new : State) (e : Error) → first.faults ≤ now.faults → now.step_limit ≡ first.step_limit
      → MayFail now new e → MayFail first new e
  fails_since new e more limit h = vain_since first now new e more (λ _. same.0.is_open) limit h

module _ {S : Type 0} (g : store.Ghosts S) (look : Look) (asked : Values) where
  -- a query has begun and has given nothing
  pub none_yet : (old new : Held S) → HasTables (state g old).now.schema → HasBegun g (look_sql look) asked old new
      → HasGiven g (look_sql look) asked new [] × IsUnchanged (state g old) (state g new)
  none_yet old new has h = begun_plain g (look_sql look) asked old new
      (plain look asked (state g old) (state g old) has) h

  module _ (first : State) (h : Held S) (has : HasTables first.now.schema) (live : IsLive first)
      (same : IsUnchanged first (state g h)) where
    abbrev IsAnswer : List Values → Type 0
    IsAnswer = Answers (question look) asked (tables_of first.now.trees)

    told : (rows : List Values) → Answers (question look) asked (tables_of (state g h).now.trees) rows → IsAnswer rows
    told rows = subst (λ (d : Database). Answers (question look) asked (tables_of d.trees) rows) same.0.now_is

    -- the rows that were given so far are the front of an answer over the tables as they were at first
    pub front : (given : List Values) → HasGiven g (look_sql look) asked h given
        → (rest : List Values) × IsAnswer (given ++ rest)
    front given it =
        let more = begun look asked (state g h) (state g h) (has_still first (state g h) same has)
        (live_still first (state g h) same live) same.0.is_open given
        (given_begin g (look_sql look) asked h given it) in
        (more.0, told (given ++ more.0) more.1)

    -- at the end they are an answer
    pub whole : (new : State) (given : List Values) → Shown (look_sql look) asked (state g h) new given → IsAnswer given
    whole new given it = told given (answered look asked (state g h) new (has_still first (state g h) same has)
        (live_still first (state g h) same live) given it)

    pub fails_then : (new : State) (e : Error) → first.faults ≤ (state g h).faults
        → (state g h).step_limit ≡ first.step_limit
        → AreAsked look asked → FailsToQuery (look_sql look) asked (state g h) new e → MayFail first new e
    fails_then new e more limit given it = fails_since first (state g h) same new e more limit
        (fails look asked (state g h) new (has_still first (state g h) same has) given e it)

-- what is handed out of a question of all rows is a table's rows
module _ (t : Table) (asked : Values) (all : Tables) where
  abbrev IsTable : List Values → Type 0
  IsTable = IsPermutation (map (shown t) (all t))

  of_table : (rows : List Values) → Answers (question (Whole t)) asked all rows → IsTable rows
  of_table rows a =
      let every = map (shown t) (all t) in
      subst (IsPermutation every) (sym a.is) (subst (λ xs. IsPermutation xs a.ordered)
      (filter_all (λ _. true) every (all_of _ (λ _. refl) every)) a.same)

  module _ {K : Type 0} (Accepts Refuses : K → Values → K → Type 0) (old new : K) where
    pub table_handed : EmitsAll Accepts (Answers (question (Whole t)) asked all) old new → EmitsAll Accepts IsTable old new
    table_handed h = record { rows = h.rows; whole = of_table h.rows h.whole; taken = h.taken }

    pub table_parted : (fault : Stopped Error)
        → EmitsPart Accepts Refuses (Answers (question (Whole t)) asked all) old new fault
        → EmitsPart Accepts Refuses IsTable old new fault
    table_parted fault h = record {
      done = h.done;
      rest = h.rest;
      whole = of_table (h.done ++ h.rest) h.whole;
      ends = h.ends;
    }
