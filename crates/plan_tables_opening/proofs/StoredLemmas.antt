-- What tables show, and the definitions that have these rows.
use Rattle.std.proofs.Common.{◌≡◌, ◌↔◌, List, [], ◌∷◌, map, ap, sym, subst, arith}
use Rattle.std.specs.List.{Contains}
use Rattle.std.specs.List.Sorted.{IsPermutation}
use Rattle.std.proofs.lemmas.List.Sorted.{Contains-permutation, IsPermutation-sym, length_permutation}
use Rattle.plan_store_lists.proofs.KeyLemmas.{contains_first, one_is}
use Rattle.plan_tables_opening.specs.Held.{AreKnown}
use Rattle.sqlite.specs.Order.{Row as Values}
use Rattle.app_definitions.specs.declared.definitions.Definitions.{Definitions}
use Rattle.app_definitions.specs.declared.options.Options.{Options}
use Rattle.planner_machine.specs.Content.{Content}
use Rattle.plan_tables_schema.specs.Rows.{Tables, shown}
use Rattle.plan_tables_schema.specs.declared.tables.Table.{Table}
use Rattle.plan_tables_schema.specs.declared.tables.Table.TheVariants as table
use Rattle.plan_tables_content.specs.Content.{IsContentOf}
use Rattle.plan_tables_definitions.specs.Storing.{HaveRows}
use Rattle.plan_tables_definitions.specs.declared.stored.StoredRows.{StoredRows}
use Rattle.plan_tables_loading.specs.Lists.{HasLists}
use Rattle.plan_tables_loading.specs.Tables.{HaveShownRowids, ShowsOnly, RepresentDefinitions, RepresentPlans}
use Rattle.plan_tables_loading.specs.declared.lists.PlanLists.{PlanLists}
use Rattle.plan_tables_loading.proofs.FactLemmas.{is_content}
use Rattle.plan_tables_opening.specs.Stored.{AllHaveRowids, HaveHiddenRowids, RepresentStored}

pub shows_rows : (all : Tables) (t : Table) (rows : List Values) → IsPermutation (map (shown t) (all t)) rows
    → ShowsOnly all t (λ v. Contains rows v)
shows_rows all t rows same = record {
  exactly = λ v. (
    (λ there. Contains-permutation (map (shown t) (all t)) rows v same there),
    λ there. Contains-permutation rows (map (shown t) (all t)) v (IsPermutation-sym _ _ same) there,
  );
}

shows_so : (all : Tables) (t : Table) (P Q : Values → Type 0) → ShowsOnly all t P → ((v : Values) → P v ↔ Q v)
    → ShowsOnly all t Q
shows_so all t P Q shows same = record {
  exactly = λ v. ((λ there. (same v).0 ((shows.exactly v).0 there)), λ q. (shows.exactly v).1 ((same v).1 q));
}

tell_definitions : (all : Tables) (stored : StoredRows) (options : Options) (d : Definitions) → RepresentStored all stored
    → HaveRows stored options d → RepresentDefinitions all d
tell_definitions all stored options d tell has = record {
  calendar_rows = shows_so all _ _ _ tell.calendar_rows has.calendars;
  period_rows = shows_so all _ _ _ tell.period_rows has.periods;
  application_rows = shows_so all _ _ _ tell.application_rows has.applications;
  cycle_rows = shows_so all _ _ _ tell.cycle_rows has.run_cycles;
  offset_rows = shows_so all _ _ _ tell.offset_rows has.offsets;
  predecessor_rows = shows_so all _ _ _ tell.predecessor_rows has.predecessors;
  calendars = has.representable.calendars;
  periods = has.representable.periods;
  run_cycles = has.representable.run_cycles;
  predecessors = has.representable.predecessors;
}

pub stored_content : (all : Tables) (lists : PlanLists) (stored : StoredRows) (d : Definitions) (c : Content)
    → HaveRows stored lists.meta.options d → HasLists d lists c → RepresentPlans all lists → RepresentStored all stored
    → IsContentOf all c
stored_content all lists stored d c rows has plans definitions =
    is_content all d lists c plans (tell_definitions all stored lists.meta.options d definitions rows) rows.options has

pub all_rowids : (all : Tables) → HaveShownRowids all → HaveHiddenRowids all → AllHaveRowids all
all_rowids all seen hidden table.Meta = seen.meta
all_rowids all seen hidden table.CalendarEntry = hidden.calendars
all_rowids all seen hidden table.Period = hidden.periods
all_rowids all seen hidden table.Application = hidden.applications
all_rowids all seen hidden table.RunCycle = hidden.run_cycles
all_rowids all seen hidden table.Offset = hidden.offsets
all_rowids all seen hidden table.Predecessor = hidden.predecessors
all_rowids all seen hidden table.LinkInForce = hidden.links
all_rowids all seen hidden table.LongTerm = seen.ltp
all_rowids all seen hidden table.Current = seen.cp
all_rowids all seen hidden table.History = seen.history
all_rowids all seen hidden table.Deletion = seen.deletions
all_rowids all seen hidden table.Dependency = seen.pairs
all_rowids all seen hidden table.Job = seen.jobs

one_kept : (xs : List Values) (cells : Values) → IsPermutation xs (cells ∷ []) → xs ≡ cells ∷ []
one_kept [] cells same = absurd (omega (arith, length_permutation _ _ same))
one_kept (a ∷ []) cells same = ap (λ (v : Values). v ∷ []) (sym (one_is cells a
    (Contains-permutation (a ∷ []) (cells ∷ []) a same (contains_first a []))))
one_kept (a ∷ b ∷ xs) cells same = absurd (omega (arith, length_permutation _ _ same))

-- one row alone is known in any order
pub still_known : (xs ys : List Values) → IsPermutation xs ys → AreKnown ys ↔ AreKnown xs
still_known xs ys same = (
  (λ known. (known.0, one_kept xs known.0 (subst (IsPermutation xs) known.1 same), known.2)),
  λ known. (known.0, one_kept ys known.0 (subst (IsPermutation ys) known.1 (IsPermutation-sym _ _ same)), known.2),
)
