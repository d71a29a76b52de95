-- What the first row makes of the tables, and that it can be stored.
use Rattle.std.proofs.Common.{◌↔◌, ℕ}
use Rattle.std.proofs.Common.{List, [], ◌∷◌, map, refl, sym, subst, None, arith}
use Rattle.std.specs.Cmp.Lexicographic.{slice_cmp}
use Rattle.std.specs.List.{Contains}
use Rattle.std.specs.Ordering.{nat_cmp}
use Rattle.std.specs.FinMap as maps
use Rattle.std.specs.FinMap.{get-empty}
use Rattle.sqlite.specs.Order.{Row as Values}
use Rattle.sqlite.specs.declared.types.Value.TheVariants.{Null, Int}
use Rattle.app_definitions.specs.Options.{default_options}
use Rattle.planner_machine.specs.Content.{nothing_known}
use Rattle.plan_store_lists.proofs.KeyLemmas.{contains_first, nothing, one_is}
use Rattle.plan_tables_schema.specs.Rows.{AreOfKinds, shown}
use Rattle.plan_tables_schema.specs.declared.tables.Table.{Table}
use Rattle.plan_tables_schema.specs.declared.tables.Table.TheVariants as table
use Rattle.plan_tables_content.specs.Content.{AreEach, IsApplicationRow, IsContentOf, IsFact, IsOfList, IsOfSet, IsOfSome}
use Rattle.plan_tables_content.specs.Content.{IsUnderOwn, meta_values}
use Rattle.plan_tables_content.specs.Facts.{IsCalendarRow, IsCycleRow, IsOffsetRow, IsPeriodRow, IsPredecessorRow}
use Rattle.plan_tables_content.proofs.SameOptions.{none_some}
use Rattle.plan_tables_definitions.proofs.StorableRows.{cast-Int, cast-Null}
use Rattle.plan_tables_opening.specs.First.{first_rows}

-- ---- kinds

pub first_kinds : AreOfKinds table.Meta (meta_values None 0 default_options)
first_kinds = simp (cast-Int, cast-Null)

-- ---- facts

no_each : {D : Type 0} (Is : D → Type 0) → AreEach Is maps.empty
no_each Is name d at = none_some _ d (get-empty (slice_cmp nat_cmp) name) at

no_own : {X : Type 0} (number_of : X → ℕ) → IsUnderOwn number_of (λ n. None)
no_own number_of n x at = none_some None x refl at

no_some : {D : Type 0} (IsRow : List ℕ → D → Values → Type 0) (v : Values) → IsOfSome IsRow maps.empty v → ⊥
no_some IsRow v (name, d, at, is) = none_some _ d (get-empty (slice_cmp nat_cmp) name) at

no_set : {X : Type 0} (values_of : X → Values) (v : Values) → IsOfSet values_of (λ n. None) v → ⊥
no_set values_of v (n, x, at, is) = none_some None x refl at

no_list : {X : Type 0} (values_of : X → Values) (v : Values) → IsOfList values_of [] v → ⊥
no_list values_of v (x, has, is) = nothing x has

-- a table that shows nothing, of which there is no fact
bare : (v : Values) (Fact : Type 0) → (Fact → ⊥) → Contains [] v ↔ Fact
bare v Fact none = ((λ there. absurd (nothing v there)), λ fact. absurd (none fact))

first_facts : (t : Table) (v : Values) → Contains (map (shown t) (first_rows t)) v ↔ IsFact t nothing_known v
first_facts table.Meta v = (
  (λ there. sym (one_is (meta_values None 0 default_options) v there)),
  λ is. subst (Contains (meta_values None 0 default_options ∷ [])) (sym is)
      (contains_first (meta_values None 0 default_options) []),
)
first_facts table.CalendarEntry v = bare v _ (no_some IsCalendarRow v)
first_facts table.Period v = bare v _ (no_some IsPeriodRow v)
first_facts table.Application v = bare v _ (no_some IsApplicationRow v)
first_facts table.RunCycle v = bare v _ (no_some IsCycleRow v)
first_facts table.Offset v = bare v _ (no_some IsOffsetRow v)
first_facts table.Predecessor v = bare v _ (no_some IsPredecessorRow v)
first_facts table.LinkInForce v = bare v _ (no_list _ v)
first_facts table.LongTerm v = bare v _ (no_set _ v)
first_facts table.Current v = bare v _ (no_set _ v)
first_facts table.History v = bare v _ (no_set _ v)
first_facts table.Deletion v = bare v _ (no_set _ v)
first_facts table.Dependency v = bare v _ (no_list _ v)
first_facts table.Job v = bare v _ (no_set _ v)

pub first_content : IsContentOf first_rows nothing_known
first_content = record {
  representable = record {
    calendars = no_each _;
    periods = no_each _;
    run_cycles = no_each _;
    predecessors = no_each _;
    ltp = no_own _;
    cp = no_own _;
    history = no_own _;
    deletions = no_own _;
    in_force = λ i j d low high. absurd (omega (arith, high));
    pairs = λ i j d low high. absurd (omega (arith, high));
    jobs = no_own _;
    answers = λ n j at. none_some None j refl at;
  };
  facts = first_facts;
}
