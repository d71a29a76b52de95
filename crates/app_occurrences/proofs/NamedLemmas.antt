-- Occurrences over the periods that their run cycles name.
use Rattle.std.proofs.Common.{◌≡◌, ◌⊎◌, ℕ, ◌+◌, ◌<◌, Bool, true, false, cond, List, length, refl, sym, ap, subst, ◌∙◌}
use Rattle.std.proofs.Common.{inl, inr, arith}
use Rattle.std.specs.Prelude.{◌≢◌, All, Any, IsSomeAnd, Option, None, Some, is_some, nat_eq, slice_index_or}
use Rattle.std.proofs.Math.Nat.{eq-or-lt_of_le}
use Rattle.std.proofs.lemmas.List.{get_or_default}
use Rattle.std.specs.FinMap as map
use Rattle.std.specs.FinMap.{get-empty, get-insert, get_tied}
use Rattle.std.specs.Ordering.{nat_cmp, eq_by_cmp}
use Rattle.std.specs.Cmp.{Equal-is, eq_by_cmp_equiv}
use Rattle.std.specs.Cmp.Lexicographic.{pointwise, slice_cmp, nat_list_cmp_total}
use Rattle.plan_periods.specs.declared.periods.Period.{Period}
use Rattle.work_calendars.specs.WorkIndex.{is_work_in}
use Rattle.run_cycles.specs.NamedDay.{NamesDay}
use Rattle.run_cycles.specs.Occurrence.{PeriodMap, NamesAt, GivesAt, TakesAt, IsGivenBy, IsOccurrence, IsNameAtMost}
use Rattle.run_cycles.specs.Occurrence.{ListsOccurrences}
use Rattle.run_cycles.specs.declared.cycles.RunCycle.{RunCycle}
use Rattle.run_cycles.specs.declared.named.Named.{Named}
use Rattle.app_occurrences.specs.Active.{cycles_of}
use Rattle.app_occurrences.specs.NamedOccurrences.{AgreeOn, AreIndexesOf, HoldsAlso, IndexMap, ListsNamed, work_in}
use Rattle.app_occurrences.specs.NamedOccurrences.{work_of}
use Rattle.app_definition_records.specs.declared.applications.Application.{Application}
use Rattle.app_definitions.specs.declared.definitions.Definitions.{Definitions}
use Rattle.app_definition_records.proofs.ByNameLemmas.{get-inserted, name_itself, same_name}

-- ---- facts about run cycles of a list

all_move : (P Q R : RunCycle → Type 0) (cycles : List RunCycle) → ((c : RunCycle) → R c → P c → Q c) → All R cycles
    → All P cycles → All Q cycles
all_move P Q R cycles f agree all k d lt = f (slice_index_or cycles k d) (agree k d lt) (all k d lt)

any_moves : (P Q R : RunCycle → Type 0) (cycles : List RunCycle) → ((c : RunCycle) → R c → P c → Q c) → All R cycles
    → Any P cycles → Any Q cycles
any_moves P Q R cycles f agree (k, x, lt, is, holds) = (k, x, lt, is, f x (subst R is (agree k x lt)) holds)

-- ---- occurrences depend on the periods of their run cycles alone

names_move : (p q : PeriodMap) (work : ℕ → Bool) (d t : ℕ) (c : RunCycle) → map.get p c.period ≡ map.get q c.period
    → NamesAt p work d t c → NamesAt q work d t c
names_move p q work d t c e names =
    (names.0, subst (λ o. IsSomeAnd o (λ period. NamesDay c period work d)) e names.1)

occurrence_moves : (cycles : List RunCycle) (p q : PeriodMap) (work : ℕ → Bool) (x : Named) → AgreeOn q p cycles
    → IsOccurrence cycles p work x → IsOccurrence cycles q work x
occurrence_moves cycles p q work x agree o =
    let R : RunCycle → Type 0 = λ c. map.get p c.period ≡ map.get q c.period in
    record {
      given = any_moves (IsGivenBy p work x) (IsGivenBy q work x) R cycles
          (λ c e given. (given.0, names_move p q work x.day x.time c e given.1, given.2)) agree o.given;
      least = all_move (λ c. GivesAt p work x.day x.time c → IsNameAtMost x.run_cycle c.name)
          (λ c. GivesAt q work x.day x.time c → IsNameAtMost x.run_cycle c.name) R cycles
          (λ c e least gives. least (gives.0, names_move q p work x.day x.time c (sym e) gives.1)) agree o.least;
      kept = all_move (λ c. ¬ (TakesAt p work x.day x.time c)) (λ c. ¬ (TakesAt q work x.day x.time c)) R cycles
          (λ c e kept takes. kept (takes.0, names_move q p work x.day x.time c (sym e) takes.1)) agree o.kept;
    }

agree_back : (cycles : List RunCycle) (p q : PeriodMap) → AgreeOn q p cycles → AgreeOn p q cycles
agree_back cycles p q agree k d lt = sym (agree k d lt)

-- the occurrences that some periods give are those that all give
pub occurrences_move : (cycles : List RunCycle) (some all : PeriodMap) (work : ℕ → Bool) (from to : ℕ)
    (list : List Named) → AgreeOn all some cycles
    → ListsOccurrences cycles some work from to list → ListsOccurrences cycles all work from to list
occurrences_move cycles some all work from to list agree lists =
    record {
      exactly = λ x. (
        λ there. let (a, b, o) = (lists.exactly x).0 there in (a, b, occurrence_moves cycles some all work x agree o),
        λ (a, b, o). (lists.exactly x).1 (
          a,
          b,
          occurrence_moves cycles all some work x
              (agree_back cycles some all agree) o,
        ),
      );
      in_order = lists.in_order;
    }

-- two tests that answer alike
pub same_test : (f g : ℕ → Bool) → ((d : ℕ) → f d ≡ g d) → f ≡ g
same_test f g alike i d = alike d i

-- ---- periods that are copied from one map to another

which : (b : Bool) → (b ≡ true) ⊎ (b ≡ false)
which true = inl refl
which false = inr refl

-- under each name the new map has what the other has, or what it had
pub inserted : (all some : PeriodMap) (k : List ℕ) (p : Period) → map.get all k ≡ Some p → (q : List ℕ)
    → (map.get (map.insert some k p) q ≡ map.get all q) ⊎ (map.get (map.insert some k p) q ≡ map.get some q)
inserted all some k p there q =
    elim (which (eq_by_cmp (slice_cmp nat_cmp) q k)) [
      | inl same ↦ inl (get-insert nat_list_cmp_total some k p q ∙ ap (λ b. cond b (Some p) (map.get some q)) same
          ∙ sym there ∙ get_tied nat_list_cmp_total all q k ((Equal-is (slice_cmp nat_cmp q k)).0 same))
      | inr other ↦ inr (get-insert nat_list_cmp_total some k p q ∙ ap (λ b. cond b (Some p) (map.get some q)) other)
    ]

-- an empty map has nothing that the other lacks
pub nothing_yet : (all some : PeriodMap) → some ≡ map.empty → (name : List ℕ) (p : Period)
    → map.get some name ≡ Some p → map.get all name ≡ Some p
nothing_yet all some e name p h =
    let no : None ≡ Some p = sym (ap (λ (m : PeriodMap). map.get m name) e ∙ get-empty (slice_cmp nat_cmp) name)
    ∙ h in cc

-- the run cycles before a place name the same periods in both maps
abbrev pub AgreeBefore : PeriodMap → PeriodMap → List RunCycle → ℕ → Type 0
AgreeBefore all some cycles n =
    (k : ℕ) (d : RunCycle) → k < n → map.get some (slice_index_or cycles k d).period ≡ map.get all
    (slice_index_or cycles k d).period

-- what the new map has is in the other
abbrev pub IsWithin : PeriodMap → PeriodMap → Type 0
IsWithin all some = (name : List ℕ) (p : Period) → map.get some name ≡ Some p → map.get all name ≡ Some p

-- one more run cycle names the same period in both
pub agree_more : (all some : PeriodMap) (cycles : List RunCycle) (n : ℕ) (cycle : RunCycle) → n < length cycles
    → cycle ≡ slice_index_or cycles n cycle
    → map.get some cycle.period ≡ map.get all cycle.period → AgreeBefore all some cycles n
    → AgreeBefore all some cycles (n + 1)
agree_more all some cycles n cycle lt is same before k d below =
    elim (eq-or-lt_of_le {n = k} {m = n} (omega arith)) [
      | inl e ↦ subst (λ (c : RunCycle). map.get some c.period ≡ map.get all c.period)
          (is ∙ get_or_default cycles n cycle d lt ∙ ap (λ i. slice_index_or cycles i d) (sym e)) same
      | inr less ↦ before k d less
    ]

-- where the other has no period of the name, the new one has none
pub absent_stays : (all some : PeriodMap) (name : List ℕ) → IsWithin all some → map.get all name ≡ None
    → map.get some name ≡ map.get all name
absent_stays all some name within none = from_option (map.get some name) refl
  where
    from_option : (o : Option Period) → o ≡ map.get some name → map.get some name ≡ map.get all name
    from_option None e = sym e ∙ sym none
    from_option (Some p) e = let no : None ≡ Some p = sym none ∙ within name p (sym e) in cc

-- after one more period both agree where they did, and under its name
pub agree_inserted : (all some : PeriodMap) (cycles : List RunCycle) (n : ℕ) (key : List ℕ) (p : Period)
    → map.get all key ≡ Some p
    → AgreeBefore all some cycles n → AgreeBefore all (map.insert some key p) cycles n
agree_inserted all some cycles n key p there before k d below =
    elim (inserted all some key p there (slice_index_or cycles k d).period) [ inl e ↦ e | inr e ↦ e ∙ before k d below ]

pub within_inserted : (all some : PeriodMap) (key : List ℕ) (p : Period) → map.get all key ≡ Some p
    → IsWithin all some → IsWithin all (map.insert some key p)
within_inserted all some key p there within name q h =
    elim (inserted all some key p there name) [ inl e ↦ sym e ∙ h | inr e ↦ within name q (sym e ∙ h) ]

pub same_inserted : (all some : PeriodMap) (key : List ℕ) (p : Period) → map.get all key ≡ Some p
    → map.get (map.insert some key p) key ≡ map.get all key
same_inserted all some key p there =
    get-insert nat_list_cmp_total some key p key
    ∙ ap (λ b. cond b (Some p) (map.get some key)) ((eq_by_cmp_equiv nat_list_cmp_total).refl key) ∙ sym there

-- ---- indexes of work days by the names of their calendars

-- no index
pub indexes_none : (all : Definitions) (m : IndexMap) → m ≡ map.empty → AreIndexesOf all m
indexes_none all m e name index there d =
    let no : None ≡ Some index = sym (ap (λ (n : IndexMap). map.get n name) e ∙ get-empty (slice_cmp nat_cmp) name)
    ∙ there in cc

-- an index more
pub index_held : (m : IndexMap) (name : List ℕ) (index : List Bool) → HoldsAlso m (map.insert m name index) name
index_held m name index = (
  ap is_some (get-inserted m name index name)
      ∙ ap (λ b. is_some (cond b (Some index) (map.get m name))) (name_itself name),
  λ other apart. get-inserted m name index other ∙ elsewhere other apart (pointwise nat_eq name other) refl,
)
  where
    elsewhere : (other : List ℕ) → other ≢ name → (b : Bool) → pointwise nat_eq name other ≡ b
        → cond b (Some index) (map.get m other) ≡ map.get m other
    elsewhere other apart true e = absurd (apart (sym (same_name name other e)))
    elsewhere other apart false e = refl

pub indexes_more : (all : Definitions) (m : IndexMap) (name : List ℕ) (index : List Bool)
    → ((d : ℕ) → is_work_in index d ≡ work_in all name d)
    → AreIndexesOf all m → AreIndexesOf all (map.insert m name index)
indexes_more all m name index built are other found there d =
    at (pointwise nat_eq name other) refl (sym (get-inserted m name index other) ∙ there)
  where
    at : (b : Bool) → pointwise nat_eq name other ≡ b → cond b (Some index) (map.get m other) ≡ Some found
        → is_work_in found d ≡ work_in all other d
    at true e h = let same : index ≡ found = cc in
        subst (λ n. is_work_in found d ≡ work_in all n d) (same_name name other e)
        (subst (λ i. is_work_in i d ≡ work_in all name d) same (built d))
    at false e h = are other found h d

-- what is listed with the index of an application's calendar, and with the periods of its run cycles
pub named_listed : (all : Definitions) (app : List ℕ) (a : Application)
    (index : List Bool) (own : List RunCycle) (periods : PeriodMap) (from to : ℕ) (list : List Named)
    → ((d : ℕ) → is_work_in index d ≡ work_of all a d)
    → own ≡ cycles_of all app → AgreeOn all.periods periods own
    → ListsOccurrences own periods (is_work_in index) from to list → ListsNamed all app a from to list
named_listed all app a index own periods from to list is cycles agree lists =
    let test : is_work_in index ≡ work_of all a = same_test (is_work_in index) (work_of all a) is in
    let by_work : ListsOccurrences own periods (work_of all a) from to list =
    subst (λ w. ListsOccurrences own periods w from to list) test lists in
    let moved = occurrences_move own periods all.periods (work_of all a) from to list agree by_work in
    subst (λ cs. ListsOccurrences cs all.periods (work_of all a) from to list) cycles moved
