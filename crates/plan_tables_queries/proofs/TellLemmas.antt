-- What the rows tell that a teller took.
use Rattle.std.proofs.Common.{◌≡◌, ◌∙◌, ℕ, ◌+◌, List, [], ◌∷◌, ◌++◌, length, map, refl, sym, ap, subst, arith}
use Rattle.sqlite.specs.Order.{Row as Values}
use Rattle.sqlite.specs.declared.error.Error.{Error}
use Rattle.occurrences.specs.declared.row.Row.{Row}
use Rattle.plan_store.specs.Listings.{Shown, AcceptsAll}
use Rattle.plan_tables_lookups.specs.Emitting.{EmitsAll, EmitsPart}
use Rattle.plan_tables_lookups.specs.Emitting.{AcceptsAll as AcceptsRows}
use Rattle.plan_tables_queries.specs.ListedRows.{EndsTelling, RefusesRow, AcceptsRow, TellsAll, TellsPart, marked}
use Rattle.plan_tables_lookups.specs.declared.faults.Stopped.{Stopped}
use Rattle.plan_tables_lookups.specs.declared.faults.Stopped.TheVariants.{Fault, Sink}
use Rattle.plan_tables_lookups.specs.declared.faults.TableFault.{TableFault}
use Rattle.plan_tables_lookups.specs.declared.faults.TableFault.TheVariants.{Store}

module _ {W K X N : Type 0} (some : W) (sink : W → K) (name : W → N) (count : W → ℕ) (why : W → Stopped TableFault)
    (Is : X → Type 0) (values_of : X → Values) (row_of : X → Row) (letter_of : X → ℕ)
    (Accepts Refuses : K → Shown → K → Type 0) where
  abbrev AcceptsHere : W → Values → W → Type 0
  AcceptsHere old row new = (name new ≡ name old)
      × AcceptsRow values_of row_of letter_of Accepts (sink old) (count old) row (sink new) (count new)

  abbrev RefusesHere : W → Values → W → Type 0
  RefusesHere old row new = (name new ≡ name old)
      × RefusesRow Is values_of row_of letter_of Refuses (sink old) row (sink new) (why new)

  -- the facts of these rows, and their number
  abbrev Told : K → ℕ → List Values → K → ℕ → Type 0
  Told old before rows new after = (facts : List X) × (map values_of facts ≡ rows)
      × AcceptsAll Accepts old (map (marked row_of letter_of) facts) new × (after ≡ before + length facts)

  took : (rows : List Values) (old new : W) → AcceptsRows AcceptsHere old rows new
      → (name new ≡ name old) × Told (sink old) (count old) rows (sink new) (count new)
  took [] old new is = (ap name is, ([], refl, ap sink is, (let e = ap count is in omega (arith, e))))
  took (row ∷ rows) old new (next, (named, one), later) =
      let (named', (facts, are, taken, counted)) = took rows next new later in (
        named' ∙ named,
        (
          one.fact ∷ facts,
          λ i. one.is i ∷ are i,
          (sink next, one.taken, taken),
          omega (arith, counted, one.counted),
        ),
      )

  ends_by : (stopped : Stopped TableFault) (old : K) (done : List X) (rest : List Values) (last : K) (row : Values)
      (later : List Values) (new : K) → rest ≡ row ∷ later
      → AcceptsAll Accepts old (map (marked row_of letter_of) done) last
      → RefusesRow Is values_of row_of letter_of Refuses last row new stopped
      → EndsTelling Is values_of row_of letter_of Accepts Refuses old done rest new stopped
  ends_by Sink old done rest last row later new is taken (fact, tells, refused) =
      (last, fact, later, is ∙ ap (λ r. r ∷ later) (sym tells), taken, refused)
  ends_by (Fault fault) old done rest last row later new is taken (same, none) = (
    subst (AcceptsAll Accepts old (map (marked row_of letter_of) done)) (sym same) taken,
    λ _. (row, later, is, none),
  )

  module _ (IsWhole : List Values → Type 0) (old new : W) where
    pub told_all : count old ≡ 0 → EmitsAll AcceptsHere IsWhole old new → (name new ≡ name old)
        × TellsAll values_of row_of letter_of Accepts IsWhole (sink old) (sink new) (count new)
    told_all none h =
        let (named, (facts, are, taken, counted)) = took h.rows old new h.taken in (
          named,
          record {
            facts = facts;
            whole = subst IsWhole (sym are) h.whole;
            taken = taken;
            counted = omega (arith, counted, none);
          },
        )

    pub told_before : (error : Error) → EmitsPart AcceptsHere RefusesHere IsWhole old new (Fault error)
        → (name new ≡ name old)
        × TellsPart Is values_of row_of letter_of Accepts Refuses IsWhole (sink old) (sink new) (Fault (Store error))
    told_before error h =
        let (named, (facts, are, taken, counted)) = took h.done old new h.ends in (
          named,
          record {
            done = facts;
            rest = h.rest;
            whole = subst (λ l. IsWhole (l ++ h.rest)) (sym are) h.whole;
            ends = (taken, λ e. absurd (let k = e in cc));
          },
        )

    pub told_part : EmitsPart AcceptsHere RefusesHere IsWhole old new Sink → (name new ≡ name old)
        × TellsPart Is values_of row_of letter_of Accepts Refuses IsWhole (sink old) (sink new) (why new)
    told_part h =
        let (last, row, later, is, rows, (named', refused)) = h.ends in
        let (named, (facts, are, taken, counted)) = took h.done old last rows in (
          named' ∙ named,
          record {
            done = facts;
            rest = h.rest;
            whole = subst (λ l. IsWhole (l ++ h.rest)) (sym are) h.whole;
            ends = ends_by (why new) (sink old) facts h.rest (sink last) row later (sink new) is taken refused;
          },
        )
