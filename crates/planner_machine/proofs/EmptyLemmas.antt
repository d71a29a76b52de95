-- A content without anything is sound.
use Rattle.std.proofs.Common.{ℕ, [], refl, sym, subst, inl, inr, arith, Option}
use Rattle.std.specs.Prelude.{Contains}
use Rattle.std.specs.Cmp.Lexicographic.{slice_cmp}
use Rattle.std.specs.FinMap as map
use Rattle.std.specs.FinMap.{get-empty}
use Rattle.std.specs.Ordering.{nat_cmp}
use Rattle.app_definitions.proofs.OptionLemmas.{IsName-default}
use Rattle.app_definition_records.specs.Applications.{FitsApplication, IsApplicationOf}
use Rattle.app_definition_records.specs.ByName.{IsDefinedBy}
use Rattle.app_definition_records.specs.Calendars.{FitsCalendar, IsCalendarOf}
use Rattle.app_definition_records.specs.CycleRecords.{AreRunCyclesOf, FitsRunCycle}
use Rattle.app_definition_records.specs.Periods.{FitsPeriod, IsPeriodOf}
use Rattle.app_definition_records.specs.Predecessors.{ArePredecessorsOf, FitsPredecessors}
use Rattle.external_dependencies.specs.declared.rows.PlacedRow.{PlacedRow}
use Rattle.planner_machine.specs.Content.{IsOnlyAt, nothing_known}
use Rattle.planner_machine.specs.Sound.{AreDefinable, IsSound}
use Rattle.planner_machine.proofs.SeatLemmas.{not_empty}
use Rattle.app_definition_records.specs.Records.{Record, Records}
use Rattle.app_definition_records.specs.FieldCounts.{HasApplicationFields, HasCalendarFields, HasCycleFields}
use Rattle.app_definition_records.specs.FieldCounts.{HasPeriodFields, HasPredecessorFields}

nowhere : (serial : ℕ) (p : PlacedRow) → IsOnlyAt nothing_known.sets serial p → ⊥
nowhere serial p there = not_empty nothing_known.sets serial p there refl

none_in : {X : Type 0} (x : X) → Contains [] x → ⊥
none_in x (k, lt, is) = omega (arith, lt)

abbrev no_map : (D : Type 0) → map.FinMap (slice_cmp nat_cmp) D
no_map D = map.empty

nothing_definable : {D : Type 0} (HasFields : ℕ → Type 0) (Fits : Records → Record → Type 0)
    (IsMadeOf : D → Records → Type 0)
    → AreDefinable HasFields Fits IsMadeOf (map.get (no_map D))
nothing_definable {D} HasFields Fits IsMadeOf name = (
  [],
  (λ k lt. absurd (omega (arith, lt))),
  subst (λ (o : Option D). IsDefinedBy IsMadeOf o []) (sym (get-empty (slice_cmp nat_cmp) name)) refl,
)

pub nothing_sound : IsSound nothing_known
nothing_sound = record {
  ranges = record {
    definitions = record {
      applications = nothing_definable HasApplicationFields FitsApplication IsApplicationOf;
      calendars = nothing_definable HasCalendarFields FitsCalendar IsCalendarOf;
      periods = nothing_definable HasPeriodFields FitsPeriod IsPeriodOf;
      predecessors = nothing_definable HasPredecessorFields FitsPredecessors ArePredecessorsOf;
      run_cycles = nothing_definable HasCycleFields FitsRunCycle AreRunCyclesOf;
      default_calendar = IsName-default;
    };
    rows = λ serial p there. absurd (nowhere serial p there);
    days = λ b is. cc;
    links = λ link there. absurd (none_in link there);
  };
  bounds = record {
    before = λ none. record { rows = λ serial. refl; pairs = refl; in_force = refl; issued = refl };
    after = λ b is. cc;
  };
  serials = record {
    placed = λ serial above below. absurd (omega (arith, above, below));
    unissued = λ serial past. refl;
    numbered = λ serial p there. absurd (nowhere serial p there);
  };
  keys = λ m n p q there there' live live' same. absurd (nowhere m p there);
  arrivals = record {
    in_bounds = λ b is. cc;
    not_deleted = λ serial row is. cc;
  };
  sizes = record { planned = omega arith; issued = omega arith };
  lists = λ app (ring, is, at). none_in _ (is.closes app).1;
  pairs = record {
    settled = record {
      rising = λ i j d lt within. absurd (omega (arith, within));
      exactly = λ pair. (
        (λ there. absurd (none_in pair there)),
        λ is. elim is [
          | inl o ↦ absurd (nowhere pair.successor o.placed o.stands)
          | inr kept ↦ absurd (none_in pair kept.had)
        ],
      );
    };
    complete = λ pair there. absurd (none_in pair there);
    one_each = λ successor m n p q (x, stands, live, closed). absurd (nowhere successor x stands);
    in_time = λ pair p q there. absurd (none_in pair there);
    no_loop = λ serial (ring, is, at). none_in _ (is.closes serial).0;
  };
  jobs = λ number job is. cc;
}
