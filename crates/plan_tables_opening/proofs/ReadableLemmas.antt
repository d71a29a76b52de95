-- The rows of a sound content can be read, and its definitions have their rows.
use Rattle.std.proofs.Common.{◌≡◌, ◌∙◌, ℕ, Option, Some, None, refl, sym, ap, subst, inl, inr, arith}
use Rattle.std.proofs.Common.{◌≤◌, ◌<◌}
use Rattle.std.specs.Prelude.{◌^◌}
use Rattle.std.specs.Prelude.{IfSome}
use Rattle.std.specs.List.{Contains}
use Rattle.app_definitions.specs.declared.definitions.Definitions.{Definitions}
use Rattle.app_definitions.specs.declared.options.Options.{Options}
use Rattle.external_dependencies.specs.declared.links.Link.{Link}
use Rattle.external_dependencies.specs.declared.live.Arrival.{Arrival}
use Rattle.external_dependencies.proofs.OrderLemmas.{named_once}
use Rattle.external_dependencies.specs.declared.pairs.Pair.{Pair}
use Rattle.external_dependencies.specs.declared.rows.PlacedRow.{PlacedRow}
use Rattle.occurrences.specs.Serial.{IsSerial}
use Rattle.occurrences.specs.declared.serial.TheConstants.{GREATEST_SERIAL}
use Rattle.occurrences.specs.declared.place.CurrentRow.{CurrentRow}
use Rattle.occurrences.specs.declared.place.Deletion.{Deletion}
use Rattle.occurrences.specs.declared.place.Place.{Place}
use Rattle.occurrences.specs.declared.place.Place.TheVariants.{LongTerm, Current, History, Deleted}
use Rattle.occurrences.specs.declared.row.Row.{Row}
use Rattle.planner_machine.specs.Content.{Content, IsOnlyAt, Seat, alone, empty_seat, seat}
use Rattle.planner_machine.proofs.SeatLemmas.{cases_issued, not_empty}
use Rattle.plan_tables_content.specs.Facts.{link_values}
use Rattle.plan_tables_content.proofs.Decoded.{one_link}
use Rattle.plan_tables_schema.specs.Rows.{Tables}
use Rattle.plan_tables_schema.specs.declared.tables.Table.TheVariants as table
use Rattle.plan_tables_definitions.specs.Defined.{AreSoundDefinitions}
use Rattle.plan_tables_definitions.specs.Storing.{HaveRows}
use Rattle.plan_tables_definitions.specs.declared.stored.StoredRows.{StoredRows}
use Rattle.plan_tables_loading.specs.Cells.{AreDays, IsNumberedRow, IsPair}
use Rattle.plan_tables_loading.specs.Readable.{ArePlansReadable, ShowsLink, ShowsMeta}
use Rattle.plan_tables_opening.specs.Held.{HoldSound}
use Rattle.plan_tables_opening.proofs.DefinedLemmas.{sound_definitions}
use Rattle.plan_tables_opening.specs.Stored.{RepresentStored}

in_ltp : (q row : Row) (place : Place) → (alone q place).ltp ≡ Some row → q ≡ row
in_ltp q row LongTerm is = cc
in_ltp q row (Current status) is = absurd (cc)
in_ltp q row History is = absurd (cc)
in_ltp q row (Deleted reason) is = absurd (cc)

in_cp : (q : Row) (current : CurrentRow) (place : Place) → (alone q place).cp ≡ Some current → q ≡ current.row
in_cp q current LongTerm is = absurd (cc)
in_cp q current (Current status) is = cc
in_cp q current History is = absurd (cc)
in_cp q current (Deleted reason) is = absurd (cc)

in_history : (q row : Row) (place : Place) → (alone q place).history ≡ Some row → q ≡ row
in_history q row LongTerm is = absurd (cc)
in_history q row (Current status) is = absurd (cc)
in_history q row History is = cc
in_history q row (Deleted reason) is = absurd (cc)

in_deletions : (q : Row) (gone : Deletion) (place : Place) → (alone q place).deletions ≡ Some gone → q ≡ gone.row
in_deletions q gone LongTerm is = absurd (cc)
in_deletions q gone (Current status) is = absurd (cc)
in_deletions q gone History is = absurd (cc)
in_deletions q gone (Deleted reason) is = cc

small : (n issued : ℕ) → n ≤ issued → issued ≤ GREATEST_SERIAL → n ≤ GREATEST_SERIAL
small n issued within few = omega arith

below : (issued : ℕ) → issued ≤ GREATEST_SERIAL → issued < 2 ^ 32
below issued few = omega arith

-- a seat that has a row, a row with its status or a deletion is taken
taken_ltp : (s : Seat) (row : Row) → s.ltp ≡ Some row → s ≡ empty_seat → ⊥
taken_ltp s row is e = let no = ap (λ (s : Seat). s.ltp) e in absurd (cc)

taken_cp : (s : Seat) (current : CurrentRow) → s.cp ≡ Some current → s ≡ empty_seat → ⊥
taken_cp s current is e = let no = ap (λ (s : Seat). s.cp) e in absurd (cc)

taken_history : (s : Seat) (row : Row) → s.history ≡ Some row → s ≡ empty_seat → ⊥
taken_history s row is e = let no = ap (λ (s : Seat). s.history) e in absurd (cc)

taken_deletions : (s : Seat) (gone : Deletion) → s.deletions ≡ Some gone → s ≡ empty_seat → ⊥
taken_deletions s gone is e = let no = ap (λ (s : Seat). s.deletions) e in absurd (cc)

some_is : {X : Type 0} (o : Option X) (P : X → Type 0) → ((x : X) → o ≡ Some x → P x) → IfSome o P
some_is None P f = tt
some_is (Some x) P f = f x refl

module _ (all : Tables) (hold : HoldSound all) where
  abbrev c : Content
  c = hold.content

  -- what stands somewhere has a serial
  is_serial : (n : ℕ) (p : PlacedRow) → IsOnlyAt c.sets n p → IsSerial n
  is_serial n p there = elim (cases_issued c.sets.issued n) [
    | inl within ↦ (within.0, small n c.sets.issued within.1 hold.sound.sizes.issued)
    | inr past ↦ absurd (not_empty c.sets n p there (hold.sound.serials.unissued n past))
  ]

  -- a predecessor of a pair has a serial
  predecessor_serial : (pair : Pair) → Contains c.pairs pair → IsSerial pair.predecessor
  predecessor_serial pair there = elim ((hold.sound.pairs.settled.exactly pair).0 there) [
    | inl waits ↦
        let (m, p, stands, live, is) = waits.nearest.live in
        let number : p.row.serial ≡ pair.predecessor = ap (λ (x : Arrival). x.serial) is ∙ waits.predecessor in
        let own = hold.sound.serials.numbered m p stands in
        subst IsSerial (sym own ∙ number) (is_serial m p stands)
    | inr kept ↦
        let (p, stands, done) = hold.sound.pairs.complete pair there
        (kept.placed, kept.stands, kept.live, kept.waits_no_more) in
        is_serial pair.predecessor p stands
  ]

  numbered : (n : ℕ) (p : PlacedRow) → IsOnlyAt c.sets n p → IsNumberedRow p.row
  numbered n p stands = (
    hold.sound.ranges.rows n p stands,
    subst IsSerial (sym (hold.sound.serials.numbered n p stands)) (is_serial n p stands),
  )

  -- a seat that is taken has a row
  seated : (n : ℕ) → (seat c.sets n ≡ empty_seat → ⊥) → (p : PlacedRow) × IsOnlyAt c.sets n p
  seated n taken = elim (cases_issued c.sets.issued n) [
    | inl within ↦ hold.sound.serials.placed n within.0 within.1
    | inr past ↦ absurd (taken (hold.sound.serials.unissued n past))
  ]

  ltp_form : (n : ℕ) (row : Row) → c.sets.ltp n ≡ Some row → IsNumberedRow row
  ltp_form n row is =
      let (p, stands) = seated n (taken_ltp (seat c.sets n) row is) in
      subst IsNumberedRow (in_ltp p.row row p.place (sym (ap (λ (s : Seat). s.ltp) stands) ∙ is)) (numbered n p stands)

  cp_form : (n : ℕ) (current : CurrentRow) → c.sets.cp n ≡ Some current → IsNumberedRow current.row
  cp_form n current is =
      let (p, stands) = seated n (taken_cp (seat c.sets n) current is) in
      subst IsNumberedRow (in_cp p.row current p.place (sym (ap (λ (s : Seat). s.cp) stands) ∙ is)) (numbered n p stands)

  history_form : (n : ℕ) (row : Row) → c.sets.history n ≡ Some row → IsNumberedRow row
  history_form n row is =
      let (p, stands) = seated n (taken_history (seat c.sets n) row is) in
      subst IsNumberedRow (in_history p.row row p.place (sym (ap (λ (s : Seat). s.history) stands) ∙ is))
      (numbered n p stands)

  deletion_form : (n : ℕ) (gone : Deletion) → c.sets.deletions n ≡ Some gone → IsNumberedRow gone.row
  deletion_form n gone is =
      let (p, stands) = seated n (taken_deletions (seat c.sets n) gone is) in
      subst IsNumberedRow (in_deletions p.row gone p.place (sym (ap (λ (s : Seat). s.deletions) stands) ∙ is))
      (numbered n p stands)

  pair_form : (pair : Pair) → Contains c.pairs pair → IsPair pair
  pair_form pair there = (
    elim ((hold.sound.pairs.settled.exactly pair).0 there) [
      | inl waits ↦ is_serial pair.successor waits.placed waits.stands
      | inr kept ↦ is_serial pair.successor kept.placed kept.stands
    ],
    predecessor_serial pair there,
  )

  shown_in_force : (link : Link) → ShowsLink all link → Contains c.in_force link
  shown_in_force link there =
      let fact = (hold.told.facts table.LinkInForce (link_values link)).0 there in
      subst (Contains c.in_force) (one_link fact.0 link (sym fact.2)) fact.1

  meta_form : ShowsMeta all
  meta_form = record {
    meta = record { bounds = c.sets.bounds; issued = c.sets.issued; options = c.definitions.options };
    form = record {
      bounds = some_is c.sets.bounds AreDays hold.sound.ranges.days;
      issued = below c.sets.issued hold.sound.sizes.issued;
      default_calendar = hold.sound.ranges.definitions.default_calendar;
    };
    tells = record { exactly = hold.told.facts table.Meta };
    rowids = hold.rowids table.Meta;
  }

  pub plans_readable : ArePlansReadable all
  plans_readable = record {
    ltp = record {
      shows = record {
        each = λ v there.
            let fact = (hold.told.facts table.LongTerm v).0 there in
            (fact.1, ltp_form fact.0 fact.1 fact.2, sym fact.3);
      };
      rowids = hold.rowids table.LongTerm;
    };
    cp = record {
      shows = record {
        each = λ v there.
            let fact = (hold.told.facts table.Current v).0 there in
            (fact.1, cp_form fact.0 fact.1 fact.2, sym fact.3);
      };
      rowids = hold.rowids table.Current;
    };
    history = record {
      shows = record {
        each = λ v there.
            let fact = (hold.told.facts table.History v).0 there in
            (fact.1, history_form fact.0 fact.1 fact.2, sym fact.3);
      };
      rowids = hold.rowids table.History;
    };
    deletions = record {
      shows = record {
        each = λ v there.
            let fact = (hold.told.facts table.Deletion v).0 there in
            (fact.1, deletion_form fact.0 fact.1 fact.2, sym fact.3);
      };
      rowids = hold.rowids table.Deletion;
    };
    links = record {
      shows = record {
        each = λ v there.
            let fact = (hold.told.facts table.LinkInForce v).0 there in
            (fact.0, hold.sound.ranges.links fact.0 fact.1, sym fact.2);
      };
      once = λ a b at_a at_b.
          named_once c.in_force hold.told.representable.in_force a b (shown_in_force a at_a) (shown_in_force b at_b);
    };
    pairs = record {
      shows = record {
        each = λ v there.
            let fact = (hold.told.facts table.Dependency v).0 there in
            (fact.0, pair_form fact.0 fact.1, sym fact.2);
      };
      rowids = hold.rowids table.Dependency;
    };
    meta = meta_form;
    jobs = record {
      shows = record {
        each = λ v there.
            let fact = (hold.told.facts table.Job v).0 there in
            (fact.1, (hold.sound.jobs fact.0 fact.1 fact.2).reply, sym fact.3);
      };
      rowids = hold.rowids table.Job;
    };
  }

  abbrev pub with_options : Options → Definitions
  with_options options = record c.definitions { options = options }

  pub have_rows : (options : Options) (stored : StoredRows) → RepresentStored all stored
      → HaveRows stored options (with_options options)
  have_rows options stored tell = record {
    calendars = λ v. (
      (λ there. (hold.told.facts table.CalendarEntry v).0 ((tell.calendar_rows.exactly v).1 there)),
      λ is. (tell.calendar_rows.exactly v).0 ((hold.told.facts table.CalendarEntry v).1 is),
    );
    periods = λ v. (
      (λ there. (hold.told.facts table.Period v).0 ((tell.period_rows.exactly v).1 there)),
      λ is. (tell.period_rows.exactly v).0 ((hold.told.facts table.Period v).1 is),
    );
    applications = λ v. (
      (λ there. (hold.told.facts table.Application v).0 ((tell.application_rows.exactly v).1 there)),
      λ is. (tell.application_rows.exactly v).0 ((hold.told.facts table.Application v).1 is),
    );
    run_cycles = λ v. (
      (λ there. (hold.told.facts table.RunCycle v).0 ((tell.cycle_rows.exactly v).1 there)),
      λ is. (tell.cycle_rows.exactly v).0 ((hold.told.facts table.RunCycle v).1 is),
    );
    offsets = λ v. (
      (λ there. (hold.told.facts table.Offset v).0 ((tell.offset_rows.exactly v).1 there)),
      λ is. (tell.offset_rows.exactly v).0 ((hold.told.facts table.Offset v).1 is),
    );
    predecessors = λ v. (
      (λ there. (hold.told.facts table.Predecessor v).0 ((tell.predecessor_rows.exactly v).1 there)),
      λ is. (tell.predecessor_rows.exactly v).0 ((hold.told.facts table.Predecessor v).1 is),
    );
    options = refl;
    representable = record {
      calendars = hold.told.representable.calendars;
      periods = hold.told.representable.periods;
      run_cycles = hold.told.representable.run_cycles;
      predecessors = hold.told.representable.predecessors;
    };
  }

  pub sound_rows : (options : Options) → AreSoundDefinitions (with_options options)
  sound_rows options =
      let sound = sound_definitions c.definitions hold.sound.ranges.definitions in
      record {
        applications = sound.applications;
        calendars = sound.calendars;
        periods = sound.periods;
        run_cycles = sound.run_cycles;
        predecessors = sound.predecessors;
      }
