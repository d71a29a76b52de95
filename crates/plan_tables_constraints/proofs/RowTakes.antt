-- Rows that a table takes, by what the rows that stand there show.
use Rattle.std.proofs.Common.{◌≡◌, ◌≢◌, ◌<◌, ◌^◌, ◌∙◌, ◌++◌, ℕ, false, true, List, [], ◌∷◌, Option, Some, None}
use Rattle.std.proofs.Common.{drop, take, refl, sym, ap, subst, arith}
use Rattle.std.specs.Prelude.{codes, option_map, pos}
use Rattle.std.specs.List.{AllByRecursion}
use Rattle.std.specs.Float.{NotNan}
use Rattle.std.proofs.lemmas.Bool.{false_from_ne_true}
use Rattle.std.proofs.lemmas.List.Elements.{All-from_recursion}
use Rattle.std.proofs.lemmas.Nat.Bits.{bit_at-zero}
use lib.Ieee.{is_nan}
use Rattle.sqlite.specs.Kind.TheVariants.{Text as Texts}
use Rattle.sqlite.specs.Order.{Row as Values, column}
use Rattle.sqlite_schema.specs.Rules.{agree}
use Rattle.sqlite_trees.specs.View.{IsStorableRow}
use Rattle.sqlite_value.specs.Keys.{plain}
use Rattle.sqlite_value.specs.Order.{number}
use Rattle.sqlite_value.specs.declared.value.Value.TheVariants.{Null, Text}
use Rattle.work_calendars.specs.Name.{IsName}
use Rattle.app_definitions.specs.declared.options.Options.{Options}
use Rattle.occurrences.specs.Place.{reason_letter}
use Rattle.occurrences.specs.Row.{run_cycle_of}
use Rattle.occurrences.specs.Status.{status_letter}
use Rattle.occurrences.specs.declared.key.Key.{Key}
use Rattle.occurrences.specs.declared.place.CurrentRow.{CurrentRow}
use Rattle.occurrences.specs.declared.place.Deletion.{Deletion}
use Rattle.occurrences.specs.declared.row.Origin.{Origin}
use Rattle.occurrences.specs.declared.row.Origin.TheVariants.{Added, Generated}
use Rattle.occurrences.specs.declared.row.Row.{Row}
use Rattle.planner_machine.specs.Sound.{IsOrigin, IsRow}
use Rattle.planner_machine.specs.declared.content.Bounds.{Bounds}
use Rattle.planner_machine.specs.declared.job.Job.{Job}
use Rattle.plan_tables_schema.specs.Form.{needs}
use Rattle.plan_tables_schema.specs.Forms.{form}
use Rattle.plan_tables_schema.specs.Rows.{AreOfKinds, Tables, shown}
use Rattle.plan_tables_schema.specs.Accepted.{AcceptsRow}
use Rattle.plan_tables_schema.specs.declared.tables.Table.TheVariants as table
use Rattle.plan_tables_schema.specs.declared.tables.TheConstants.{SCHEMA_VERSION}
use Rattle.plan_tables_content.specs.Content.{job_values, meta_values}
use Rattle.plan_tables_content.specs.Facts.{current_values, deletion_values, natural, or_null, row_values}
use Rattle.plan_tables_constraints.specs.Room.{CanBeStored}
use Rattle.plan_tables_constraints.proofs.FormRows.{AreCells, IsBeside, agree_from, given_taken, number_cell, number_free}
use Rattle.plan_tables_constraints.proofs.FormRows.{number_within}
use Rattle.plan_tables_constraints.proofs.FormRows.{text_cell, text_or_null}
use Rattle.plan_tables_constraints.proofs.Held.{one_passes, one_natural, one_text, same_cell}
use Rattle.plan_tables_constraints.proofs.RowFits.{IsPlain, all_so, plain_null, plain_text}

-- ---- occurrences

row_text : (x : Row) → IsRow x → IsPlain (or_null (option_map Text (run_cycle_of x.origin)))
row_text x is = by_origin x.origin is.origin
  where
    by_origin : (o : Origin) → IsOrigin o → IsPlain (or_null (option_map Text (run_cycle_of o)))
    by_origin (Generated name) short = plain_text name (omega (arith, short.fits))
    by_origin Added none = plain_null

-- the row as it is stored: its serial, and its columns
abbrev stored_as : Values → Values
stored_as values = column values 0 ∷ Null ∷ drop 1 values

-- an occurrence, and what follows it in its row
row_cells : (x : Row) → IsRow x → AreCells (form table.LongTerm).columns (row_values x)
row_cells x is = (
  number_cell (pos x.serial),
  (
    text_cell x.key.app (omega (arith, is.app.fits)),
    (
      number_cell (pos x.key.ia),
      (number_cell (pos x.deadline), (text_or_null (run_cycle_of x.origin) (row_text x is), tt)),
    ),
  ),
)

lettered_cells : (x : Row) → IsRow x → (name : List ℕ) (letter : ℕ)
    → AreCells (take 5 (form table.Current).columns ++ (needs name Texts ∷ []))
    (row_values x ++ (Text (letter ∷ []) ∷ []))
lettered_cells x is name letter =
    let k = row_cells x is in
    (k.0, (k.1.0, (k.1.1.0, (k.1.1.1.0, (k.1.1.1.1.0, (text_cell (letter ∷ []) (omega arith), tt))))))

same_key : (k l : Key) → k.app ≡ l.app → k.ia ≡ l.ia → k ≡ l
same_key k l a b i = record { app = a i; ia = b i }

-- the values begin with a number that is not this one
abbrev pub HasOtherNumber : ℕ → Values → Type 0
HasOtherNumber n w = (m : ℕ) × (column w 0 ≡ natural m) × (m ≢ n)

-- and with another key after it
pub record IsOtherRow (x : Row) (w : Values) : Type 0 where
  pub other : Row
  pub shows : w ≡ row_values other
  pub serial : other.serial ≢ x.serial
  pub key : other.key ≢ x.key

other_number : (x : Row) (w : Values) → IsOtherRow x w → HasOtherNumber x.serial w
other_number x w o = (o.other.serial, ap (λ (v : Values). column v 0) o.shows, o.serial)

key_apart : (x : Row) (w r : Values) → IsOtherRow x w → column r 2 ≡ column w 1 → column r 3 ≡ column w 2
    → agree plain (2 ∷ 3 ∷ []) r (2 ∷ 3 ∷ []) (stored_as (row_values x)) ≡ false
key_apart x w r o one two = false_from_ne_true _ (λ h.
    let cells = agree_from 2 2 r (stored_as (row_values x)) h in
    o.key (same_key o.other.key x.key
    (one_text o.other.key.app x.key.app (subst (λ v. same_cell v (Text x.key.app) ≡ true)
    (one ∙ ap (λ (v : Values). column v 1) o.shows) cells.0))
    (one_natural o.other.key.ia x.key.ia (subst (λ v. same_cell v (natural x.key.ia) ≡ true)
    (two ∙ ap (λ (v : Values). column v 2) o.shows) cells.1.0))))

abbrev meta_row : (a b c d issued : ℕ) → Options → Values
meta_row a b c d issued options = natural 1 ∷ natural SCHEMA_VERSION ∷ natural a ∷ natural b ∷ natural c ∷ natural d
    ∷ natural issued ∷ Text options.default_calendar ∷ natural options.max_extension_hours ∷ []

meta_cells : (a b c d issued : ℕ) (options : Options) → IsName options.default_calendar
    → AreCells (form table.Meta).columns (meta_row a b c d issued options)
meta_cells a b c d issued options named = (
  number_cell (pos 1),
  (
    number_cell (pos SCHEMA_VERSION),
    (
      number_cell (pos a),
      (
        number_cell (pos b),
        (
          number_cell (pos c),
          (
            number_cell (pos d),
            (
              number_cell (pos issued),
              (
                text_cell options.default_calendar (omega (arith, named.fits)),
                (number_cell (pos options.max_extension_hours), tt),
              ),
            ),
          ),
        ),
      ),
    ),
  ),
)

job_fits : (job : Job) → CanBeStored job → IsStorableRow 0 (stored_as (job_values job))
unfolding is_nan
job_fits job short = (
  record {
    typed = λ c one. absurd (omega (arith, bit_at-zero c, one));
    columns = (omega arith, omega arith);
    numbers = All-from_recursion (λ v. NotNan (number v)) (stored_as (job_values job)) (tt, (tt, (tt, (tt, tt))));
    short = omega (arith, short);
  },
  omega arith,
)

module _ (all : Tables) where
  module _ (x : Row) (is : IsRow x) (small : x.serial < 2 ^ 63) where
    pub ltp_taken : AreOfKinds table.LongTerm (row_values x)
        → AllByRecursion (λ r. IsOtherRow x (shown table.LongTerm r)) (all table.LongTerm)
        → AcceptsRow table.LongTerm (row_values x) all
    ltp_taken kinds others = given_taken table.LongTerm refl all x.serial (drop 1 (row_values x))
        (row_cells x is) small kinds refl
        (all_so (λ r. IsOtherRow x (shown table.LongTerm r)) (IsBeside x.serial)
        (λ r o. other_number x (shown table.LongTerm r) o) (all table.LongTerm) others) (
          all_so (λ r. IsOtherRow x (shown table.LongTerm r)) (λ r. agree plain (2 ∷ 3 ∷ []) r (2 ∷ 3 ∷ [])
              (stored_as (row_values x)) ≡ false) (λ r o. key_apart x (shown table.LongTerm r) r o refl refl)
              (all table.LongTerm) others,
          tt,
        ) tt

    pub history_taken : AreOfKinds table.History (row_values x)
        → AllByRecursion (λ r. IsOtherRow x (shown table.History r)) (all table.History)
        → AcceptsRow table.History (row_values x) all
    history_taken kinds others = given_taken table.History refl all x.serial (drop 1 (row_values x))
        (row_cells x is) small kinds refl
        (all_so (λ r. IsOtherRow x (shown table.History r)) (IsBeside x.serial)
        (λ r o. other_number x (shown table.History r) o) (all table.History) others) (
          all_so (λ r. IsOtherRow x (shown table.History r)) (λ r. agree plain (2 ∷ 3 ∷ []) r (2 ∷ 3 ∷ [])
              (stored_as (row_values x)) ≡ false) (λ r o. key_apart x (shown table.History r) r o refl refl)
              (all table.History) others,
          tt,
        ) tt

  pub current_taken : (x : CurrentRow) → IsRow x.row → x.row.serial < 2 ^ 63
      → AreOfKinds table.Current (current_values x)
      → AllByRecursion (λ r. HasOtherNumber x.row.serial (shown table.Current r)) (all table.Current)
      → AcceptsRow table.Current (current_values x) all
  current_taken x is small kinds others = given_taken table.Current refl all x.row.serial (drop 1 (current_values x))
      (lettered_cells x.row is (codes "status") (status_letter x.status)) small kinds refl others tt tt

  pub deletion_taken : (x : Deletion) → IsRow x.row → x.row.serial < 2 ^ 63
      → AreOfKinds table.Deletion (deletion_values x)
      → AllByRecursion (λ r. HasOtherNumber x.row.serial (shown table.Deletion r)) (all table.Deletion)
      → AcceptsRow table.Deletion (deletion_values x) all
  deletion_taken x is small kinds others = given_taken table.Deletion refl all x.row.serial (drop 1 (deletion_values x))
      (lettered_cells x.row is (codes "reason") (reason_letter x.reason)) small kinds refl others tt tt

  -- ---- the one row of how far the plans reach, and jobs

  pub meta_taken : (bounds : Option Bounds) (issued : ℕ) (options : Options) → IsName options.default_calendar
      → AreOfKinds table.Meta (meta_values bounds issued options) → all table.Meta ≡ []
      → AcceptsRow table.Meta (meta_values bounds issued options) all
  meta_taken bounds issued options named kinds none = by_bounds bounds kinds
    where
      taken : (a b c d : ℕ) → AreOfKinds table.Meta (meta_row a b c d issued options)
          → AcceptsRow table.Meta (meta_row a b c d issued options) all
      taken a b c d kinds = given_taken table.Meta refl all 1 (drop 1 (meta_row a b c d issued options))
          (meta_cells a b c d issued options named) (omega arith) kinds
          (one_passes (Null ∷ drop 1 (meta_row a b c d issued options)))
          (subst (AllByRecursion (IsBeside 1)) (sym none) tt) tt tt

      by_bounds : (o : Option Bounds) → AreOfKinds table.Meta (meta_values o issued options)
          → AcceptsRow table.Meta (meta_values o issued options) all
      by_bounds None kinds = taken 0 0 0 0 kinds
      by_bounds (Some b) kinds = taken 1 b.first_day b.last_day b.plan_end kinds

  pub job_taken : (job : Job) → job.number < 2 ^ 63 → CanBeStored job
      → AreOfKinds table.Job (job_values job)
      → AllByRecursion (λ r. HasOtherNumber job.number (shown table.Job r)) (all table.Job)
      → AcceptsRow table.Job (job_values job) all
  job_taken job small short kinds others = record {
    whole = refl;
    kinds = kinds;
    typed = refl;
    present = refl;
    checked = refl;
    storable = job_fits job short;
    entries = tt;
    numbered = refl;
    within = number_within job.number small;
    fresh = number_free job.number (drop 1 (stored_as (job_values job))) (all table.Job) others;
    unique = tt;
    parents = tt;
  }
