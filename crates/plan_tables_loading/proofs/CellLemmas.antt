-- Rows of so many cells.
use Rattle.std.proofs.Common.{◌≡◌, [], ◌∷◌, length, refl, sym, ap, subst, ◌∙◌, arith}
use Rattle.std.specs.Prelude.{ℕ, Option, Some, None, option_map}
use Rattle.sqlite.specs.Order.{Row as Values, column}
use Rattle.sqlite.specs.declared.types.Value.TheVariants.{Blob, Int, Text}
use Rattle.occurrences.specs.Place.{reason_letter}
use Rattle.occurrences.specs.Status.{status_letter}
use Rattle.occurrences.specs.declared.place.CurrentRow.{CurrentRow}
use Rattle.occurrences.specs.declared.place.Deletion.{Deletion}
use Rattle.occurrences.specs.declared.row.Row.{Row}
use Rattle.external_dependencies.specs.declared.links.Link.{Link}
use Rattle.planner_machine.specs.declared.job.Job.{Job}
use Rattle.app_definitions.specs.declared.options.Options.{Options}
use Rattle.planner_machine.specs.declared.content.Bounds.{Bounds}
use Rattle.plan_tables_schema.specs.declared.tables.TheConstants.{SCHEMA_VERSION}
use Rattle.plan_tables_content.specs.Content.{answer_text, job_values, meta_values}
use Rattle.plan_tables_content.specs.Facts.{current_values, deletion_values, link_values, natural, or_null, row_values}
use Rattle.plan_tables_loading.specs.Cells.{HasBounds, HasOptions, Leads}
use Rattle.plan_tables_loading.specs.Rowids.{pair_row_values}
use Rattle.plan_tables_loading.specs.declared.pairs.PairRow.{PairRow}

pub two : (cells : Values) → length cells ≡ 2 → column cells 0 ∷ column cells 1 ∷ [] ≡ cells
two [] len = absurd (omega arith)
two (a ∷ []) len = absurd (omega arith)
two (a ∷ b ∷ []) len = refl
two (a ∷ b ∷ c ∷ rest) len = absurd (omega arith)

pub three : (cells : Values) → length cells ≡ 3 → column cells 0 ∷ column cells 1 ∷ column cells 2 ∷ [] ≡ cells
three [] len = absurd (omega arith)
three (a ∷ rest) len = ap (λ l. a ∷ l) (two rest (omega arith))

pub five : (cells : Values) → length cells ≡ 5
    → column cells 0 ∷ column cells 1 ∷ column cells 2 ∷ column cells 3 ∷ column cells 4 ∷ [] ≡ cells
five [] len = absurd (omega arith)
five (a ∷ []) len = absurd (omega arith)
five (a ∷ b ∷ []) len = absurd (omega arith)
five (a ∷ b ∷ c ∷ []) len = absurd (omega arith)
five (a ∷ b ∷ c ∷ d ∷ []) len = absurd (omega arith)
five (a ∷ b ∷ c ∷ d ∷ e ∷ []) len = refl
five (a ∷ b ∷ c ∷ d ∷ e ∷ f ∷ rest) len = absurd (omega arith)

pub six : (cells : Values) → length cells ≡ 6
    → column cells 0 ∷ column cells 1 ∷ column cells 2 ∷ column cells 3 ∷ column cells 4 ∷ column cells 5 ∷ [] ≡ cells
six [] len = absurd (omega arith)
six (a ∷ rest) len = ap (λ l. a ∷ l) (five rest (omega arith))

pub row_from : (row : Row) (cells : Values) → length cells ≡ 5 → Leads row cells → row_values row ≡ cells
row_from row cells len l =
    (λ i. sym l.serial i ∷ sym l.app i ∷ sym l.ia i ∷ sym l.deadline i ∷ sym l.origin i ∷ []) ∙ five cells len

pub row_leads : (row : Row) (cells : Values) → row_values row ≡ cells → Leads row cells
row_leads row cells is = subst (Leads row) is
    (record { serial = refl; app = refl; ia = refl; deadline = refl; origin = refl })

pub row_size : (row : Row) (cells : Values) → row_values row ≡ cells → length cells ≡ 5
row_size row cells is = subst (λ l. length l ≡ 5) is refl

pub current_from : (current : CurrentRow) (cells : Values) → length cells ≡ 6 → Leads current.row cells
    → column cells 5 ≡ Text (status_letter current.status ∷ []) → current_values current ≡ cells
current_from current cells len l letter =
    (λ i. sym l.serial i ∷ sym l.app i ∷ sym l.ia i ∷ sym l.deadline i ∷ sym l.origin i ∷ sym letter i ∷ [])
    ∙ six cells len

pub current_leads : (current : CurrentRow) (cells : Values) → current_values current ≡ cells → Leads current.row cells
current_leads current cells is = subst (Leads current.row) is
    (record { serial = refl; app = refl; ia = refl; deadline = refl; origin = refl })

pub current_rest : (current : CurrentRow) (cells : Values) → current_values current ≡ cells
    → (length cells ≡ 6) × (column cells 5 ≡ Text (status_letter current.status ∷ []))
current_rest current cells is = subst (λ l. (length l ≡ 6) × (column l 5 ≡ Text (status_letter current.status ∷ [])))
    is (refl, refl)

pub deletion_from : (deletion : Deletion) (cells : Values) → length cells ≡ 6 → Leads deletion.row cells
    → column cells 5 ≡ Text (reason_letter deletion.reason ∷ []) → deletion_values deletion ≡ cells
deletion_from deletion cells len l letter =
    (λ i. sym l.serial i ∷ sym l.app i ∷ sym l.ia i ∷ sym l.deadline i ∷ sym l.origin i ∷ sym letter i ∷ [])
    ∙ six cells len

pub deletion_leads : (deletion : Deletion) (cells : Values) → deletion_values deletion ≡ cells
    → Leads deletion.row cells
deletion_leads deletion cells is = subst (Leads deletion.row) is
    (record { serial = refl; app = refl; ia = refl; deadline = refl; origin = refl })

pub deletion_rest : (deletion : Deletion) (cells : Values) → deletion_values deletion ≡ cells
    → (length cells ≡ 6) × (column cells 5 ≡ Text (reason_letter deletion.reason ∷ []))
deletion_rest deletion cells is =
    subst (λ l. (length l ≡ 6) × (column l 5 ≡ Text (reason_letter deletion.reason ∷ []))) is (refl, refl)

pub pair_from : (row : PairRow) (cells : Values) → length cells ≡ 3 → column cells 0 ≡ natural row.pair.successor
    → column cells 1 ≡ natural row.pair.predecessor → column cells 2 ≡ Int row.rowid → pair_row_values row ≡ cells
pair_from row cells len one other id = (λ i. sym one i ∷ sym other i ∷ sym id i ∷ []) ∙ three cells len

pub pair_is : (row : PairRow) (cells : Values) → pair_row_values row ≡ cells
    → (length cells ≡ 3) × (column cells 0 ≡ natural row.pair.successor)
    × (column cells 1 ≡ natural row.pair.predecessor) × (column cells 2 ≡ Int row.rowid)
pair_is row cells is = subst (λ l. (length l ≡ 3) × (column l 0 ≡ natural row.pair.successor)
    × (column l 1 ≡ natural row.pair.predecessor) × (column l 2 ≡ Int row.rowid)) is (refl, refl, refl, refl)

pub link_from : (link : Link) (cells : Values) → length cells ≡ 3 → column cells 0 ≡ Text link.app
    → column cells 1 ≡ Text link.predecessor → column cells 2 ≡ or_null (option_map natural link.within)
    → link_values link ≡ cells
link_from link cells len one other limit = (λ i. sym one i ∷ sym other i ∷ sym limit i ∷ []) ∙ three cells len

pub link_is : (link : Link) (cells : Values) → link_values link ≡ cells → (length cells ≡ 3)
    × (column cells 0 ≡ Text link.app) × (column cells 1 ≡ Text link.predecessor)
    × (column cells 2 ≡ or_null (option_map natural link.within))
link_is link cells is = subst (λ l. (length l ≡ 3) × (column l 0 ≡ Text link.app)
    × (column l 1 ≡ Text link.predecessor) × (column l 2 ≡ or_null (option_map natural link.within))) is
    (refl, refl, refl, refl)

pub job_from : (job : Job) (cells : Values) → length cells ≡ 3 → column cells 0 ≡ natural job.number
    → column cells 1 ≡ Blob job.text → column cells 2 ≡ Text (answer_text job.reply) → job_values job ≡ cells
job_from job cells len number text line = (λ i. sym number i ∷ sym text i ∷ sym line i ∷ []) ∙ three cells len

pub job_is : (job : Job) (cells : Values) → job_values job ≡ cells → (length cells ≡ 3)
    × (column cells 0 ≡ natural job.number) × (column cells 1 ≡ Blob job.text)
    × (column cells 2 ≡ Text (answer_text job.reply))
job_is job cells is = subst (λ l. (length l ≡ 3) × (column l 0 ≡ natural job.number) × (column l 1 ≡ Blob job.text)
    × (column l 2 ≡ Text (answer_text job.reply))) is (refl, refl, refl, refl)

nine : (cells : Values) → length cells ≡ 9 → column cells 0 ∷ column cells 1 ∷ column cells 2 ∷ column cells 3
    ∷ column cells 4 ∷ column cells 5 ∷ column cells 6 ∷ column cells 7 ∷ column cells 8 ∷ [] ≡ cells
nine [] len = absurd (omega arith)
nine (a ∷ []) len = absurd (omega arith)
nine (a ∷ b ∷ []) len = absurd (omega arith)
nine (a ∷ b ∷ c ∷ rest) len = ap (λ l. a ∷ b ∷ c ∷ l) (six rest (omega arith))

pub meta_from : (bounds : Option Bounds) (issued : ℕ) (options : Options) (cells : Values) → length cells ≡ 9
    → column cells 0 ≡ natural 1 → column cells 1 ≡ natural SCHEMA_VERSION → HasBounds bounds cells
    → column cells 6 ≡ natural issued → column cells 7 ≡ Text options.default_calendar
    → column cells 8 ≡ natural options.max_extension_hours → meta_values bounds issued options ≡ cells
meta_from None issued options cells len id version (a, b, c, d) number name hours =
    (λ i. sym id i ∷ sym version i ∷ sym a i ∷ sym b i ∷ sym c i ∷ sym d i ∷ sym number i ∷ sym name i
    ∷ sym hours i ∷ [])
    ∙ nine cells len
meta_from (Some bounds) issued options cells len id version (a, b, c, d) number name hours =
    (λ i. sym id i ∷ sym version i ∷ sym a i ∷ sym b i ∷ sym c i ∷ sym d i ∷ sym number i ∷ sym name i
    ∷ sym hours i ∷ [])
    ∙ nine cells len

-- the cells of a row of `plan_meta`
pub record AreMetaCells (bounds : Option Bounds) (issued : ℕ) (options : Options) (cells : Values) : Type 0 where
  pub size : length cells ≡ 9
  pub id : column cells 0 ≡ natural 1
  pub version : column cells 1 ≡ natural SCHEMA_VERSION
  pub reach : HasBounds bounds cells
  pub serials : column cells 6 ≡ natural issued
  pub chosen : HasOptions options cells

meta_cells : (bounds : Option Bounds) (issued : ℕ) (options : Options)
    → AreMetaCells bounds issued options (meta_values bounds issued options)
meta_cells None issued options = record {
  size = refl;
  id = refl;
  version = refl;
  reach = (refl, refl, refl, refl);
  serials = refl;
  chosen = (refl, refl);
}
meta_cells (Some b) issued options = record {
  size = refl;
  id = refl;
  version = refl;
  reach = (refl, refl, refl, refl);
  serials = refl;
  chosen = (refl, refl);
}

pub meta_is : (bounds : Option Bounds) (issued : ℕ) (options : Options) (cells : Values)
    → meta_values bounds issued options ≡ cells → AreMetaCells bounds issued options cells
meta_is bounds issued options cells is = subst (AreMetaCells bounds issued options) is (meta_cells bounds issued options)

-- what a row of the kind asks for
pub ruleset of_meta = (meta_from, meta_is)

pub ruleset of_job = (job_from, job_is)

pub ruleset of_row = (row_from, row_leads, row_size)

pub ruleset of_current = (current_from, current_leads, current_rest)

pub ruleset of_deletion = (deletion_from, deletion_leads, deletion_rest)
