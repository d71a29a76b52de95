-- What is read back is what was told.
use Rattle.std.proofs.Common.{◌≡◌, ℕ, List, Bool, true, false, Option, Some, None, refl, sym, ap, ◌∙◌}
use Rattle.std.specs.Prelude.{option_map}
use Rattle.sqlite.specs.Order.{Row as Values, column}
use Rattle.sqlite.specs.declared.types.Value.TheVariants.{Text}
use Rattle.occurrences.specs.declared.place.CurrentRow.{CurrentRow}
use Rattle.occurrences.specs.declared.place.Deletion.{Deletion}
use Rattle.occurrences.specs.declared.place.Reason.{Reason}
use Rattle.occurrences.specs.declared.place.Reason.TheVariants.{Operator, Withdrawn, Plan}
use Rattle.occurrences.specs.declared.row.Origin.{Origin}
use Rattle.occurrences.specs.declared.row.Origin.TheVariants.{Added, Generated}
use Rattle.occurrences.specs.declared.row.Row.{Row}
use Rattle.occurrences.specs.declared.status.Status.{Status}
use Rattle.occurrences.specs.declared.status.Status.TheVariants.{W, S, E, C, D}
use Rattle.app_definition_records.specs.declared.applications.Application.{Application}
use Rattle.external_dependencies.specs.declared.links.Link.{Link}
use Rattle.external_dependencies.specs.declared.pairs.Pair.{Pair}
use Rattle.plan_tables_content.specs.Decoded.{nat_in, or_text, or_nat, bool_in, origin_in, status_of, reason_of, row_of, current_of, deletion_of, link_of, application_of}
use Rattle.plan_tables_content.specs.Facts.{application_values, current_values, deletion_values, link_values, pair_values}
use Rattle.plan_tables_content.specs.Facts.{row_values}
use Rattle.plan_tables_content.specs.Facts.{flag, natural, or_null}
use Rattle.occurrences.specs.Row.{run_cycle_of}
use Rattle.occurrences.specs.Status.{status_letter}
use Rattle.occurrences.specs.Place.{reason_letter}

origin_back : (o : Origin) → origin_in (or_text (or_null (option_map Text (run_cycle_of o)))) ≡ o
origin_back Added = refl
origin_back (Generated name) = refl

pub row_back : (row : Row) → row_of (row_values row) ≡ row
row_back row = λ i. record row { origin = origin_back row.origin i }

pub one_row : (a b : Row) → row_values a ≡ row_values b → a ≡ b
one_row a b e = sym (row_back a) ∙ ap row_of e ∙ row_back b

pub status_back : (s : Status) → status_of (status_letter s) ≡ s
status_back W = refl
status_back S = refl
status_back E = refl
status_back C = refl
status_back D = refl

current_back : (current : CurrentRow) → current_of (current_values current) ≡ current
current_back current = λ i. record { row = row_back current.row i; status = status_back current.status i }

pub one_current : (a b : CurrentRow) → current_values a ≡ current_values b → a ≡ b
one_current a b e = sym (current_back a) ∙ ap current_of e ∙ current_back b

reason_back : (r : Reason) → reason_of (reason_letter r) ≡ r
reason_back Operator = refl
reason_back Withdrawn = refl
reason_back Plan = refl

pub deletion_back : (deletion : Deletion) → deletion_of (deletion_values deletion) ≡ deletion
deletion_back deletion = λ i. record { row = row_back deletion.row i; reason = reason_back deletion.reason i }

pub one_deletion : (a b : Deletion) → deletion_values a ≡ deletion_values b → a ≡ b
one_deletion a b e = sym (deletion_back a) ∙ ap deletion_of e ∙ deletion_back b

pub one_pair : (a b : Pair) → pair_values a ≡ pair_values b → a ≡ b
one_pair a b e = ap (λ (v : Values). let p : Pair = record {
  successor = nat_in (column v 0);
  predecessor = nat_in
      (column v 1);
} in p) e

pub nat_back : (o : Option ℕ) → or_nat (or_null (option_map natural o)) ≡ o
nat_back None = refl
nat_back (Some t) = refl

link_back : (link : Link) → link_of (link_values link) ≡ link
link_back link = λ i. record link { within = nat_back link.within i }

pub one_link : (a b : Link) → link_values a ≡ link_values b → a ≡ b
one_link a b e = sym (link_back a) ∙ ap link_of e ∙ link_back b

bool_back : (b : Bool) → bool_in (flag b) ≡ b
bool_back true = refl
bool_back false = refl

text_back : (o : Option (List ℕ)) → or_text (or_null (option_map Text o)) ≡ o
text_back None = refl
text_back (Some t) = refl

application_back : (name : List ℕ) (a : Application) → application_of (application_values name a) ≡ a
application_back name a = λ i. record { active = bool_back a.active i; calendar = text_back a.calendar i }

pub one_application : (name : List ℕ) (a b : Application) → application_values name a ≡ application_values name b
    → a ≡ b
one_application name a b e = sym (application_back name a) ∙ ap application_of e ∙ application_back name b
