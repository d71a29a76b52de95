-- The rows of a number tell what a set has under it.
use Rattle.std.proofs.Common.{◌≡◌, ◌≢◌, ◌∙◌, ◌↔◌, ◌&&◌, ℕ, true, List, [], ◌∷◌, Option, Result, Some, None, Ok, Err, refl, sym}
use Rattle.std.proofs.Common.{ap, subst, arith, Contains, IfOk, IfSome, map}
use Rattle.std.specs.Prelude.{IsErrAnd, Vec}
use Rattle.std.specs.declared.alloc.Global.{Global}
use Rattle.sqlite.specs.Held.{Held}
use Rattle.sqlite.specs.Order.{Row as Values, column}
use Rattle.sqlite.specs.Store.{Ghosts}
use Rattle.sqlite.specs.declared.error.Error.{Error}
use Rattle.sqlite_sql.specs.declared.ops.CompareOp.TheVariants.{Eq}
use Rattle.occurrences.specs.declared.place.Deletion.{Deletion}
use Rattle.occurrences.specs.declared.row.Row.{Row}
use Rattle.planner_machine.specs.Content.{Content}
use Rattle.planner_machine.specs.Sound.{IsSound}
use Rattle.planner_machine.specs.declared.job.Job.{Job}
use Rattle.plan_tables_schema.specs.Rows.{Tables, shown}
use Rattle.plan_tables_schema.specs.declared.tables.Table.TheVariants as table
use Rattle.plan_tables_lookups.specs.Finding.{AreAll, Finds, natural}
use Rattle.plan_tables_lookups.specs.Looks.{question}
use Rattle.plan_tables_lookups.specs.Question.{is_so, passes}
use Rattle.plan_tables_lookups.specs.declared.looks.Look.{Look}
use Rattle.plan_tables_lookups.specs.declared.looks.Look.TheVariants.{InDeletions, InHistory, JobOf}
use Rattle.plan_tables_content.specs.Content.{IsContentOf, IsOfSet, IsSmall, IsRepresentable, IsUnderOwn, job_values}
use Rattle.plan_tables_content.specs.Decoded.{nat_in, text_in}
use Rattle.plan_tables_content.specs.Facts.{deletion_values, row_values}
use Rattle.plan_tables_content.proofs.AnswerLemmas.{one_answer}
use Rattle.plan_tables_content.proofs.Decoded.{one_deletion, one_row}
use Rattle.plan_tables_loading.specs.Cells.{IsNumberedRow, IsReadJob}
use Rattle.plan_tables_queries.specs.Finding.{FindsFact}
use Rattle.plan_tables_queries.specs.Decoding.{TellsFirst, TellsFound, TellsNot}
use Rattle.plan_tables_lookups.specs.declared.faults.TableFault.{TableFault}
use Rattle.plan_tables_lookups.specs.declared.faults.TableFault.TheVariants.{Memory, Malformed, Store}
use Rattle.plan_tables_queries.proofs.FindLemmas.{finds_fact, not_found}
use Rattle.plan_tables_queries.proofs.RowLemmas.{asked_is, is_asked, is_of_row}
use Rattle.plan_tables_queries.proofs.SerialLemmas.{completed_formed, deleted_formed}
use Rattle.plan_tables_queries.proofs.TestLemmas.{alone_of, is_number, number_is, of_alone}

-- how a set stands in a table, where a question asks for its number
pub record IsNumberedSet {X : Type 0} (look : Look) (values_of : X → Values) (number_of : X → ℕ) (Is Small : X → Type 0)
    (set_of : Content → ℕ → Option X) : Type 0 where
  pub one : (x y : X) → Small x → Small y → values_of x ≡ values_of y → x ≡ y
  pub passing : (n : ℕ) (x : X) → (passes (question look) (natural n ∷ []) (values_of x) ≡ true) ↔ (number_of x ≡ n)
  pub facts : (all : Tables) (c : Content) → IsContentOf all c → (v : Values)
      → Contains (map (shown (question look).table) (all (question look).table)) v ↔ IsOfSet values_of (set_of c) v
  pub own : (c : Content) → IsRepresentable c → IsUnderOwn number_of (set_of c)
  pub small : (c : Content) → IsRepresentable c → (n : ℕ) (x : X) → set_of c n ≡ Some x → Small x
  pub formed : (c : Content) → IsSound c → (n : ℕ) (x : X) → set_of c n ≡ Some x → Is x

module _ {X : Type 0} (look : Look) (values_of : X → Values) (number_of : X → ℕ) (Is Small : X → Type 0)
    (set_of : Content → ℕ → Option X) (kind : IsNumberedSet look values_of number_of Is Small set_of) where
  module _ (all : Tables) (c : Content) (is : IsContentOf all c) (n : ℕ) (rows : List Values)
      (same : AreAll look (natural n ∷ []) all rows) where
    row_is : (row : Values) → Contains rows row → (x : X) × (set_of c n ≡ Some x) × (row ≡ values_of x)
    row_is row there =
        let a = is_asked (question look) (natural n ∷ []) all values_of (set_of c) (kind.facts all c is) rows same row
        there in
        let numbered : number_of a.fact ≡ n = (kind.passing n a.fact).0
        (subst (λ (v : Values). passes (question look) (natural n ∷ []) v ≡ true) a.is a.pass) in
        let at = sym (kind.own c is.representable a.number a.fact a.has) ∙ numbered in
        (a.fact, subst (λ k. set_of c k ≡ Some a.fact) at a.has, a.is)

    has_row : (x : X) → set_of c n ≡ Some x → Contains rows (values_of x)
    has_row x at = asked_is (question look) (natural n ∷ []) all values_of (set_of c) (kind.facts all c is) rows same n
        x at ((kind.passing n x).1 (kind.own c is.representable n x at))

    none_is : (o : Option X) → set_of c n ≡ o → rows ≡ [] → o ≡ None
    none_is None at none = refl
    none_is (Some x) at none = absurd (omega (
      arith,
      (subst (λ (l : List Values). Contains l (values_of x)) none
          (has_row x at)).1,
    ))

    found_is : (found : Option X) → IfSome found Small → TellsFirst values_of rows found → found ≡ set_of c n
    found_is None small none = sym (none_is (set_of c n) refl none)
    found_is (Some y) small there =
        let (x, at, values) = row_is (values_of y) there in
        ap Some (kind.one y x small (kind.small c is.representable n x at) values) ∙ sym at

    told_is : IsSound c → (fault : TableFault) → TellsNot Is values_of rows fault → fault ≢ Malformed
    told_is sound Memory tells e = cc
    told_is sound Malformed (row, there, none) e =
        let (x, at, values) = row_is row there in none x (kind.formed c sound n x at) (sym values)
    told_is sound (Store error) tells e = tells

  -- so what the first of its rows tells is what the set has
  module _ {S : Type 0} (g : Ghosts S) (old new : Held S) (n : ℕ) where
    pub finds_number : (asked : Result (Vec Values Global) Error)
        → Finds g old new asked (λ all rows. AreAll look (natural n ∷ []) all rows.items)
        → (result : Result (Option X) TableFault) → IfOk result (λ found. IfSome found Small)
        → TellsFound Is values_of asked result
        → FindsFact g old new result (λ c found. found ≡ set_of c n)
    finds_number (Ok rows) finds (Ok found) small tells = finds_fact g old new rows _ finds _ (Ok found)
        (λ c is sound same. found_is _ c is n rows.items same found small tells) (λ _ _ _ _. tt) tt
    finds_number (Ok rows) finds (Err fault) small tells = finds_fact g old new rows _ finds _ (Err fault)
        (λ _ _ _ _. tt) (λ c is sound same. told_is _ c is n rows.items same sound fault tells)
        (is_of_row Is values_of rows.items fault tells)
    finds_number (Err error) finds result small tells =
        not_found g old new error _ finds _ result (subst (λ r. IsErrAnd r (λ fault. fault ≡ Store error)) (sym tells) refl)

-- ---- the sets

number_test : (n m : ℕ) → ((is_so Eq (natural m) (natural n) && true) ≡ true) ↔ (m ≡ n)
number_test n m = (
  (λ h. is_number m n (alone_of _ h)),
  λ same. of_alone _ (subst (λ k. is_so Eq (natural m) (natural k) ≡ true) same (number_is m)),
)

one_job : (x y : Job) → IsSmall x.reply → IsSmall y.reply → job_values x ≡ job_values y → x ≡ y
one_job x y low small e =
    let number : x.number ≡ y.number = ap (λ (v : Values). nat_in (column v 0)) e in
    let text : x.text ≡ y.text = ap (λ (v : Values). text_in (column v 1)) e in
    let reply : x.reply ≡ y.reply = one_answer x.reply y.reply low small (ap (λ (v : Values). text_in (column v 2)) e)
    in
    λ i. record { number = number i; text = text i; reply = reply i }

pub jobs_numbered : IsNumberedSet JobOf job_values (λ (job : Job). job.number) IsReadJob
    (λ (job : Job). IsSmall job.reply) (λ (c : Content). c.jobs)
jobs_numbered = record {
  one = one_job;
  passing = λ n job. number_test n job.number;
  facts = λ all c is. is.facts table.Job;
  own = λ c representable. representable.jobs;
  small = λ c representable. representable.answers;
  formed = λ c sound n job at. (sound.jobs n job at).reply;
}

pub history_numbered : IsNumberedSet InHistory row_values (λ (row : Row). row.serial) IsNumberedRow
    (λ (row : Row). Unit {0}) (λ (c : Content). c.sets.history)
history_numbered = record {
  one = λ x y _ _. one_row x y;
  passing = λ n row. number_test n row.serial;
  facts = λ all c is. is.facts table.History;
  own = λ c representable. representable.history;
  small = λ c representable n row at. tt;
  formed = completed_formed;
}

pub deletions_numbered : IsNumberedSet InDeletions deletion_values (λ (d : Deletion). d.row.serial)
    (λ (d : Deletion). IsNumberedRow d.row) (λ (d : Deletion). Unit {0}) (λ (c : Content). c.sets.deletions)
deletions_numbered = record {
  one = λ x y _ _. one_deletion x y;
  passing = λ n d. number_test n d.row.serial;
  facts = λ all c is. is.facts table.Deletion;
  own = λ c representable. representable.deletions;
  small = λ c representable n d at. tt;
  formed = deleted_formed;
}

-- nothing is asked of what a set has that is told by its values alone
pub no_more : {X E : Type 0} (result : Result (Option X) E) → IfOk result (λ found. IfSome found (λ _. Unit {0}))
no_more (Ok None) = tt
no_more (Ok (Some x)) = tt
no_more (Err e) = tt
