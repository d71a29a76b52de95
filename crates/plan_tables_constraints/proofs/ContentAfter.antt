-- The tables after a change of the plans have the content after it.
use Rattle.std.proofs.Common.{◌≡◌, ◌↔◌, ◌==◌, ◌||◌, ◌&&◌, ℕ, Bool, true, false, cond, List, [], ◌∷◌, refl, sym, ap}
use Rattle.std.proofs.Common.{subst, ◌∙◌, Option, Some, None}
use Rattle.std.specs.Prelude.{is_some, if◌then◌else◌, unwrap_or, nat_eq, IfSome}
use Rattle.std.proofs.lemmas.Bool.{and_from, and_parts, eqb-true, false≢true}
use Rattle.sqlite.specs.Order.{Row as Values}
use Rattle.sqlite.specs.Rowids.TheVariants.{Chosen}
use Rattle.sqlite_rules.specs.Edit.{with_rowid}
use Rattle.occurrences.specs.declared.place.CurrentRow.{CurrentRow}
use Rattle.occurrences.specs.declared.place.Deletion.{Deletion}
use Rattle.occurrences.specs.declared.row.Row.{Row}
use Rattle.app_definitions.specs.declared.definitions.Definitions.{Definitions}
use Rattle.app_definitions.specs.declared.options.Options.{Options}
use Rattle.external_dependencies.specs.declared.change.PairChange.{PairChange}
use Rattle.external_dependencies.specs.declared.links.Link.{Link}
use Rattle.external_dependencies.specs.declared.pairs.Pair.{Pair}
use Rattle.planner_machine.specs.Content.{Content}
use Rattle.planner_machine.specs.Moves.{or_else}
use Rattle.planner_machine.specs.declared.content.Bounds.{Bounds}
use Rattle.planner_machine.specs.declared.job.Job.{Job}
use Rattle.plan_store_lists.specs.Rows.{of_current, of_deletion, of_row}
use Rattle.plan_tables_schema.specs.Rows.{Tables, matches, placed, shown, stored, without_key}
use Rattle.plan_tables_schema.specs.Schema.{place}
use Rattle.plan_tables_schema.specs.declared.tables.Table.{Table}
use Rattle.plan_tables_schema.specs.declared.tables.Table.TheVariants as table
use Rattle.plan_store.specs.Changes.{after, Fits, jobs_after, lists_after, redefined}
use Rattle.plan_store.specs.declared.changes.Change.{Change}
use Rattle.plan_store.specs.declared.changes.DefinitionChange.TheVariants.{AsBefore}
use Rattle.plan_store.specs.declared.changes.NewLists.{NewLists}
use Rattle.plan_store.proofs.PairLemmas.{pairs_after_rising}
use Rattle.plan_tables_content.specs.Facts.{current_key, current_values, deletion_key, deletion_values, link_key, link_values, natural}
use Rattle.plan_tables_content.specs.Facts.{pair_values, row_key, row_values}
use Rattle.plan_tables_writing.specs.Writing.{cp_moved, deletions_moved, history_moved, ltp_moved}
use Rattle.std.proofs.Common.{filter, not}
use Rattle.plan_tables_content.specs.Content.{AreEach, HasEntry, IsContentOf, IsFact, IsNamed, IsOfList, IsOfSet, IsSmall}
use Rattle.plan_tables_content.specs.Content.{IsRepresentable}
use Rattle.plan_tables_content.specs.Content.{IsTold, IsUnderOwn, job_values, meta_values}
use Rattle.run_cycles.specs.declared.cycles.RunCycle.{RunCycle}
use Rattle.app_definition_records.specs.declared.predecessors.Predecessor.{Predecessor}
use Rattle.plan_tables_writing.specs.Writing.{IsRepresentableChange, job_kept, links_moved, meta_moved, meta_told, pairs_moved}
use Rattle.plan_tables_writing.specs.Writing.{beside, rows_moved, plans_written, standing}
use Rattle.plan_tables_constraints.proofs.ChangeLemmas.{job_shown, links_shown, meta_key, meta_shown}
use Rattle.plan_tables_constraints.proofs.ChangeLemmas.{pairs_shown}
use Rattle.plan_tables_constraints.proofs.Held.{Shows, natural_itself, one_natural, same_cell}
use Rattle.plan_tables_constraints.proofs.MovedSets.{moved_other, moved_own, set_moved}
use Rattle.plan_tables_constraints.proofs.SetMoves.{at_other, with_other, without_other}
use Rattle.plan_tables_content.proofs.SameOptions.{is_some as same_some}

abbrev pub IsApart : Table → Table → Type 0
IsApart u t = (place u == place t) ≡ false

-- ---- the four sets

module _ {X : Type 0} (number_of : X → ℕ) where
  pub number_told : (x y : X) (rest : Bool) → (same_cell (natural (number_of y)) (natural
      (number_of x)) && rest) ≡ true → number_of x ≡ number_of y
  number_told x y rest h = sym (one_natural (number_of y) (number_of x) (and_parts _ rest h).0)

  pub number_tells : (x y : X) (rest : Bool) → rest ≡ true → number_of x ≡ number_of y
      → (same_cell (natural (number_of y)) (natural (number_of x)) && rest) ≡ true
  number_tells x y rest e same = and_from _ rest (natural_itself (number_of y) (number_of x) (sym same)) e

pub row_shows : (x : Row) (rows : List Values) → shown table.LongTerm (with_rowid Chosen rows (stored table.LongTerm
    (row_values x))) ≡ row_values x
row_shows x rows = refl

pub history_shows : (x : Row) (rows : List Values) → shown table.History (with_rowid Chosen rows (stored table.History
    (row_values x))) ≡ row_values x
history_shows x rows = refl

pub current_shows : (x : CurrentRow) (rows : List Values) → shown table.Current (with_rowid Chosen rows
    (stored table.Current (current_values x))) ≡ current_values x
current_shows x rows = refl

pub deletion_shows : (x : Deletion) (rows : List Values) → shown table.Deletion (with_rowid Chosen rows
    (stored table.Deletion (deletion_values x))) ≡ deletion_values x
deletion_shows x rows = refl

-- ---- other tables stay

job_other : (u : Table) → IsApart u table.Job → (job : Option Job) (all : Tables) → job_kept job all u ≡ all u
job_other u apart None all = refl
job_other u apart (Some job) all = at_other table.Job u _ all apart

abbrev bare : Tables → Tables
bare all = without_key table.Meta (natural 1 ∷ []) all

pub told_other : (u : Table) → IsApart u table.Meta → (bounds : Option Bounds) (issued : ℕ) (options : Options)
    (all : Tables)
    → meta_told bounds issued options all u ≡ all u
told_other u apart bounds issued options all =
    at_other table.Meta u (placed (with_rowid Chosen (bare all table.Meta) (stored table.Meta
    (meta_values bounds issued options))) (bare all table.Meta)) (bare all) apart
    ∙ at_other table.Meta u (filter (λ r. not (matches table.Meta (natural 1 ∷ []) r)) (all table.Meta)) all apart

pub meta_other : (u : Table) → IsApart u table.Meta → (change : Change) (bounds : Option Bounds) (issued : ℕ)
    (options : Options) (all : Tables)
    → meta_moved change bounds issued options all u ≡ all u
meta_other u apart change bounds issued options all = go (is_some change.bounds || is_some change.issued)
  where
    go : (b : Bool) → (if b then meta_told (or_else change.bounds bounds)
        (unwrap_or change.issued issued) options all else all) u ≡ all u
    go true = told_other u apart (or_else change.bounds bounds) (unwrap_or change.issued issued) options all
    go false = refl

pub links_other : (u : Table) → IsApart u table.LinkInForce → (old : List Link) (new : Option NewLists) (all : Tables)
    → links_moved old new all u ≡ all u
links_other u apart old None all = refl
links_other u apart old (Some new) all =
    with_other table.LinkInForce link_values u apart (beside old (lists_after (Some new) old)) _
    ∙ without_other table.LinkInForce link_key u apart (beside (lists_after (Some new) old) old) all

pub pairs_other : (u : Table) → IsApart u table.Dependency → (pairs : List Pair) (change : PairChange) (all : Tables)
    → pairs_moved pairs change all u ≡ all u
pairs_other u apart pairs change all = with_other table.Dependency pair_values u apart change.added _
    ∙ without_other table.Dependency pair_values u apart (standing pairs change.added) _
    ∙ without_other table.Dependency pair_values u apart change.removed all

pub rows_other : (u : Table) → IsApart u table.LongTerm → IsApart u table.Current → IsApart u table.History
    → IsApart u table.Deletion
    → (change : Change) (all : Tables) → rows_moved change all u ≡ all u
rows_other u a b c d change all =
    moved_other table.Deletion u deletion_values deletion_key change.deletions (history_moved change
    (cp_moved change (ltp_moved change all))) d
    ∙ moved_other table.History u row_values row_key change.history (cp_moved change (ltp_moved change all)) c
    ∙ moved_other table.Current u current_values current_key change.cp (ltp_moved change all) b
    ∙ moved_other table.LongTerm u row_values row_key change.ltp all a

module _ (c : Content) (change : Change) (all : Tables) where
  abbrev linked : Tables
  linked = links_moved c.in_force change.in_force (pairs_moved c.pairs change.pairs (rows_moved change all))

  abbrev noted : Tables
  noted = meta_moved change c.sets.bounds c.sets.issued c.definitions.options linked

  -- a table that has neither jobs nor bounds nor links nor pairs
  upper : (u : Table) → IsApart u table.Job → IsApart u table.Meta → IsApart u table.LinkInForce
      → IsApart u table.Dependency
      → plans_written c change all u ≡ rows_moved change all u
  upper u a b l d = job_other u a change.job noted ∙ meta_other u b change c.sets.bounds c.sets.issued
      c.definitions.options linked
      ∙ links_other u l c.in_force change.in_force (pairs_moved c.pairs change.pairs (rows_moved change all))
      ∙ pairs_other u d c.pairs change.pairs (rows_moved change all)

  whole : (u : Table) → IsApart u table.Job → IsApart u table.Meta → IsApart u table.LinkInForce
      → IsApart u table.Dependency
      → IsApart u table.LongTerm → IsApart u table.Current → IsApart u table.History → IsApart u table.Deletion
      → plans_written c change all u ≡ all u
  whole u a b l d e f g h = upper u a b l d ∙ rows_other u e f g h change all

  module _ (is : IsContentOf all c) (fits : Fits change c) (same : change.definitions ≡ AsBefore)
      (told : IsRepresentableChange change) where
    held : (t : Table) (v : Values) → Shows t (all t) v ↔ IsFact t c v
    held t v = is.facts t v

    definitions : redefined change.definitions c.definitions ≡ c.definitions
    definitions = ap (λ d. redefined d c.definitions) same

    ltp_at : plans_written c change all table.LongTerm ≡ ltp_moved change all table.LongTerm
    ltp_at = upper table.LongTerm refl refl refl refl
        ∙ moved_other table.Deletion table.LongTerm deletion_values deletion_key change.deletions
        (history_moved change (cp_moved change (ltp_moved change all))) refl
        ∙ moved_other table.History table.LongTerm row_values row_key change.history (cp_moved change
        (ltp_moved change all)) refl
        ∙ moved_other table.Current table.LongTerm current_values current_key change.cp (ltp_moved change all) refl

    cp_at : plans_written c change all table.Current ≡ cp_moved change (ltp_moved change all) table.Current
    cp_at = upper table.Current refl refl refl refl
        ∙ moved_other table.Deletion table.Current deletion_values deletion_key change.deletions
        (history_moved change (cp_moved change (ltp_moved change all))) refl
        ∙ moved_other table.History table.Current row_values row_key change.history (cp_moved change
        (ltp_moved change all)) refl

    history_at : plans_written c change all table.History ≡ history_moved change (cp_moved change
        (ltp_moved change all)) table.History
    history_at = upper table.History refl refl refl refl
        ∙ moved_other table.Deletion table.History deletion_values deletion_key change.deletions
        (history_moved change (cp_moved change (ltp_moved change all))) refl

    deletions_at : plans_written c change all table.Deletion ≡ deletions_moved change (history_moved change
        (cp_moved change (ltp_moved change all))) table.Deletion
    deletions_at = upper table.Deletion refl refl refl refl

    -- what a table shows, where the rows are those
    abbrev ShowsAs : Table → List Values → Values → Type 0
    ShowsAs t rows v = Shows t rows v ↔ IsFact t (after change c) v

    on : (t : Table) (rows : List Values) (v : Values) → plans_written c change all t ≡ rows → ShowsAs t rows v
        → ShowsAs t (plans_written c change all t) v
    on t rows v e h = subst (λ r. ShowsAs t r v) (sym e) h

    -- those before, where these tables have not changed
    still : (t : Table) (more : Tables) → more t ≡ all t → (v : Values) → Shows t (more t) v ↔ IsFact t c v
    still t more e v = subst (λ r. Shows t r v ↔ IsFact t c v) (sym e) (held t v)

    ltp_facts : (v : Values) → ShowsAs table.LongTerm (plans_written c change all table.LongTerm) v
    ltp_facts v = on table.LongTerm (ltp_moved change all table.LongTerm) v ltp_at
        (set_moved of_row change.ltp c.sets.ltp fits.ltp is.representable.ltp table.LongTerm row_values row_key
        (λ x y. number_told (λ (r : Row). r.serial) x y true) (λ x y. number_tells (λ
        (r : Row). r.serial) x y true refl) row_shows all
        (held table.LongTerm) v)

    cp_facts : (v : Values) → ShowsAs table.Current (plans_written c change all table.Current) v
    cp_facts v = on table.Current (cp_moved change (ltp_moved change all) table.Current) v cp_at
        (set_moved of_current change.cp c.sets.cp fits.cp is.representable.cp table.Current current_values current_key
        (λ x y. number_told (λ (r : CurrentRow). r.row.serial) x y true) (λ x y. number_tells (λ
        (r : CurrentRow). r.row.serial) x y true refl) current_shows
        (ltp_moved change all) (still table.Current (ltp_moved change all)
        (moved_other table.LongTerm table.Current row_values row_key change.ltp all refl)) v)

    history_facts : (v : Values) → ShowsAs table.History (plans_written c change all table.History) v
    history_facts v = on table.History (history_moved change (cp_moved change
        (ltp_moved change all)) table.History) v history_at
        (set_moved of_row change.history c.sets.history fits.history is.representable.history table.History row_values
        row_key
        (λ x y. number_told (λ (r : Row). r.serial) x y true) (λ x y. number_tells (λ
        (r : Row). r.serial) x y true refl) history_shows
        (cp_moved change (ltp_moved change all)) (still table.History (cp_moved change (ltp_moved change all))
        (moved_other table.Current table.History current_values current_key change.cp (ltp_moved change all) refl
        ∙ moved_other table.LongTerm table.History row_values row_key change.ltp all refl)) v)

    deletion_facts : (v : Values) → ShowsAs table.Deletion (plans_written c change all table.Deletion) v
    deletion_facts v = on table.Deletion (deletions_moved change (history_moved change (cp_moved change
        (ltp_moved change all))) table.Deletion) v deletions_at
        (set_moved of_deletion change.deletions c.sets.deletions fits.deletions is.representable.deletions
        table.Deletion deletion_values deletion_key
        (λ x y. number_told (λ (r : Deletion). r.row.serial) x y true) (λ x y. number_tells (λ
        (r : Deletion). r.row.serial) x y true refl) deletion_shows
        (history_moved change (cp_moved change (ltp_moved change all))) (still table.Deletion
        (history_moved change (cp_moved change (ltp_moved change all)))
        (moved_other table.History table.Deletion row_values row_key change.history (cp_moved change
        (ltp_moved change all)) refl
        ∙ moved_other table.Current table.Deletion current_values current_key change.cp (ltp_moved change all) refl
        ∙ moved_other table.LongTerm table.Deletion row_values row_key change.ltp all refl)) v)

    -- ---- pairs, links, jobs, bounds

    pair_facts : (v : Values) → ShowsAs table.Dependency (plans_written c change all table.Dependency) v
    pair_facts v = on table.Dependency (pairs_moved c.pairs change.pairs (rows_moved change all) table.Dependency) v
        (job_other table.Dependency refl change.job noted
        ∙ meta_other table.Dependency refl change c.sets.bounds c.sets.issued c.definitions.options linked
        ∙ links_other table.Dependency refl c.in_force change.in_force (pairs_moved c.pairs change.pairs
        (rows_moved change all)))
        (pairs_shown change.pairs c.pairs (rows_moved change all)
        (still table.Dependency (rows_moved change all) (rows_other table.Dependency refl refl refl refl change all)) v)

    link_rows : pairs_moved c.pairs change.pairs (rows_moved change all) table.LinkInForce ≡ all table.LinkInForce
    link_rows = pairs_other table.LinkInForce refl c.pairs change.pairs (rows_moved change all)
        ∙ rows_other table.LinkInForce refl refl refl refl change all

    link_facts_by : (new : Option NewLists) (v : Values)
        → Shows table.LinkInForce (links_moved c.in_force new (pairs_moved c.pairs change.pairs
        (rows_moved change all)) table.LinkInForce) v
        ↔ IsOfList link_values (lists_after new c.in_force) v
    link_facts_by None v = still table.LinkInForce (pairs_moved c.pairs change.pairs (rows_moved change all)) link_rows v
    link_facts_by (Some new) v = links_shown c.in_force (lists_after (Some new) c.in_force)
        is.representable.in_force (pairs_moved c.pairs change.pairs (rows_moved change all))
        (still table.LinkInForce (pairs_moved c.pairs change.pairs (rows_moved change all)) link_rows) v

    link_facts : (v : Values) → ShowsAs table.LinkInForce (plans_written c change all table.LinkInForce) v
    link_facts v = on table.LinkInForce (linked table.LinkInForce) v
        (job_other table.LinkInForce refl change.job noted
        ∙ meta_other table.LinkInForce refl change c.sets.bounds c.sets.issued c.definitions.options linked)
        (link_facts_by change.in_force v)

    linked_other : (u : Table) → IsApart u table.LinkInForce → IsApart u table.Dependency → IsApart u table.LongTerm
        → IsApart u table.Current → IsApart u table.History → IsApart u table.Deletion → linked u ≡ all u
    linked_other u l d e f g h = links_other u l c.in_force change.in_force (pairs_moved c.pairs change.pairs
        (rows_moved change all))
        ∙ pairs_other u d c.pairs change.pairs (rows_moved change all) ∙ rows_other u e f g h change all

    job_rows : noted table.Job ≡ all table.Job
    job_rows = meta_other table.Job refl change c.sets.bounds c.sets.issued c.definitions.options linked
        ∙ linked_other table.Job refl refl refl refl refl refl

    job_facts_by : (job : Option Job) → ((j : Job) → job ≡ Some j → c.jobs j.number ≡ None) → (v : Values)
        → Shows table.Job (job_kept job noted table.Job) v ↔ IsOfSet job_values (jobs_after job c.jobs) v
    job_facts_by None new v = still table.Job noted job_rows v
    job_facts_by (Some job) new v = job_shown job c.jobs noted (new job refl) (still table.Job noted job_rows) v

    job_facts : (v : Values) → ShowsAs table.Job (plans_written c change all table.Job) v
    job_facts v = job_facts_by change.job fits.job v

    meta_rows : linked table.Meta ≡ all table.Meta
    meta_rows = linked_other table.Meta refl refl refl refl refl refl

    -- nothing of it changes
    no_new : (bounds : Option Bounds) (issued : Option ℕ) → (is_some bounds || is_some issued) ≡ false
        → meta_values (or_else bounds c.sets.bounds) (unwrap_or issued c.sets.issued) c.definitions.options
        ≡ meta_values c.sets.bounds c.sets.issued c.definitions.options
    no_new None None e = refl
    no_new None (Some n) e = absurd (false≢true (sym e))
    no_new (Some b) issued e = absurd (false≢true (sym e))

    meta_facts_by : (b : Bool) → (is_some change.bounds || is_some change.issued) ≡ b → (v : Values)
        → Shows table.Meta ((if b then meta_told (or_else change.bounds c.sets.bounds)
        (unwrap_or change.issued c.sets.issued)
        c.definitions.options linked else linked) table.Meta) v
        ↔ (v ≡ meta_values (or_else change.bounds c.sets.bounds)
        (unwrap_or change.issued c.sets.issued) c.definitions.options)
    meta_facts_by true e v = meta_shown (or_else change.bounds c.sets.bounds)
        (unwrap_or change.issued c.sets.issued) c.definitions.options
        (meta_values c.sets.bounds c.sets.issued c.definitions.options) linked
        (meta_key c.sets.bounds c.sets.issued c.definitions.options)
        (still table.Meta linked meta_rows) v
    meta_facts_by false e v =
        let h = still table.Meta linked meta_rows v in
        let k = no_new change.bounds change.issued e in
        ((λ there. h.0 there ∙ sym k), λ at. h.1 (at ∙ k))

    meta_facts : (v : Values) → ShowsAs table.Meta (plans_written c change all table.Meta) v
    meta_facts v = subst (λ (d : Definitions). Shows table.Meta (plans_written c change all table.Meta) v
        ↔ (v ≡ meta_values (or_else change.bounds c.sets.bounds)
        (unwrap_or change.issued c.sets.issued) d.options)) (sym definitions)
        (subst (λ r. Shows table.Meta r v ↔ (v ≡ meta_values (or_else change.bounds c.sets.bounds)
        (unwrap_or change.issued c.sets.issued) c.definitions.options))
        (sym (job_other table.Meta refl change.job noted)) (meta_facts_by
        (is_some change.bounds || is_some change.issued) refl v))

    -- ---- all tables

    abbrev defined : Definitions → Content
    defined d = record {
      definitions = d;
      sets = (after change c).sets;
      in_force = (after change c).in_force;
      pairs = (after change c).pairs;
      jobs = (after change c).jobs;
    }

    kept : (t : Table) (v : Values) → plans_written c change all t ≡ all t
        → (IsFact t c v ≡ IsFact t (defined c.definitions) v)
        → ShowsAs t (plans_written c change all t) v
    kept t v e f = on t (all t) v e (subst (λ (d : Definitions). Shows t (all t) v ↔ IsFact t (defined d) v)
        (sym definitions)
        (subst (λ P. Shows t (all t) v ↔ P) f (held t v)))

    all_facts : (t : Table) (v : Values) → ShowsAs t (plans_written c change all t) v
    all_facts table.Meta v = meta_facts v
    all_facts table.LinkInForce v = link_facts v
    all_facts table.LongTerm v = ltp_facts v
    all_facts table.Current v = cp_facts v
    all_facts table.History v = history_facts v
    all_facts table.Deletion v = deletion_facts v
    all_facts table.Dependency v = pair_facts v
    all_facts table.Job v = job_facts v
    all_facts t v = kept t v (whole t refl refl refl refl refl refl
        refl refl) refl

    jobs_own : (job : Option Job) → IsUnderOwn (λ (j : Job). j.number) (jobs_after job c.jobs)
    jobs_own None n j e = is.representable.jobs n j e
    jobs_own (Some job) n j e = go (nat_eq job.number n) refl e
      where
        go : (b : Bool) → nat_eq job.number n ≡ b → cond b (Some job) (c.jobs n) ≡ Some j → j.number ≡ n
        go true at f = ap (λ (k : Job). k.number) (sym (same_some job j f)) ∙ eqb-true job.number n at
        go false at f = is.representable.jobs n j f

    answers_small : (job : Option Job) → IfSome job (λ (j : Job). IsSmall j.reply) → (n : ℕ) (j : Job)
        → jobs_after job c.jobs n ≡ Some j → IsSmall j.reply
    answers_small None small n j e = is.representable.answers n j e
    answers_small (Some job) small n j e = go (nat_eq job.number n) e
      where
        go : (b : Bool) → cond b (Some job) (c.jobs n) ≡ Some j → IsSmall j.reply
        go true f = subst (λ (k : Job). IsSmall k.reply) (same_some job j f) small
        go false f = is.representable.answers n j f

    representable : IsRepresentable (after change c)
    representable = record {
      calendars = subst (λ (d : Definitions). AreEach IsTold d.calendars) (sym definitions) is.representable.calendars;
      periods = subst (λ (d : Definitions). AreEach HasEntry d.periods) (sym definitions) is.representable.periods;
      run_cycles = subst (λ (d : Definitions). AreEach (IsNamed (λ (x : RunCycle). x.name)) d.run_cycles)
          (sym definitions) is.representable.run_cycles;
      predecessors = subst (λ (d : Definitions). AreEach (IsNamed (λ (p : Predecessor). p.name)) d.predecessors)
          (sym definitions) is.representable.predecessors;
      ltp = moved_own of_row change.ltp c.sets.ltp fits.ltp is.representable.ltp;
      cp = moved_own of_current change.cp c.sets.cp fits.cp is.representable.cp;
      history = moved_own of_row change.history c.sets.history fits.history is.representable.history;
      deletions = moved_own of_deletion change.deletions c.sets.deletions fits.deletions is.representable.deletions;
      in_force = told.links c.in_force is.representable.in_force;
      pairs = pairs_after_rising change.pairs c.pairs is.representable.pairs;
      jobs = jobs_own change.job;
      answers = answers_small change.job told.job;
    }

    pub plans_after : IsContentOf (plans_written c change all) (after change c)
    plans_after = record { representable = representable; facts = all_facts }
