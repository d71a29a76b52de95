-- A change that fits a content is taken by its tables, where they have room and the content after it is sound.
use Rattle.std.proofs.Common.{◌≡◌, ◌↔◌, ◌≤◌, ◌<◌, ◌^◌, ◌∙◌, ◌||◌, ℕ, Bool, true, false, cond, List, [], ◌∷◌, length}
use Rattle.std.proofs.Common.{filter, get_or, inl, inr, refl, sym, ap, subst, Option, Some, None, arith}
use Rattle.std.specs.Prelude.{⊤, IfSome, pos, is_some, unwrap_or, MatchBool}
use Rattle.std.specs.List.{AllPairs, Contains}
use Rattle.std.proofs.lemmas.Bool.{and_from, eq-eqb, false≢true}
use Rattle.std.proofs.lemmas.Cmp.{tied_itself}
use Rattle.std.proofs.lemmas.List.Kept.{AllPairs-filter}
use Rattle.sqlite.specs.Order.{Row as Values, column}
use Rattle.work_calendars.specs.Name.{IsName}
use Rattle.app_definitions.specs.declared.options.Options.{Options}
use Rattle.app_definitions.specs.declared.kinds.Block.{Block}
use Rattle.app_definitions.specs.declared.kinds.Block.TheVariants as block
use Rattle.app_definitions.specs.declared.kinds.Kind.{Kind}
use Rattle.app_definitions.specs.declared.kinds.Kind.TheVariants as kind
use Rattle.occurrences.specs.declared.place.CurrentRow.{CurrentRow}
use Rattle.occurrences.specs.declared.place.Deletion.{Deletion}
use Rattle.occurrences.specs.declared.row.Row.{Row}
use Rattle.external_dependencies.specs.Link.{HaveSameNames, link_cmp}
use Rattle.external_dependencies.specs.Pair.{pair_cmp}
use Rattle.external_dependencies.specs.Rising.{IsRising}
use Rattle.external_dependencies.specs.declared.change.PairChange.{PairChange}
use Rattle.external_dependencies.specs.declared.links.Link.{Link}
use Rattle.external_dependencies.specs.declared.pairs.Pair.{Pair}
use Rattle.external_dependencies.proofs.OrderLemmas.{less_not_equal, named_once, names_tie}
use Rattle.planner_machine.specs.Content.{Content}
use Rattle.planner_machine.specs.Moves.{or_else}
use Rattle.planner_machine.specs.Sound.{AreDefinitions, IsLink, IsSound}
use Rattle.planner_machine.specs.declared.content.Bounds.{Bounds}
use Rattle.planner_machine.specs.declared.job.Job.{Job}
use Rattle.plan_store_lists.specs.Rows.{of_current, of_deletion, of_row}
use Rattle.plan_store_lists.proofs.KeyLemmas.{contains_filter, contains_first, filter_contains}
use Rattle.plan_tables_schema.specs.Rows.{Tables, with_cells, without_key}
use Rattle.plan_tables_schema.specs.Accepted.{AcceptsRow}
use Rattle.plan_tables_schema.specs.declared.tables.Table.{Table}
use Rattle.plan_tables_schema.specs.declared.tables.Table.TheVariants as table
use Rattle.plan_store.specs.Changes.{Fits, after, is_among, jobs_after, lists_after, redefined}
use Rattle.plan_store.specs.Room.{with_definitions}
use Rattle.plan_store.specs.declared.changes.Change.{Change}
use Rattle.plan_store.specs.declared.changes.DefinitionChange.{DefinitionChange}
use Rattle.plan_store.specs.declared.changes.DefinitionChange.TheVariants.{AsBefore, Merged, Removed}
use Rattle.plan_store.specs.declared.changes.NewLists.{NewLists}
use Rattle.plan_store.specs.declared.changes.NewLists.TheVariants as new_lists
use Rattle.plan_store.proofs.PairLemmas.{pair_total}
use Rattle.run_cycles.specs.declared.cycles.RunCycle.{RunCycle}
use Rattle.app_definition_records.specs.declared.predecessors.Predecessor.{Predecessor}
use Rattle.app_definition_records.specs.ByName.{overlaid}
use Rattle.plan_tables_definitions.specs.Representable.{IsRepresentableBlock}
use Rattle.plan_tables_content.specs.Content.{IsApplicationRow, IsContentOf, IsFact, IsNamed, IsOfList, IsOfSet, IsUnderOwn, job_values, meta_values}
use Rattle.plan_tables_content.specs.Facts.{current_key, current_values, deletion_key, deletion_values, link_key, link_values}
use Rattle.plan_tables_content.specs.Facts.{natural, pair_values, row_key, row_values}
use Rattle.plan_tables_content.specs.Facts.{IsCalendarRow, IsCycleRow, IsOffsetRow, IsPeriodRow, IsPredecessorRow}
use Rattle.plan_tables_content.proofs.SameOptions.{none_some}
use Rattle.plan_tables_writing.specs.Redefining.{AreMovesOf, BringsRows, definitions_moved, kind_of, moved_by, rows_of}
use Rattle.plan_tables_writing.specs.Accepted.{AcceptsChange, AcceptsEach, AcceptsJob, AcceptsKind, AcceptsLinks, AcceptsMeta, AcceptsNewLinks, AcceptsNewMeta, AcceptsPairs}
use Rattle.plan_tables_writing.specs.Accepted.{AcceptsPlans, AcceptsRows}
use Rattle.plan_tables_writing.specs.Writing.{IsRepresentableChange, beside, cp_moved, history_moved, links_moved, ltp_moved}
use Rattle.plan_tables_writing.specs.Writing.{meta_moved, pairs_moved, rows_moved, standing, without_each}
use Rattle.plan_tables_writing.proofs.OneListLemmas.{come_of_list}
use Rattle.plan_tables_writing.proofs.PairLemmas.{is_among-Decides}
use Rattle.plan_tables_writing.specs.declared.redefining.DefinitionMoves.{DefinitionMoves}
use Rattle.plan_tables_writing.proofs.KindLemmas.{job_storable, links_storable, meta_storable, pairs_storable}
use Rattle.plan_tables_constraints.specs.Room.{CanBeStored, HaveRoom}
use Rattle.plan_tables_constraints.specs.Accepted.{FindKind, FindMoves, FindsRoom, FittingIsAccepted, links_brought}
use Rattle.plan_tables_constraints.proofs.ChangeLemmas.{lacked_by, link_among, link_itself, link_lacks, link_shows, meta_key}
use Rattle.plan_tables_constraints.proofs.ChangeLemmas.{pair_itself, pair_shows, pairs_told}
use Rattle.plan_tables_constraints.proofs.ContentAfter.{current_shows, deletion_shows, history_shows, row_shows}
use Rattle.plan_tables_constraints.proofs.ContentAfter.{links_other, meta_other, number_tells, number_told, pairs_other}
use Rattle.plan_tables_constraints.proofs.ContentAfter.{rows_other}
use Rattle.plan_tables_constraints.proofs.ContentAfter.{IsApart, told_other}
use Rattle.plan_tables_constraints.proofs.DefinitionFacts.{cycles_other, redefined_content, renewed_other}
use Rattle.plan_tables_constraints.proofs.EachTaken.{RoomFor, StandBeside, each_taken, no_rows, room_for_one, room_for_rest}
use Rattle.plan_tables_constraints.proofs.EachTaken.{room_without}
use Rattle.plan_tables_constraints.proofs.Held.{Shows, matched, one_text}
use Rattle.plan_tables_constraints.proofs.NameTables.{each_overlaid}
use Rattle.plan_tables_constraints.proofs.NamedTaken.{applications_taken, calendars_taken, cycles_taken, periods_taken}
use Rattle.plan_tables_constraints.proofs.NamedTaken.{found_rows, predecessors_taken}
use Rattle.plan_tables_constraints.proofs.DefinitionCells.{applications_cells, calendars_cells, cycles_cells, offsets_cells}
use Rattle.plan_tables_constraints.proofs.DefinitionCells.{periods_cells}
use Rattle.plan_tables_constraints.proofs.DefinitionCells.{predecessors_cells}
use Rattle.plan_tables_constraints.proofs.MovedSets.{moved_other}
use Rattle.plan_tables_constraints.proofs.FormRows.{HaveSameKey, each_shown, natural_or_null, next_taken, number_cell, text_cell}
use Rattle.plan_tables_constraints.proofs.RowTakes.{HasOtherNumber, job_taken, meta_taken}
use Rattle.plan_tables_constraints.proofs.SetMoves.{at_itself, shows_without}
use Rattle.plan_tables_constraints.proofs.SetsTaken.{cp_one, deletion_one, history_one, ltp_one, moves_taken}

module _ {X : Type 0} where
  filter_short : (p : X → Bool) (xs : List X) → length (filter p xs) ≤ length xs
  filter_short p [] = omega arith
  filter_short p (x ∷ xs) = go (p x) (filter_short p xs)
    where
      go : (b : Bool) → length (filter p xs) ≤ length xs
          → length (cond b (x ∷ filter p xs) (filter p xs)) ≤ length (x ∷ xs)
      go true less = omega (arith, less)
      go false less = omega (arith, less)

-- ---- pairs

abbrev AnyPair : Pair → Type 0
AnyPair p = ⊤

abbrev AreOtherPairs : Pair → Pair → Type 0
AreOtherPairs p q = p ≡ q → ⊥

pairs_apart : (pairs : List Pair) → IsRising pair_cmp pairs → AllPairs AreOtherPairs pairs
pairs_apart pairs rising i j d lt within same =
    less_not_equal (sym (rising i j d lt within) ∙ ap (pair_cmp (get_or pairs i d)) (sym same)
    ∙ tied_itself pair_total (get_or pairs i d))

one_pair : (x : Pair) (xs : List Pair) (now : Tables) → AnyPair x → RoomFor (x ∷ xs) (now table.Dependency)
    → StandBeside table.Dependency pair_values AnyPair AreOtherPairs (x ∷ []) (now table.Dependency)
    → AcceptsRow table.Dependency (pair_values x) now
one_pair x xs now so room beside =
    let (n, le, has) = room_for_one x xs (now table.Dependency) room in
    next_taken table.Dependency refl now n has (pair_values x)
    (number_cell (pos x.successor), (number_cell (pos x.predecessor), tt)) (pairs_storable x) (λ v there same.
    let (y, shows, any, far) = beside v there in
    let cells = subst (λ w. HaveSameKey table.Dependency w (pair_values x)) shows same in
    far x (contains_first x []) (sym (pairs_told x y (and_from _ _ cells.0 (and_from _ _ cells.1.0 refl))))) tt

less_pair : (x : Pair) (xs : List Pair) (now : Tables) → RoomFor (x ∷ xs) (now table.Dependency)
    → RoomFor xs (with_cells table.Dependency (pair_values x) now table.Dependency)
less_pair x xs now room = subst (RoomFor xs) (sym (at_itself table.Dependency _ now))
    (room_for_rest table.Dependency x xs (pair_values x) now room)

pairs_taken : (change : PairChange) (pairs : List Pair) (now : Tables)
    → ((v : Values) → Shows table.Dependency (now table.Dependency) v → IsOfList pair_values pairs v)
    → IsRising pair_cmp change.added → HaveRoom (length change.added) (now table.Dependency)
    → AcceptsPairs pairs change now
pairs_taken change pairs now held rising room = each_taken table.Dependency pair_values AnyPair AreOtherPairs
    (λ xs at. RoomFor xs (at table.Dependency)) (λ p so. pair_shows p) one_pair (λ x xs at so. less_pair x xs at) change.added left (pairs_apart change.added rising) (λ x has. tt) (
      length change.added,
      omega arith,
      room_without (length change.added) table.Dependency pair_values (standing pairs change.added) bare
          (room_without (length change.added) table.Dependency pair_values change.removed now room),
    ) beside_these
  where
    bare : Tables
    bare = without_each table.Dependency pair_values change.removed now

    left : Tables
    left = without_each table.Dependency pair_values (standing pairs change.added) bare

    beside_these : StandBeside table.Dependency pair_values AnyPair AreOtherPairs change.added
        (left table.Dependency)
    beside_these v there =
        let k = (shows_without table.Dependency pair_values (standing pairs change.added) bare v).0 there in
        let h = (shows_without table.Dependency pair_values change.removed now v).0 k.0 in
        let (p, has, shows) = held v h.0 in (
          p,
          shows,
          tt,
          λ x among same.
              let stands = (is_among-Decides pairs x).1 (subst (Contains pairs) same has) in
              let taken = filter_contains (is_among pairs) change.added x among stands in
              false≢true (sym (k.1 x taken) ∙ ap (matched table.Dependency (pair_values x)) (shows ∙ ap pair_values same)
              ∙ pair_itself x),
        )

-- ---- links

module _ (old new : List Link) (rising : IsRising link_cmp new) (are : (l : Link) → Contains new l → IsLink l) where
  abbrev IsNew : Link → Type 0
  IsNew l = Contains new l

  abbrev HaveOtherNames : Link → Link → Type 0
  HaveOtherNames l m = HaveSameNames l m → ⊥

  links_apart : AllPairs HaveOtherNames (beside old new)
  links_apart = AllPairs-filter HaveOtherNames (lacked_by old) new
      (λ i j d lt within same. less_not_equal (sym (rising i j d lt within) ∙ names_tie (get_or new i d) (get_or new j d)
      same))

  one_link : (x : Link) (xs : List Link) (now : Tables) → IsNew x → RoomFor (x ∷ xs) (now table.LinkInForce)
      → StandBeside table.LinkInForce link_values IsNew HaveOtherNames (x ∷ []) (now table.LinkInForce)
      → AcceptsRow table.LinkInForce (link_values x) now
  one_link x xs now so room beside =
      let (n, le, has) = room_for_one x xs (now table.LinkInForce) room in
      next_taken table.LinkInForce refl now n has (link_values x) (
        text_cell x.app (omega (arith, (are x so).0.fits)),
        (text_cell x.predecessor (omega (arith, (are x so).1.fits)), (natural_or_null x.within, tt)),
      ) (links_storable x) (λ v there same.
      let (y, shows, any, far) = beside v there in
      let cells = subst (λ w. HaveSameKey table.LinkInForce w (link_values x)) shows same in
      far x (contains_first x [])
      (one_text y.app x.app cells.0, one_text y.predecessor x.predecessor cells.1.0)) tt

  less_link : (x : Link) (xs : List Link) (now : Tables) → RoomFor (x ∷ xs) (now table.LinkInForce)
      → RoomFor xs (with_cells table.LinkInForce (link_values x) now table.LinkInForce)
  less_link x xs now room = subst (RoomFor xs) (sym (at_itself table.LinkInForce _ now))
      (room_for_rest table.LinkInForce x xs (link_values x) now room)

  new_links_taken : (now : Tables)
      → ((v : Values) → Shows table.LinkInForce (now table.LinkInForce) v → IsOfList link_values old v)
      → (count : ℕ) → length (beside old new) ≤ count → HaveRoom count (now table.LinkInForce)
      → AcceptsNewLinks old new now
  new_links_taken now held count few room = each_taken table.LinkInForce link_values IsNew HaveOtherNames
      (λ xs at. RoomFor xs (at table.LinkInForce)) (λ l so. link_shows l) one_link (λ x xs at so. less_link x xs at) (beside old new) left links_apart
      (λ x has. (contains_filter (lacked_by old) new x has).0) (
        count,
        few,
        room_without count table.LinkInForce link_key (beside new old) now room,
      ) beside_these
    where
      left : Tables
      left = without_each table.LinkInForce link_key (beside new old) now

      beside_these : StandBeside table.LinkInForce link_values IsNew HaveOtherNames (beside old new)
          (left table.LinkInForce)
      beside_these v there =
          let k = (shows_without table.LinkInForce link_key (beside new old) now v).0 there in
          let (l, has, shows) = held v k.0 in
          let stays : Contains new l = elim (link_among new l) [
            | inl among ↦ among
            | inr lacks ↦ absurd (false≢true (sym (k.1 l (filter_contains (lacked_by new) old l has lacks))
                ∙ ap (matched table.LinkInForce (link_key l)) shows ∙ link_itself l))
          ] in (
            l,
            shows,
            stays,
            λ x among same.
                let comes = contains_filter (lacked_by old) new x among in
                link_lacks old x comes.1
                (subst (Contains old) (named_once new rising l x stays comes.0 same) has),
          )

-- no more links come than the new lists bring
few_come : (old : List Link) (new : NewLists) → IsRising link_cmp old
    → length (beside old (lists_after (Some new) old)) ≤ length (links_brought new)
few_come old (new_lists.All lists) rising = filter_short (lacked_by old) lists.items
few_come old (new_lists.One list) rising =
    omega (arith, ap length (come_of_list old list rising), filter_short (lacked_by old) list.links.items)

links_taken : (old : List Link) (new : Option NewLists) → IsRising link_cmp old
    → IsRising link_cmp (lists_after new old) → ((l : Link) → Contains (lists_after new old) l → IsLink l)
    → (now : Tables) → ((v : Values) → Shows table.LinkInForce (now table.LinkInForce) v → IsOfList link_values old v)
    → IfSome new (λ (lists : NewLists). HaveRoom (length (links_brought lists)) (now table.LinkInForce))
    → AcceptsLinks old new now
links_taken old None was rising are now held room = tt
links_taken old (Some new) was rising are now held room = new_links_taken old (lists_after (Some new) old) rising are now
    held (length (links_brought new)) (few_come old new was) room

-- ---- how far the plans reach, and a job

meta_row_taken : (bounds : Option Bounds) (issued : ℕ) (options : Options) → IsName options.default_calendar
    → (now : Tables) (was : Values) → matched table.Meta (natural 1 ∷ []) was ≡ true
    → ((v : Values) → Shows table.Meta (now table.Meta) v → v ≡ was) → AcceptsMeta bounds issued options now
meta_row_taken bounds issued options named now was key held =
    meta_taken (without_key table.Meta (natural 1 ∷ []) now) bounds issued options named
    (meta_storable bounds issued options) (no_rows table.Meta _ (λ v there.
    let k = (shows_without table.Meta (λ (u : Unit {0}). natural 1 ∷ []) (tt ∷ []) now v).0 there in
    false≢true (sym (k.1 tt (contains_first tt [])) ∙ ap (matched table.Meta (natural 1 ∷ [])) (held v k.0)
    ∙ key)))

new_meta_taken : (change : Change) (bounds : Option Bounds) (issued : ℕ) (options : Options)
    → IsName options.default_calendar → (now : Tables) (was : Values) → matched table.Meta (natural 1 ∷ []) was ≡ true
    → ((v : Values) → Shows table.Meta (now table.Meta) v → v ≡ was) → AcceptsNewMeta change bounds issued options now
new_meta_taken change bounds issued options named now was key held = go (is_some change.bounds || is_some change.issued)
  where
    go : (b : Bool) → MatchBool b (AcceptsMeta (or_else change.bounds bounds)
        (unwrap_or change.issued issued) options now) ⊤
    go true = meta_row_taken (or_else change.bounds bounds) (unwrap_or change.issued issued) options named now was key
        held
    go false = tt

new_job_taken : (job : Option Job) (jobs : ℕ → Option Job) → IsUnderOwn (λ (j : Job). j.number) jobs
    → IfSome job (λ (j : Job). (jobs j.number ≡ None) × (j.number < 2 ^ 63)) → IfSome job CanBeStored
    → (now : Tables) → ((v : Values) → Shows table.Job (now table.Job) v → IsOfSet job_values jobs v) → AcceptsJob job now
new_job_taken None jobs own is short now held = tt
new_job_taken (Some job) jobs own is short now held =
    job_taken now job is.1 short (job_storable job) (each_shown (HasOtherNumber job.number) table.Job (now table.Job)
    (λ v there.
    let (n, j, at, shows) = held v there in (
      j.number,
      ap (λ (w : Values). column w 0) shows,
      λ same. none_some (jobs job.number) j is.0 (ap jobs (sym same ∙ own n j at) ∙ at),
    )))

-- ---- the whole

module _ (c : Content) (change : Change) (all : Tables) (is : IsContentOf all c) (fits : Fits change c)
    (sound : IsSound (after change c)) (told : IsRepresentableChange change) where
  abbrev rows : Tables
  rows = rows_moved change all

  abbrev paired : Tables
  paired = pairs_moved c.pairs change.pairs rows

  abbrev linked : Tables
  linked = links_moved c.in_force change.in_force paired

  abbrev noted : Tables
  noted = meta_moved change c.sets.bounds c.sets.issued c.definitions.options linked

  -- what a table shows that has not changed yet
  held : (t : Table) (now : Tables) → now t ≡ all t → (v : Values) → Shows t (now t) v ↔ IsFact t c v
  held t now same v = subst (λ r. Shows t r v ↔ IsFact t c v) (sym same) (is.facts t v)

  rows_taken : AcceptsRows change all
  rows_taken = (
    moves_taken of_row change.ltp c.sets.ltp fits.ltp is.representable.ltp table.LongTerm row_values row_key
        (λ x y. number_told (λ (r : Row). r.serial) x y true)
        (λ x y. number_tells (λ (r : Row). r.serial) x y true refl) row_shows all (held table.LongTerm all refl)
        (λ x now so beside. ltp_one (after change c) sound now x so beside),
    moves_taken of_current change.cp c.sets.cp fits.cp is.representable.cp table.Current current_values current_key
        (λ x y. number_told (λ (r : CurrentRow). r.row.serial) x y true)
        (λ x y. number_tells (λ (r : CurrentRow). r.row.serial) x y true refl) current_shows (ltp_moved change all)
        (held table.Current (ltp_moved change all)
        (moved_other table.LongTerm table.Current row_values row_key change.ltp all refl))
        (λ x now so beside. cp_one (after change c) sound now x so beside),
    moves_taken of_row change.history c.sets.history fits.history is.representable.history table.History row_values
        row_key (λ x y. number_told (λ (r : Row). r.serial) x y true)
        (λ x y. number_tells (λ (r : Row). r.serial) x y true refl) history_shows
        (cp_moved change (ltp_moved change all)) (held table.History (cp_moved change (ltp_moved change all))
        (moved_other table.Current table.History current_values current_key change.cp (ltp_moved change all) refl
        ∙ moved_other table.LongTerm table.History row_values row_key change.ltp all refl))
        (λ x now so beside. history_one (after change c) sound now x so beside),
    moves_taken of_deletion change.deletions c.sets.deletions fits.deletions is.representable.deletions table.Deletion
        deletion_values deletion_key (λ x y. number_told (λ (r : Deletion). r.row.serial) x y true)
        (λ x y. number_tells (λ (r : Deletion). r.row.serial) x y true refl) deletion_shows
        (history_moved change (cp_moved change (ltp_moved change all)))
        (held table.Deletion (history_moved change (cp_moved change (ltp_moved change all)))
        (moved_other table.History table.Deletion row_values row_key change.history (cp_moved change
        (ltp_moved change all)) refl
        ∙ moved_other table.Current table.Deletion current_values current_key change.cp (ltp_moved change all) refl
        ∙ moved_other table.LongTerm table.Deletion row_values row_key change.ltp all refl))
        (λ x now so beside. deletion_one (after change c) sound now x so beside),
  )

  new_job : (o : Option Job) → change.job ≡ o
      → IfSome o (λ (job : Job). (c.jobs job.number ≡ None) × (job.number < 2 ^ 63))
  new_job None e = tt
  new_job (Some job) e =
      let kept : jobs_after change.job c.jobs job.number ≡ Some job =
      subst (λ o. jobs_after o c.jobs job.number ≡ Some job) (sym e)
      (ap (λ b. cond b (Some job) (c.jobs job.number)) (eq-eqb job.number job.number refl)) in
      let sized = (sound.jobs job.number job kept).greatest in
      (fits.job job e, omega (arith, sized))

  module _ (same : change.definitions ≡ AsBefore) (rising : IsRising pair_cmp change.pairs.added)
      (room : FindsRoom change all) where
    named : IsName c.definitions.options.default_calendar
    named = subst (λ d. IsName (redefined d c.definitions).options.default_calendar) same
        sound.ranges.definitions.default_calendar

    pub plans_taken : AcceptsPlans c change all
    plans_taken = (
      rows_taken,
      pairs_taken change.pairs c.pairs rows (λ v. (held table.Dependency rows at_pairs v).0) rising
          (subst (HaveRoom (length change.pairs.added)) (sym at_pairs) room.pairs),
      links_taken c.in_force change.in_force is.representable.in_force
          (told.links c.in_force is.representable.in_force) sound.ranges.links paired
          (λ v. (held table.LinkInForce paired at_links v).0)
          (subst (λ r. IfSome change.in_force (λ (lists : NewLists). HaveRoom (length (links_brought lists)) r))
          (sym at_links) room.links),
      new_meta_taken change c.sets.bounds c.sets.issued c.definitions.options named linked
          (meta_values c.sets.bounds c.sets.issued c.definitions.options)
          (meta_key c.sets.bounds c.sets.issued c.definitions.options)
          (λ v. (held table.Meta linked at_meta v).0),
      new_job_taken change.job c.jobs is.representable.jobs (new_job change.job refl) room.job noted
          (λ v. (held table.Job noted at_jobs v).0),
    )
      where
        at_pairs : rows table.Dependency ≡ all table.Dependency
        at_pairs = rows_other table.Dependency refl refl refl refl change all

        at_links : paired table.LinkInForce ≡ all table.LinkInForce
        at_links = pairs_other table.LinkInForce refl c.pairs change.pairs rows
            ∙ rows_other table.LinkInForce refl refl refl refl change all

        at_meta : linked table.Meta ≡ all table.Meta
        at_meta = links_other table.Meta refl c.in_force change.in_force paired
            ∙ pairs_other table.Meta refl c.pairs change.pairs rows ∙ rows_other table.Meta refl refl refl refl change all

        at_jobs : noted table.Job ≡ all table.Job
        at_jobs = meta_other table.Job refl change c.sets.bounds c.sets.issued c.definitions.options linked
            ∙ links_other table.Job refl c.in_force change.in_force paired
            ∙ pairs_other table.Job refl c.pairs change.pairs rows ∙ rows_other table.Job refl refl refl refl change all

-- ---- definitions

none_each : (t : Table) (come : List Values) → come ≡ [] → (all : Tables) → AcceptsEach t rows_of come all
none_each t come none all = subst (λ (xs : List Values). AcceptsEach t rows_of xs all) (sym none) tt

module _ (bounds : Option Bounds) (issued : ℕ) (options : Options) (moves : DefinitionMoves) (all : Tables) where
  -- tables that are none of definitions
  kind_other : (u : Table) → IsApart u table.Application → IsApart u table.CalendarEntry → IsApart u table.Period
      → IsApart u table.Predecessor → IsApart u table.RunCycle → IsApart u table.Offset → IsApart u table.Meta
      → (k : Option Kind) → moved_by k bounds issued options moves all u ≡ all u
  kind_other u a b c d e f g None = refl
  kind_other u a b c d e f g (Some kind.Applications) =
      renewed_other table.Application u a moves.names.items moves.rows.items all
  kind_other u a b c d e f g (Some kind.Calendars) =
      renewed_other table.CalendarEntry u b moves.names.items moves.rows.items all
  kind_other u a b c d e f g (Some kind.Periods) =
      renewed_other table.Period u c moves.names.items moves.rows.items all
  kind_other u a b c d e f g (Some kind.Predecessors) =
      renewed_other table.Predecessor u d moves.names.items moves.rows.items all
  kind_other u a b c d e f g (Some kind.RunCycles) =
      cycles_other moves.names.items moves.rows.items moves.offsets.items all u e f
  kind_other u a b c d e f g (Some kind.Options) = told_other u g bounds issued options all

  module _ (meta : AcceptsMeta bounds issued options all) where
    removed_taken : (k : Kind) → moves.rows.items ≡ [] → moves.offsets.items ≡ []
        → AcceptsKind (Some k) bounds issued options moves all
    removed_taken kind.Applications none no_offsets = none_each table.Application moves.rows.items none _
    removed_taken kind.Calendars none no_offsets = none_each table.CalendarEntry moves.rows.items none _
    removed_taken kind.Periods none no_offsets = none_each table.Period moves.rows.items none _
    removed_taken kind.Predecessors none no_offsets = none_each table.Predecessor moves.rows.items none _
    removed_taken kind.RunCycles none no_offsets =
        (none_each table.RunCycle moves.rows.items none _, none_each table.Offset moves.offsets.items no_offsets _)
    removed_taken kind.Options none no_offsets = meta

module _ (all : Tables) (c : Content) (change : Change) (is : IsContentOf all c) (fits : Fits change c)
    (sound : IsSound (after change c)) (told : IsRepresentableChange change)
    (rising : IsRising pair_cmp change.pairs.added) (room : FindsRoom change all) (moves : DefinitionMoves) where
  abbrev options : Options
  options = (redefined change.definitions c.definitions).options

  abbrev rest : Change
  rest = record change { definitions = AsBefore }

  abbrev now : Content
  now = with_definitions (redefined change.definitions c.definitions) c

  abbrev written_so : Tables
  written_so = definitions_moved c.sets.bounds c.sets.issued options moves all

  held_by : (t : Table) (v : Values) → Shows t (all t) v ↔ IsFact t c v
  held_by t v = is.facts t v

  meta : AcceptsMeta c.sets.bounds c.sets.issued options all
  meta = meta_row_taken c.sets.bounds c.sets.issued options sound.ranges.definitions.default_calendar all
      (meta_values c.sets.bounds c.sets.issued c.definitions.options)
      (meta_key c.sets.bounds c.sets.issued c.definitions.options) (λ v. (is.facts table.Meta v).0)

  -- of one kind
  block_taken : (b : Block) → AreDefinitions (redefined (Merged b) c.definitions) → BringsRows b moves
      → IsRepresentableBlock b → FindKind (kind_of b) moves all
      → AcceptsKind (Some (kind_of b)) c.sets.bounds c.sets.issued options moves all
  block_taken (block.Applications more) sounds are representable found =
      let old = c.definitions.applications in
      applications_taken moves.names.items moves.rows.items all old more are (held_by table.Application)
      (found_rows table.Application IsApplicationRow old more moves.names.items moves.rows.items all are
      (applications_cells (overlaid old more) sounds.applications) found)
  block_taken (block.Calendars more) sounds are representable found =
      let old = c.definitions.calendars in
      calendars_taken moves.names.items moves.rows.items all old more are (held_by table.CalendarEntry)
      (found_rows table.CalendarEntry IsCalendarRow old more moves.names.items moves.rows.items all are
      (calendars_cells (overlaid old more) sounds.calendars) found)
  block_taken (block.Periods more) sounds are representable found =
      let old = c.definitions.periods in
      periods_taken moves.names.items moves.rows.items all old more are (held_by table.Period)
      (found_rows table.Period IsPeriodRow old more moves.names.items moves.rows.items all are
      (periods_cells (overlaid old more) sounds.periods) found)
  block_taken (block.Predecessors more) sounds are representable found =
      let old = c.definitions.predecessors in
      predecessors_taken moves.names.items moves.rows.items all old more (each_overlaid (IsNamed (λ (p : Predecessor). p.name)) old
      more is.representable.predecessors representable) are (held_by table.Predecessor)
      (found_rows table.Predecessor IsPredecessorRow old more moves.names.items moves.rows.items all are
      (predecessors_cells (overlaid old more) sounds.predecessors) found)
  block_taken (block.RunCycles more) sounds are representable found =
      let old = c.definitions.run_cycles in
      cycles_taken moves all old more
      (each_overlaid (IsNamed (λ (cycle : RunCycle). cycle.name)) old more is.representable.run_cycles representable) are.0 are.1
      (held_by table.RunCycle) (held_by table.Offset)
      (found_rows table.RunCycle IsCycleRow old more moves.names.items moves.rows.items all are.0
      (cycles_cells (overlaid old more) sounds.run_cycles) found.0)
      (found_rows table.Offset IsOffsetRow old more moves.names.items moves.offsets.items all are.1
      (offsets_cells (overlaid old more) sounds.run_cycles) found.1)
  block_taken (block.Options given) sounds are representable found = meta

  kind_taken : (d : DefinitionChange) → AreDefinitions (redefined d c.definitions) → AreMovesOf d moves
      → FindMoves d moves all → AcceptsKind moves.kind c.sets.bounds c.sets.issued options moves all
  kind_taken AsBefore sounds none found =
      subst (λ (k : Option Kind). AcceptsKind k c.sets.bounds c.sets.issued options moves all) (sym none) tt
  kind_taken (Merged b) sounds (at, are, representable) found =
      subst (λ (k : Option Kind). AcceptsKind k c.sets.bounds c.sets.issued options moves all) (sym at)
      (block_taken b sounds are representable found)
  kind_taken (Removed k name) sounds (at, one, none, no_offsets) found =
      subst (λ (o : Option Kind). AcceptsKind o c.sets.bounds c.sets.issued options moves all) (sym at)
      (removed_taken c.sets.bounds c.sets.issued options moves all meta k none no_offsets)

  other : (u : Table) → IsApart u table.Application → IsApart u table.CalendarEntry → IsApart u table.Period
      → IsApart u table.Predecessor → IsApart u table.RunCycle → IsApart u table.Offset → IsApart u table.Meta
      → written_so u ≡ all u
  other u a b d e f g h = kind_other c.sets.bounds c.sets.issued options moves all u a b d e f g h moves.kind

  moves_taken_all : AreMovesOf change.definitions moves → FindMoves change.definitions moves all
      → AcceptsChange now moves change all
  moves_taken_all are found = (
    kind_taken change.definitions sound.ranges.definitions are found,
    plans_taken now rest written_so (redefined_content c all is change.definitions moves are)
        (record { ltp = fits.ltp; cp = fits.cp; history = fits.history; deletions = fits.deletions; job = fits.job })
        sound (record { links = told.links; job = told.job }) refl rising
        (record {
          rows = λ none moved. tt;
          pairs = subst (HaveRoom (length change.pairs.added))
              (sym (other table.Dependency refl refl refl refl refl refl refl)) room.pairs;
          links = subst (λ r. IfSome change.in_force (λ (lists : NewLists). HaveRoom (length (links_brought lists)) r))
              (sym (other table.LinkInForce refl refl refl refl refl refl refl)) room.links;
          job = room.job;
        }),
  )

pub fitting_is_taken : FittingIsAccepted
fitting_is_taken all c change is fits sound told rising room moves are =
    moves_taken_all all c change is fits sound told rising room moves are (room.rows moves are)
