-- What a daily plan changes, and that it is a daily plan.
use Rattle.std.proofs.Common.{◌≡◌, ◌↔◌, ℕ, ◌<◌, Bool, true, false, not, List, [], length, map, refl, sym, ap, subst}
use Rattle.std.proofs.Common.{◌∙◌, Option, Some, None}
use Rattle.std.specs.Prelude.{option_map, is_some, filter, if◌then◌else◌}
use Rattle.std.specs.List.{Contains}
use Rattle.std.proofs.lemmas.Bool.{ltb-true, lt-ltb}
use Rattle.std.proofs.lemmas.List.{length-map}
use Rattle.occurrences.specs.declared.place.CurrentRow.{CurrentRow}
use Rattle.occurrences.specs.declared.place.Deletion.{Deletion}
use Rattle.occurrences.specs.declared.reply.Reply.{Reply}
use Rattle.occurrences.specs.declared.reply.Reply.TheVariants.{Moved}
use Rattle.occurrences.specs.declared.row.Row.{Row}
use Rattle.planner_machine.specs.declared.content.Bounds.{Bounds}
use Rattle.planner_machine.specs.Content.{Content}
use Rattle.planner_machine.specs.DailyExtend.{ExtendsDaily}
use Rattle.planner_machine.specs.DailyPlan.{arrives_before, arrives_later, carried, completed, daily, daily_reply}
use Rattle.planner_machine.specs.DailyPlan.{deleted, deleted_in_plan, is_completed, is_deleted, is_uncompleted, moved}
use Rattle.planner_machine.specs.DailyPlan.{waiting}
use Rattle.planner_machine.specs.InForce.{PutsNone}
use Rattle.planner_machine.specs.Moves.{keep, or_else, size}
use Rattle.planner_machine.specs.Plans.{ChangesPlans}
use Rattle.planner_machine.specs.Sound.{IsSound}
use Rattle.planner_machine.specs.RowsSound.{RowsSound}
use Rattle.planner_machine.proofs.SoundLemmas.{rows_sound}
use Rattle.plan_store_lists.specs.Rows.{look_up, of_current, of_deletion, of_row}
use Rattle.plan_store.specs.Changes.{Fits, moved_set, sets_after}
use Rattle.plan_store.specs.Views.{IsAny, ListsSet}
use Rattle.plan_store.specs.declared.changes.Change.{Change}
use Rattle.plan_store.specs.declared.changes.DefinitionChange.TheVariants.{AsBefore}
use Rattle.plan_store.proofs.PairLemmas.{leads_nowhere}
use Rattle.plan_store.proofs.ViewLemmas.{once_from_rows, size_listed, size_same}
use Rattle.daily_planning.specs.DailyPlans.{DoesDaily, is_finished}
use Rattle.daily_planning.proofs.ChangeLemmas.{after_moves, current_alone, current_issued, current_numbered, fits_moves}
use Rattle.daily_planning.proofs.ChangeLemmas.{moved_is, no_pairs_move, planned_alone, planned_issued}
use Rattle.daily_planning.proofs.ChangeLemmas.{planned_numbered}
use Rattle.daily_planning.proofs.PairLemmas.{daily_pairs}
use Rattle.daily_planning.proofs.SetLemmas.{contains_filter, contains_map, count_filter, filter_lists, look_filter}
use Rattle.daily_planning.proofs.SetLemmas.{look_listed, look_map, once_map, once_nothing}

-- the long-term plan keeps what doesn't arrive before t
left : (t : ℕ) (o : Option Row) → (if is_some (keep (arrives_before t) o) then None else o) ≡ keep (arrives_later t) o
left t None = refl
left t (Some row) = elim (arrives_before t row) as
    (λ b. (if is_some (if b then Some row else None) then None else Some row) ≡
    (if not b then Some row else None)) [ true ↦ refl | false ↦ refl ]

-- the current plan keeps what isn't finished, and gains what moves
came_by : (b : Bool) (x : CurrentRow) (m : Option CurrentRow) → m ≡ None
    → or_else m (if is_some (if not b then Some x else None) then None else Some x) ≡ or_else
    (if b then Some x else None) m
came_by true x m none = rw none refl
came_by false x m none = rw none refl

came : (m o : Option CurrentRow) → ((x : CurrentRow) → o ≡ Some x → m ≡ None)
    → or_else m (if is_some (keep is_finished o) then None else o) ≡ or_else (carried o) m
came None None apart = refl
came (Some y) None apart = refl
came m (Some x) apart = came_by (is_uncompleted x.status) x m (apart x refl)

-- what a daily plan to t changes, by the rows that it moves and those of the current plan
pub record ChangesDaily (t : ℕ) (b : Bounds) (ltp : List Row) (cp : List CurrentRow) (change : Change) : Type 0 where
  pub definitions : change.definitions ≡ AsBefore
  pub bounds : change.bounds ≡ Some (record b { plan_end = t })
  pub issued : change.issued ≡ None
  pub in_force : change.in_force ≡ None
  pub ltp_gone : change.ltp.gone.items ≡ ltp
  pub ltp_changed : change.ltp.changed.items ≡ []
  pub ltp_put : change.ltp.put.items ≡ []
  pub cp_gone : change.cp.gone.items ≡ filter is_finished cp
  pub cp_changed : change.cp.changed.items ≡ []
  pub cp_put : change.cp.put.items ≡ map waiting ltp
  pub history_gone : change.history.gone.items ≡ []
  pub history_changed : change.history.changed.items ≡ []
  pub history_put : change.history.put.items ≡ map (λ (x : CurrentRow). x.row)
      (filter (λ (x : CurrentRow). is_completed x.status) cp)
  pub deletions_gone : change.deletions.gone.items ≡ []
  pub deletions_changed : change.deletions.changed.items ≡ []
  pub deletions_put : change.deletions.put.items ≡ map deleted_in_plan
      (filter (λ (x : CurrentRow). is_deleted x.status) cp)
  pub removed : change.pairs.removed ≡ []
  pub added : change.pairs.added ≡ []
  pub job : change.job ≡ None

abbrev is_done : CurrentRow → Bool
is_done x = is_completed x.status

abbrev is_dropped : CurrentRow → Bool
is_dropped x = is_deleted x.status

abbrev is_open : CurrentRow → Bool
is_open x = is_uncompleted x.status

abbrev row_only : CurrentRow → Row
row_only x = x.row

module _ (t : ℕ) (b : Bounds) (c : Content) (sound : IsSound c) (is : c.sets.bounds ≡ Some b) (ltp : List Row)
    (cp : List CurrentRow) (ltp_lists : ListsSet of_row c.sets.ltp (λ (row : Row). row.key.ia < t) ltp)
    (cp_lists : ListsSet of_current c.sets.cp IsAny cp) where
  rows : RowsSound c.sets
  rows = rows_sound c sound

  early : (row : Row) → (row.key.ia < t) ↔ (arrives_before t row ≡ true)
  early row = ((λ lt. lt-ltb _ _ lt), λ e. ltb-true _ _ e)

  ltp_look : (serial : ℕ) → look_up (λ (x : Row). x.serial) ltp serial ≡ moved t (c.sets.ltp serial)
  ltp_look = look_listed of_row c.sets.ltp (λ (row : Row). row.key.ia < t) (arrives_before t) ltp ltp_lists early
      (planned_numbered c.sets rows)

  cp_look : (p : CurrentRow → Bool) (serial : ℕ)
      → look_up (λ (x : CurrentRow). x.row.serial) (filter p cp) serial ≡ keep p (c.sets.cp serial)
  cp_look p = look_filter of_current c.sets.cp p cp cp_lists (current_numbered c.sets rows)

  cp_has : (p : CurrentRow → Bool) (x : CurrentRow) → Contains (filter p cp) x → c.sets.cp x.row.serial ≡ Some x
  cp_has p x there = ((cp_lists.exactly x).0 (contains_filter p cp x there).0).0

  cp_count : (p : CurrentRow → Bool) → length (filter p cp) ≡ size (λ serial. keep p (c.sets.cp serial)) c.sets.issued
  cp_count p = count_filter of_current c.sets.cp p cp cp_lists (current_numbered c.sets rows) c.sets.issued
      (current_issued c.sets rows)

  ltp_count : length ltp ≡ size (λ serial. moved t (c.sets.ltp serial)) c.sets.issued
  ltp_count =
      size_listed of_row c.sets.issued ltp (once_from_rows of_row ltp ltp_lists.rows)
      (λ row there. planned_issued c.sets rows row.serial row ((ltp_lists.exactly row).0 there).0)
      ∙ size_same (look_up (λ (x : Row). x.serial) ltp) (λ serial. moved t (c.sets.ltp serial)) c.sets.issued
      (λ serial _. ltp_look serial)

  waiting_apart : (serial : ℕ) (x : CurrentRow) → c.sets.cp serial ≡ Some x
      → option_map waiting (moved t (c.sets.ltp serial)) ≡ None
  waiting_apart serial x at = ap (λ o. option_map waiting (moved t o)) (current_alone c.sets rows serial x at).0

  module _ (change : Change) (d : ChangesDaily t b ltp cp change) where
    ltp_after : (serial : ℕ) → moved_set of_row change.ltp c.sets.ltp serial ≡ keep (arrives_later t)
        (c.sets.ltp serial)
    ltp_after serial =
        moved_is of_row change.ltp ltp [] [] d.ltp_gone d.ltp_changed d.ltp_put c.sets.ltp serial
        ∙ ap (λ (o : Option Row). if is_some o then None else c.sets.ltp serial) (ltp_look serial)
        ∙ left t (c.sets.ltp serial)

    cp_after : (serial : ℕ) → moved_set of_current change.cp c.sets.cp serial ≡ or_else (carried (c.sets.cp serial))
        (option_map waiting (moved t (c.sets.ltp serial)))
    cp_after serial =
        moved_is of_current change.cp (filter is_finished cp) []
        (map waiting ltp) d.cp_gone d.cp_changed d.cp_put c.sets.cp serial
        ∙ ap (λ (o : Option CurrentRow). or_else o
        (if is_some (look_up (λ (x : CurrentRow). x.row.serial)
        (filter is_finished cp) serial) then None else c.sets.cp serial))
        (look_map of_row of_current waiting (λ x. refl) ltp serial ∙ ap (option_map waiting) (ltp_look serial))
        ∙ ap (λ (o : Option CurrentRow). or_else (option_map waiting (moved t (c.sets.ltp serial)))
        (if is_some o then None else c.sets.cp serial)) (cp_look is_finished serial)
        ∙ came (option_map waiting (moved t (c.sets.ltp serial))) (c.sets.cp serial) (waiting_apart serial)

    history_after : (serial : ℕ) → moved_set of_row change.history c.sets.history serial ≡ or_else
        (option_map row_only (completed (c.sets.cp serial))) (c.sets.history serial)
    history_after serial =
        moved_is of_row change.history [] [] (map row_only
        (filter is_done cp)) d.history_gone d.history_changed d.history_put c.sets.history serial
        ∙ ap (λ (o : Option Row). or_else o (c.sets.history serial))
        (look_map of_current of_row row_only (λ x. refl) (filter is_done cp) serial
        ∙ ap (option_map row_only) (cp_look is_done serial))

    deletions_after : (serial : ℕ) → moved_set of_deletion change.deletions c.sets.deletions serial ≡ or_else
        (option_map deleted_in_plan (deleted (c.sets.cp serial))) (c.sets.deletions serial)
    deletions_after serial =
        moved_is of_deletion change.deletions [] []
        (map deleted_in_plan (filter is_dropped cp)) d.deletions_gone d.deletions_changed d.deletions_put
        c.sets.deletions serial
        ∙ ap (λ (o : Option Deletion). or_else o (c.sets.deletions serial))
        (look_map of_current of_deletion deleted_in_plan (λ x. refl) (filter is_dropped cp) serial
        ∙ ap (option_map deleted_in_plan) (cp_look is_dropped serial))

    bounds_after : or_else change.bounds c.sets.bounds ≡ (daily t c.sets).bounds
    bounds_after = ap (λ o. or_else o c.sets.bounds) d.bounds
        ∙ sym (ap (option_map (λ (x : Bounds). record x { plan_end = t })) is)

    issued_after : (sets_after change c.sets).issued ≡ c.sets.issued
    issued_after = ap (λ o. Rattle.std.specs.Prelude.unwrap_or o c.sets.issued) d.issued

    sets_are : sets_after change c.sets ≡ daily t c.sets
    sets_are i = record {
      bounds = bounds_after i;
      issued = issued_after i;
      ltp = λ serial. ltp_after serial i;
      cp = λ serial. cp_after serial i;
      history = λ serial. history_after serial i;
      deletions = λ serial. deletions_after serial i;
    }

    put_new : (x : CurrentRow) → Contains (map waiting ltp) x → c.sets.cp x.row.serial ≡ None
    put_new x there =
        let (row, has, at) = contains_map of_row of_current waiting (λ y. refl) ltp x there in
        subst (λ (y : CurrentRow). c.sets.cp y.row.serial ≡ None) at
        (planned_alone c.sets rows row.serial row ((ltp_lists.exactly row).0 has).0)

    history_new : (x : Row) → Contains (map row_only (filter is_done cp)) x → c.sets.history x.serial ≡ None
    history_new x there =
        let (y, has, at) = contains_map of_current of_row row_only (λ z. refl) (filter is_done cp) x there in
        subst (λ (z : Row). c.sets.history z.serial ≡ None) at
        (current_alone c.sets rows y.row.serial y (cp_has is_done y has)).1

    deletions_new : (x : Deletion) → Contains (map deleted_in_plan (filter is_dropped cp)) x
        → c.sets.deletions x.row.serial ≡ None
    deletions_new x there =
        let (y, has, at) = contains_map of_current of_deletion deleted_in_plan (λ z. refl)
        (filter is_dropped cp) x there in
        subst (λ (z : Deletion). c.sets.deletions z.row.serial ≡ None) at
        (current_alone c.sets rows y.row.serial y (cp_has is_dropped y has)).2

    fits_daily : Fits change c
    fits_daily = record {
      ltp = fits_moves of_row change.ltp ltp [] d.ltp_gone d.ltp_changed d.ltp_put c.sets.ltp
          (once_from_rows of_row ltp ltp_lists.rows) (once_nothing of_row)
          (λ x there. ((ltp_lists.exactly x).0 there).0)
          (λ x there. absurd (Rattle.daily_planning.proofs.SetLemmas.nothing x there));
      cp = fits_moves of_current change.cp (filter is_finished cp)
          (map waiting ltp) d.cp_gone d.cp_changed d.cp_put c.sets.cp
          (once_from_rows of_current (filter is_finished cp)
          (filter_lists of_current c.sets.cp is_finished cp cp_lists).rows)
          (once_map of_row of_current waiting (λ x. refl) ltp (once_from_rows of_row ltp ltp_lists.rows))
          (cp_has is_finished) put_new;
      history = fits_moves of_row change.history []
          (map row_only (filter is_done cp)) d.history_gone d.history_changed d.history_put c.sets.history
          (once_nothing of_row) (once_map of_current of_row row_only (λ x. refl) (filter is_done cp)
          (once_from_rows of_current (filter is_done cp)
          (filter_lists of_current c.sets.cp is_done cp cp_lists).rows))
          (λ x there. absurd (Rattle.daily_planning.proofs.SetLemmas.nothing x there)) history_new;
      deletions = fits_moves of_deletion change.deletions []
          (map deleted_in_plan (filter is_dropped cp)) d.deletions_gone d.deletions_changed d.deletions_put
          c.sets.deletions (once_nothing of_deletion)
          (once_map of_current of_deletion deleted_in_plan (λ x. refl) (filter is_dropped cp)
          (once_from_rows of_current (filter is_dropped cp)
          (filter_lists of_current c.sets.cp is_dropped cp cp_lists).rows))
          (λ x there. absurd (Rattle.daily_planning.proofs.SetLemmas.nothing x there)) deletions_new;
      job = λ job at. let none = d.job in cc;
    }

    replies : (m k n l : ℕ) → m ≡ length ltp → k ≡ length (filter is_open cp)
        → n ≡ length (map row_only (filter is_done cp))
        → l ≡ length (map deleted_in_plan (filter is_dropped cp)) → Moved m k n l ≡ daily_reply t c.sets
    replies m k n l is_m is_k is_n is_l =
        let e_m = is_m ∙ ltp_count in
        let e_k = is_k ∙ cp_count is_open in
        let e_n = is_n ∙ length-map (filter is_done cp) row_only ∙ cp_count is_done in
        let e_l = is_l ∙ length-map (filter is_dropped cp) deleted_in_plan ∙ cp_count is_dropped in
        λ i. Moved (e_m i) (e_k i) (e_n i) (e_l i)

    pub does_daily : (reply : Reply) → reply ≡ daily_reply t c.sets → DoesDaily t c change reply
    does_daily reply replied = (
      fits_daily,
      subst (ChangesPlans (ExtendsDaily t) PutsNone c reply)
          (sym (after_moves change c d.definitions d.in_force d.job (daily t c.sets) sets_are c.pairs
          (no_pairs_move change.pairs d.removed d.added c.pairs)))
          (record {
            rows = (replied, refl);
            lists = refl;
            pairs = daily_pairs t c.sets rows c.in_force c.pairs sound.pairs.settled;
            definitions = refl;
            jobs = refl;
          }),
      leads_nowhere change.pairs c.pairs d.removed d.added,
    )

    pub daily_replied : (m k n l : ℕ) → m ≡ length ltp → k ≡ length (filter is_open cp)
        → n ≡ length (map row_only (filter is_done cp))
        → l ≡ length (map deleted_in_plan (filter is_dropped cp)) → DoesDaily t c change (Moved m k n l)
    daily_replied m k n l is_m is_k is_n is_l = does_daily (Moved m k n l) (replies m k n l is_m is_k is_n is_l)
