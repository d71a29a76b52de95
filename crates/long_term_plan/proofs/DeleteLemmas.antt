-- A deletion from the long-term plan is what the machine does.
use Rattle.std.proofs.Common.{◌≡◌, ◌≢◌, ℕ, ◌≤◌, Bool, true, false, refl, arith, sym, ap, subst, ◌∙◌}
use Rattle.std.proofs.Common.{Some, None, Option}
use Rattle.std.specs.Prelude.{nat_eq, not, option_map, unwrap_or, if◌then◌else◌}
use Rattle.std.proofs.lemmas.Bool.{eqb-true, eqb-false, ne_eqb}
use Rattle.occurrences.proofs.KeyLemmas.{key_other, key_same}
use Rattle.occurrences.specs.declared.key.Key.{Key}
use Rattle.occurrences.specs.declared.place.CurrentRow.{CurrentRow}
use Rattle.occurrences.specs.declared.place.Deletion.{Deletion}
use Rattle.occurrences.specs.Place.{IsLive}
use Rattle.occurrences.specs.declared.place.Place.{Place}
use Rattle.occurrences.specs.declared.place.Place.TheVariants.{LongTerm, Current, History, Deleted}
use Rattle.occurrences.specs.Refusal.{refusal_number}
use Rattle.occurrences.specs.declared.refusal.Refusal.{Refusal}
use Rattle.occurrences.specs.declared.refusal.Refusal.TheVariants.{NoPlan, NoSuchOccurrence}
use Rattle.occurrences.specs.declared.reply.Reply.TheVariants.{Numbered}
use Rattle.occurrences.specs.declared.row.Row.{Row}
use Rattle.planner_machine.specs.Content.{Content, Seat, Sets, alone, seat}
use Rattle.planner_machine.specs.Delete.{DeleteRefused, Deletes, IsPlanned, deleted_by_hand, delete_move, ltp_delete}
use Rattle.planner_machine.specs.InForce.{PutsNone}
use Rattle.planner_machine.specs.Moves.{each, has_key, keep, or_else}
use Rattle.planner_machine.specs.Plans.{ChangesPlans}
use Rattle.planner_machine.specs.Sound.{IsSound}
use Rattle.planner_machine.proofs.DeleteLemmas.{stands_in_ltp}
use Rattle.planner_machine.specs.RowsSound.{RowsSound}
use Rattle.planner_machine.proofs.SoundLemmas.{rows_sound}
use Rattle.plan_store_lists.specs.Rows.{of_current, of_deletion, of_row}
use Rattle.planner_machine.specs.Pairs.{ArePairs}
use Rattle.plan_store.specs.Changes.{Fits, after, jobs_after, lists_after, pairs_after, redefined}
use Rattle.plan_store.specs.Changes.{sets_after}
use Rattle.plan_store.specs.Verdicts.{VerdictIs}
use Rattle.plan_store.specs.Views.{IsPlannedRow}
use Rattle.plan_store.specs.declared.changes.Change.{Change}
use Rattle.plan_store.specs.declared.changes.Verdict.{Verdict}
use Rattle.plan_store.specs.declared.changes.Verdict.TheVariants.{Done, Refused}
use Rattle.long_term_plan.specs.Deletes.{DeletesRow, IsDeletionOf}
use Rattle.plan_store_pairs.specs.Withdrawals.{LosesRow}
use Rattle.plan_store_pairs.proofs.SetLemmas.{fits_nothing, fits_one, fits_taken, keep_some, moves_nothing, moves_one}
use Rattle.plan_store_pairs.proofs.SetLemmas.{moves_taken, some_keep}

-- two rows of the long-term plan with one key have one serial
one_key : (c : Sets) → RowsSound c → (m n : ℕ) (x y : Row) → c.ltp m ≡ Some x → c.ltp n ≡ Some y → x.key ≡ y.key → m ≡ n
one_key c sound m n x y at_x at_y same =
    sound.keys m n (record { row = x; place = LongTerm }) (record { row = y; place = LongTerm })
    (stands_in_ltp c sound m x at_x) (stands_in_ltp c sound n y at_y) tt tt same

pub serial_is : (c : Sets) → RowsSound c → (serial : ℕ) (row : Row) → c.ltp serial ≡ Some row → row.serial ≡ serial
serial_is c sound serial row is = sound.numbered serial (record { row = row; place = LongTerm })
    (stands_in_ltp c sound serial row is)

module _ (c : Sets) (sound : RowsSound c) (row : Row) (stands : c.ltp row.serial ≡ Some row) where
  -- a row of the long-term plan stays where its serial is another
  passes : (serial : ℕ) (x : Row) → c.ltp serial ≡ Some x → nat_eq row.serial serial ≡ false
      → not (has_key row.key x) ≡ true
  passes serial x is other =
      ap not (key_other x.key row.key
      (λ same. eqb-false _ _ other (sym (one_key c sound serial row.serial x row is stands same))))

  pub ltp_is : (serial : ℕ) → (if nat_eq row.serial serial then None else c.ltp serial) ≡ keep
      (λ (r : Row). not (has_key row.key r)) (c.ltp serial)
  ltp_is serial = elim (nat_eq row.serial serial) as (λ b. nat_eq row.serial serial ≡ b
      → (if b then None else c.ltp serial) ≡ keep (λ (r : Row). not (has_key row.key r)) (c.ltp serial)) [
        | true ↦ λ is.
            let here : c.ltp serial ≡ Some row = subst (λ n. c.ltp n ≡ Some row) (eqb-true _ _ is) stands in
            let same : not (has_key row.key row) ≡ false = ap not (key_same row.key row.key refl) in
            sym (ap (keep (λ (r : Row). not (has_key row.key r))) here
            ∙ ap (λ (b : Bool). if b then Some row else None) same)
        | false ↦ λ other. elim (c.ltp serial) as (λ o. c.ltp serial ≡ o
            → o ≡ keep (λ (r : Row). not (has_key row.key r)) o) [
              | None ↦ λ is. refl
              | Some x ↦ λ is. sym (ap (λ (b : Bool). if b then Some x else None) (passes serial x is other))
            ] refl
      ] refl

  pub deletions_are : (serial : ℕ) (old : Option Deletion)
      → (if nat_eq row.serial serial then Some (deleted_by_hand row) else old) ≡ or_else
      (option_map deleted_by_hand (keep (has_key row.key) (c.ltp serial))) old
  deletions_are serial old = elim (nat_eq row.serial serial) as (λ b. nat_eq row.serial serial ≡ b
      → (if b then Some (deleted_by_hand row) else old) ≡ or_else
      (option_map deleted_by_hand (keep (has_key row.key) (c.ltp serial))) old) [
        | true ↦ λ is.
            let here : c.ltp serial ≡ Some row = subst (λ n. c.ltp n ≡ Some row) (eqb-true _ _ is) stands in
            sym (ap (λ (o : Option Row). or_else (option_map deleted_by_hand o) old)
            (some_keep (has_key row.key) (c.ltp serial) row here (key_same row.key row.key refl)))
        | false ↦ λ other. elim (c.ltp serial) as (λ o. c.ltp serial ≡ o
            → old ≡ or_else (option_map deleted_by_hand (keep (has_key row.key) o)) old) [
              | None ↦ λ is. refl
              | Some x ↦ λ is.
                  let differ : has_key row.key x ≡ false = key_other x.key row.key
                  (λ same. eqb-false _ _ other (sym (one_key c sound serial row.serial x row is stands same))) in
                  sym (ap (λ (b : Bool). or_else (option_map deleted_by_hand (if b then Some x else None)) old) differ)
            ] refl
      ] refl

  -- nothing stands in the deletions under its serial
  pub no_deletion : c.deletions row.serial ≡ None
  no_deletion = ap (λ (s : Seat). s.deletions) (stands_in_ltp c sound row.serial row stands)

  -- under other serials nothing changes
  same_seat : (serial : ℕ) → serial ≢ row.serial → seat (each (delete_move row.key) c) serial ≡ seat c serial
  same_seat serial other =
      let apart : nat_eq row.serial serial ≡ false = ne_eqb _ _ (λ same. other (sym same)) in
      let planned = rw apart at (ltp_is serial) in
      let deleted = rw apart at (deletions_are serial (c.deletions serial)) in
      λ i. record {
        ltp = sym planned i;
        cp = c.cp serial;
        history = c.history serial;
        deletions = sym deleted i;
      }

  -- what is live after the deletion has another serial
  goes : (serial : ℕ) (place : Place) (x : Row) → seat (each (delete_move row.key) c) serial ≡ alone x place
      → IsLive place → serial ≢ row.serial
  goes serial LongTerm x at live same =
      let (there, differ) = keep_some (λ (r : Row). not (has_key row.key r)) (c.ltp serial) x
      (ap (λ (s : Seat). s.ltp) at) in
      let one : Some x ≡ Some row = sym there ∙ ap c.ltp same ∙ stands in
      let is_row : x ≡ row = cc in
      let yes : has_key row.key x ≡ true = key_same x.key row.key (ap (λ (r : Row). r.key) is_row) in
      let no : false ≡ true = sym (ap not yes) ∙ differ in cc
  goes serial (Current status) x at live same =
      let current : CurrentRow = record { row = x; status = status } in
      let none : c.cp row.serial ≡ None = ap (λ (s : Seat). s.cp) (stands_in_ltp c sound row.serial row stands) in
      let there : c.cp serial ≡ Some current = ap (λ (s : Seat). s.cp) at in
      let no : None ≡ Some current = sym none ∙ ap c.cp (sym same) ∙ there in cc
  goes serial History x at live same =
      let none : c.history row.serial ≡ None = ap (λ (s : Seat). s.history)
      (stands_in_ltp c sound row.serial row stands) in
      let no : None ≡ Some x = sym none ∙ ap c.history (sym same) ∙ ap (λ (s : Seat). s.history) at in cc
  goes serial (Deleted reason) x at live same = live

  -- the row is what the deletion withdraws
  pub deletion_loses : LosesRow c (each (delete_move row.key) c) row
  deletion_loses = record {
    placed = record { row = row; place = LongTerm };
    of_row = refl;
    stood = stands_in_ltp c sound row.serial row stands;
    lived = tt;
    planned = λ is. cc;
    gone = λ p at live. goes row.serial p.place p.row at live refl;
    others = λ serial other p. ((λ at. same_seat serial other ∙ at), λ at. sym (same_seat serial other) ∙ at);
  }

module _ (c : Content) (sound : IsSound c) (row : Row) (stands : c.sets.ltp row.serial ≡ Some row) (change : Change)
    (is : IsDeletionOf c row change) where
  pub deletion_fits : Fits change c
  deletion_fits = record {
    ltp = fits_taken of_row change.ltp c.sets.ltp row is.gone is.unchanged is.nothing_put stands;
    cp = fits_nothing of_current change.cp c.sets.cp is.cp;
    history = fits_nothing of_row change.history c.sets.history is.history;
    deletions = fits_one of_deletion change.deletions c.sets.deletions (deleted_by_hand row) is.none_gone
        is.none_changed is.put (no_deletion c.sets (rows_sound c sound) row stands);
    job = λ job kept. let no : None ≡ Some job = sym is.job ∙ kept in cc;
  }

  sets_are : sets_after change c.sets ≡ each (delete_move row.key) c.sets
  sets_are = λ i. record {
    bounds = ap (λ o. or_else o c.sets.bounds) is.bounds i;
    issued = ap (λ o. unwrap_or o c.sets.issued) is.issued i;
    ltp = λ serial. (moves_taken of_row change.ltp c.sets.ltp row is.gone is.unchanged is.nothing_put serial
        ∙ ltp_is c.sets (rows_sound c sound) row stands serial) i;
    cp = λ serial. moves_nothing of_current change.cp c.sets.cp is.cp serial i;
    history = λ serial. moves_nothing of_row change.history c.sets.history is.history serial i;
    deletions =
        λ serial. (moves_one of_deletion change.deletions c.sets.deletions (deleted_by_hand row) is.none_gone
        is.none_changed is.put serial ∙ deletions_are c.sets (rows_sound c sound) row stands serial
        (c.sets.deletions serial)) i;
  }

  pub deletion_does : ChangesPlans (Deletes row.key) PutsNone c (Numbered row.serial) (after change c)
  deletion_does = record {
    rows = record {
      serial = row.serial;
      planned = record { row = row; stands = stands; keyed = refl };
      replies = refl;
      becomes = sets_are;
    };
    lists = ap (λ o. lists_after o c.in_force) is.in_force;
    pairs =
        let lists : lists_after change.in_force c.in_force ≡ c.in_force =
        ap (λ o. lists_after o c.in_force) is.in_force in
        subst (λ l. ArePairs c.pairs l (sets_after change c.sets) (pairs_after change.pairs c.pairs)) (sym lists)
        (subst (λ s. ArePairs c.pairs c.in_force s (pairs_after change.pairs c.pairs)) (sym sets_are) is.pairs);
    definitions = ap (λ d. redefined d c.definitions) is.definitions;
    jobs = ap (λ j. jobs_after j c.jobs) is.job;
  }

-- which refusal is the least
pub least_no_plan : (key : Key) (c : Content) (q : Refusal) → DeleteRefused key c q → 20 ≤ refusal_number q
least_no_plan key c NoPlan is = omega arith
least_no_plan key c NoSuchOccurrence is = omega arith
least_no_plan key c _ is = absurd is

pub least_no_row : (key : Key) (c : Content) → c.sets.bounds ≢ None → (q : Refusal) → DeleteRefused key c q
    → 28 ≤ refusal_number q
least_no_row key c some NoPlan is = absurd (some is)
least_no_row key c some NoSuchOccurrence is = omega arith
least_no_row key c some _ is = absurd is

none_holds : (key : Key) (c : Content) → c.sets.bounds ≢ None → (serial : ℕ) → IsPlanned c.sets key serial
    → (q : Refusal) → DeleteRefused key c q → ⊥
none_holds key c some serial planned NoPlan is = some is
none_holds key c some serial planned NoSuchOccurrence is = is serial planned
none_holds key c some serial planned _ is = is

pub no_row : (c : Content) (key : Key) → IsPlannedRow c.sets key None → (serial : ℕ) → IsPlanned c.sets key serial → ⊥
no_row c key none serial planned = none serial planned.row planned.stands planned.keyed

pub verdict_is : (c : Content) → IsSound c → (key : Key) (row : Row) → c.sets.bounds ≢ None
    → c.sets.ltp row.serial ≡ Some row → row.key ≡ key → (verdict : Verdict) → DeletesRow c row verdict
    → VerdictIs (ltp_delete key) c verdict
verdict_is c sound key row some stands keyed (Done change reply) (is, replies) =
    let planned : IsPlanned c.sets row.key row.serial = record { row = row; stands = stands; keyed = refl } in
    let does = subst (λ r. ChangesPlans (Deletes row.key) PutsNone c r (after change c)) (sym replies)
    (deletion_does c sound row stands change is) in
    let P : Key → Type 0 = λ k. VerdictIs (ltp_delete k) c (Done change reply) in
    subst P keyed (deletion_fits c sound row stands change is, (none_holds row.key c some row.serial planned, does), is.leads)
verdict_is c sound key row some stands keyed (Refused refusal) is = absurd is
