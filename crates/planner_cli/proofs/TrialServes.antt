-- Trials that are answered: the rows of a report are the way from the content to what the statement would leave.
use Rattle.std.proofs.Common.{◌≡◌, ◌∙◌, ℕ, List, [], ◌∷◌, ◌++◌, map, append_assoc, refl, sym, ap, subst, Option}
use Rattle.std.proofs.Common.{Some}
use Rattle.std.specs.List.{filter}
use Rattle.std.specs.Str.{byte}
use Rattle.std.specs.Prelude.{Err, Ok, flat_map}
use Rattle.std.proofs.lemmas.List.{map-append}
use Rattle.app_definitions.specs.declared.definitions.Definitions.{Definitions}
use Rattle.occurrences.specs.declared.place.CurrentRow.{CurrentRow}
use Rattle.occurrences.specs.declared.place.Place.TheVariants.{Current}
use Rattle.occurrences.specs.declared.refusal.Refusal.{Refusal}
use Rattle.occurrences.specs.declared.reply.Reply.{Reply as Outcome}
use Rattle.occurrences.specs.declared.row.Row.{Row}
use Rattle.occurrences.specs.declared.status.Status.{Status}
use Rattle.occurrences.specs.declared.status.Status.TheVariants.{C, D}
use Rattle.external_dependencies.specs.declared.rows.PlacedRow.{PlacedRow}
use Rattle.planner_machine.specs.Content.{Content, IsOnlyAt}
use Rattle.planner_machine.specs.DailyExtendBy.{DailyFateBy}
use Rattle.planner_machine.specs.Decision.{Decides}
use Rattle.planner_machine.specs.Fate.{DailyFate}
use Rattle.planner_machine.specs.Laws.{FollowsFate, IsWellFormed, StaysSound}
use Rattle.planner_machine.specs.ModifyAll.{IsAnyApp}
use Rattle.planner_machine.specs.ModifyOne.{IsThatApp}
use Rattle.planner_machine.specs.Sound.{AreNumbered, IsSound}
use Rattle.planner_machine.specs.Replan.{replan_fate}
use Rattle.planner_machine.specs.Statement.{Change as MachineChange, Trial, decision_of, fate_of}
use Rattle.planner_machine.specs.declared.content.Bounds.{Bounds}
use Rattle.planner_machine.proofs.NewEndLemmas.{one_end}
use Rattle.plan_store_lists.specs.Rows.{of_current, of_row}
use Rattle.plan_listings.specs.Line.{ended as line_ended}
use Rattle.plan_listings.specs.Report.{IsReport, daily_sign, daily_signs, plan_signs}
use Rattle.plan_listings.specs.declared.report.Signed.{Signed}
use Rattle.plan_store.specs.Changes.{after}
use Rattle.plan_store.specs.Verdicts.{VerdictIs}
use Rattle.plan_store.specs.Views.{IsAny, ListsSet}
use Rattle.plan_store.specs.declared.changes.Change.{Change}
use Rattle.plan_store.specs.declared.changes.Verdict.TheVariants.{Done, Refused}
use Rattle.plan_store.proofs.PlaceLemmas.{stands_cp}
use Rattle.plan_store.proofs.ViewLemmas.{once_from_rows}
use Rattle.planner_cli.specs.Outcomes.{answering}
use Rattle.planner_cli.specs.Replies.{ended}
use Rattle.planner_cli.specs.Changes.{daily_change, plan_change}
use Rattle.planner_cli.specs.Kinds.{count_of}
use Rattle.planner_cli.specs.Rows.{ShowsDailyTrial, ShowsPlanTrial, ShowsTrial, daily_signed, plan_signed}
use Rattle.planner_cli.specs.Steps.{Serves, ShowsAccepted}
use Rattle.planner_cli.specs.Trials.{carried_part, completed, daily_changes, deleted, deleted_part, history_part}
use Rattle.planner_cli.specs.Trials.{plan_changes}
use Rattle.planner_cli.specs.Trials.{uncompleted, would_be_carried, would_be_deleted, would_be_history, would_be_made}
use Rattle.planner_cli.specs.Trials.{would_be_moved, would_be_withdrawn}
use Rattle.planner_cli_stream.specs.declared.statements.DailyFunction.{DailyFunction}
use Rattle.planner_cli_stream.specs.declared.statements.DailyFunction.TheVariants as daily
use Rattle.planner_cli_stream.specs.declared.statements.PlanFunction.{PlanFunction}
use Rattle.planner_cli_stream.specs.declared.statements.PlanFunction.TheVariants as plan
use Rattle.planner_cli.proofs.MovedLemmas.{gone_is, gone_was, is_gone, is_put, put_is, put_was}
use Rattle.planner_cli.proofs.ShownLists.{shown_by}
use Rattle.planner_cli.proofs.TrialLemmas.{AreCurrent, AreRowsOf, ComesIn, GoesOut, IsPlanFate, daily_apart}
use Rattle.planner_cli.proofs.TrialLemmas.{daily_listed}
use Rattle.planner_cli.proofs.TrialLemmas.{modify_fate, plan_apart, plan_listed, stays_fate}

-- a refused one
pub trial_refused : (change : MachineChange) (c : Content) (r : Refusal) → VerdictIs (decision_of change) c (Refused r)
    → Serves (Trial change) c (answering (Err r)) c
trial_refused change c r verdict = record {
  answer = Err r;
  steps = verdict;
  rows = refl;
  line = refl;
  well_formed = tt;
}

ended_same : (lines : List (List ℕ)) → flat_map line_ended lines ≡ flat_map ended lines
unfolding ended
ended_same lines = refl

map_map : {A B C : Type 0} (g : B → C) (f : A → B) (xs : List A) → map g (map f xs) ≡ map (λ x. g (f x)) xs
map_map g f [] = refl
map_map g f (x ∷ xs) = ap (λ l. g (f x) ∷ l) (map_map g f xs)

-- ---- changes of the long-term plan

plan_fate : (function : PlanFunction) (all : Definitions) (bounds : Option Bounds)
    → IsPlanFate (fate_of (plan_change function) all bounds)
plan_fate (plan.Create from to) all bounds = stays_fate
plan_fate (plan.Extend to) all bounds = stays_fate
plan_fate plan.ModifyAll all bounds = modify_fate IsAnyApp all
plan_fate (plan.ModifyOne app) all bounds = modify_fate (IsThatApp app) all

plan_trial_shows : (function : PlanFunction) (c : Content) (reply : Outcome) (rows : List (List ℕ))
    → ShowsPlanTrial (plan_change function) c reply rows
    → ShowsTrial (plan_change function) c reply rows
plan_trial_shows (plan.Create from to) c reply rows h = h
plan_trial_shows (plan.Extend to) c reply rows h = h
plan_trial_shows plan.ModifyAll c reply rows h = h
plan_trial_shows (plan.ModifyOne app) c reply rows h = h

plan_signs_are : (made gone : List Row) → plan_signs made gone ≡ map plan_signed (plan_changes made gone)
plan_signs_are made gone = sym
    (map-append plan_signed (map would_be_made made) (map would_be_withdrawn gone)
    ∙ ap (λ l. l ++ map plan_signed (map would_be_withdrawn gone)) (map_map plan_signed would_be_made made)
    ∙ ap (λ l. map (λ x. plan_signed (would_be_made x)) made ++ l) (map_map plan_signed would_be_withdrawn gone))

pub plan_shown : (function : PlanFunction) → FollowsFate (plan_change function) → StaysSound (plan_change function)
    → (made : Change) (reply : Outcome)
    (c : Content) → IsSound c → VerdictIs (decision_of (plan_change function)) c (Done made reply) → (text : List ℕ)
    → IsReport (plan_signs made.ltp.put.items made.ltp.gone.items) text → ShowsAccepted (plan_change function) c reply text
plan_shown function law stays made reply c sound verdict text report =
    let left = after made c in
    let (drafts, makes, follows) = law c reply left sound verdict.1 in
    let left_sound = stays c (Ok reply) left sound verdict.1 in
    let fits = verdict.0.ltp in
    let set = c.sets.ltp in
    let put : AreRowsOf (ComesIn c.sets left.sets) made.ltp.put.items = record {
      apart = fits.put_once;
      is = λ row there. (put_was of_row made.ltp set fits row there, put_is of_row made.ltp set fits row there);
      all = λ serial row h. is_put of_row made.ltp set fits serial row h.0 h.1;
    } in
    let gone : AreRowsOf (GoesOut c.sets left.sets) made.ltp.gone.items = record {
      apart = fits.gone_once;
      is = λ row there. (gone_was of_row made.ltp set fits row there, gone_is of_row made.ltp set fits row there);
      all = λ serial row h. is_gone of_row made.ltp set fits serial row h.0 h.1;
    } in
    let fate = fate_of (plan_change function) c.definitions c.sets.bounds in
    let fair = plan_fate function c.definitions c.sets.bounds in
    let items = plan_changes made.ltp.put.items made.ltp.gone.items in
    let apart = plan_apart c.sets left.sets sound.serials left_sound.serials fate fair follows.old made.ltp.put.items
    made.ltp.gone.items put gone in
    let listed = plan_listed c.sets left.sets sound.serials left_sound.serials fate fair follows.old made.ltp.put.items
    made.ltp.gone.items put gone in
    let shown = shown_by plan_signed items text apart
    (subst (λ (l : List Signed). IsReport l text) (plan_signs_are made.ltp.put.items made.ltp.gone.items) report) in
    record {
      lines = shown.lines;
      text_is = shown.prints ∙ ended_same shown.lines;
      serves = record {
        answer = Ok reply;
        steps = (verdict.1.0, (refl, (left, verdict.1.1)));
        rows = plan_trial_shows function c reply shown.lines (
          shown.shown,
          (
            left,
            verdict.1.1,
            record {
              rising = shown.rising;
              exactly = λ change. (
                (λ h. (listed change).0 (shown.from change h)),
                (λ h. shown.to change ((listed change).1 h)),
              );
            },
          ),
          shown.are_lines,
        );
        line = refl;
        well_formed = tt;
      };
    }

-- ---- daily plans

-- each daily plan is one to some moment
daily_end : (function : DailyFunction) (c : Content) (reply : Outcome) (left : Content)
    → Decides (decision_of (daily_change function)) c (Ok reply) left
    → (t : ℕ) × ((p q : PlacedRow) → fate_of (daily_change function) c.definitions c.sets.bounds p q → DailyFate t p q)
daily_end (daily.Extend to) c reply left d = (to, λ p q goes. goes)
daily_end (daily.ExtendBy days count) c reply left d =
    let (b, is, (t, new, plans)) = d.1.rows in (
      t,
      λ p q goes. let (u, new_u, to_u) =
          subst (λ (o : Option Bounds). DailyFateBy days (count_of count) c.definitions o p q) is goes in
          subst (λ x. DailyFate x p q) (one_end c.definitions b.plan_end days (count_of count) u t new_u new) to_u,
    )
daily_end daily.Replan c reply left d = let (b, is, plans) = d.1.rows in
    (b.plan_end, λ p q goes. subst (λ (o : Option Bounds). replan_fate o p q) is goes)

daily_trial_shows : (function : DailyFunction) (c : Content) (reply : Outcome) (rows : List (List ℕ))
    → ShowsDailyTrial (daily_change function) c reply rows
    → ShowsTrial (daily_change function) c reply rows
daily_trial_shows (daily.Extend to) c reply rows h = h
daily_trial_shows (daily.ExtendBy days count) c reply rows h = h
daily_trial_shows daily.Replan c reply rows h = h

abbrev carried_pair : CurrentRow → Row × Status
carried_pair current = (current.row, current.status)

abbrev row_of : CurrentRow → Row
row_of current = current.row

pub current_rows : (c : Content) → AreNumbered c.sets → (rows : List CurrentRow)
    → ListsSet of_current c.sets.cp IsAny rows → AreCurrent c.sets rows
current_rows c numbered rows lists = record {
  apart = once_from_rows of_current rows lists.rows;
  is = λ current there. ((lists.exactly current).0 there).0;
  all = λ serial current is.
      let same = numbered.numbered serial (record { row = current.row; place = Current current.status })
      (stands_cp c.sets numbered serial current is) in
      (lists.exactly current).1 (subst (λ n. c.sets.cp n ≡ Some current) (sym same) is, tt);
}

pub daily_shown : (function : DailyFunction) → FollowsFate (daily_change function) → StaysSound (daily_change function)
    → (made : Change) (reply : Outcome)
    (c : Content) → IsSound c → VerdictIs (decision_of (daily_change function)) c (Done made reply)
    → (rows : List CurrentRow)
    → ListsSet of_current c.sets.cp IsAny rows → (text : List ℕ)
    → IsReport (map daily_signed (daily_changes made.ltp.gone.items rows)) text
    → ShowsAccepted (daily_change function) c reply text
daily_shown function law stays made reply c sound verdict rows lists text report =
    let left = after made c in
    let (drafts, makes, follows) = law c reply left sound verdict.1 in
    let left_sound = stays c (Ok reply) left sound verdict.1 in
    let fits = verdict.0.ltp in
    let set = c.sets.ltp in
    let gone : AreRowsOf (GoesOut c.sets left.sets) made.ltp.gone.items = record {
      apart = fits.gone_once;
      is = λ row there. (gone_was of_row made.ltp set fits row there, gone_is of_row made.ltp set fits row there);
      all = λ serial row h. is_gone of_row made.ltp set fits serial row h.0 h.1;
    } in
    let current = current_rows c sound.serials rows lists in
    let (t, is_to) = daily_end function c reply left verdict.1 in
    let old : (serial : ℕ) (p : PlacedRow) → IsOnlyAt c.sets serial p → (q : PlacedRow)
    × DailyFate t p q × IsOnlyAt left.sets serial q = λ serial p at.
    let (q, goes, there) = follows.old serial p at in (q, is_to p q goes, there) in
    let items = daily_changes made.ltp.gone.items rows in
    let apart = daily_apart c.sets left.sets sound.serials left_sound.serials t old made.ltp.gone.items rows gone
    current in
    let listed = daily_listed c.sets left.sets sound.serials left_sound.serials t old made.ltp.gone.items rows gone
    current in
    let shown = shown_by daily_signed items text apart report in
    record {
      lines = shown.lines;
      text_is = shown.prints ∙ ended_same shown.lines;
      serves = record {
        answer = Ok reply;
        steps = (verdict.1.0, (refl, (left, verdict.1.1)));
        rows = daily_trial_shows function c reply shown.lines (
          shown.shown,
          (
            left,
            verdict.1.1,
            record {
              rising = shown.rising;
              exactly = λ change. (
                (λ h. (listed change).0 (shown.from change h)),
                (λ h. shown.to change ((listed change).1 h)),
              );
            },
          ),
          shown.are_lines,
        );
        line = refl;
        well_formed = tt;
      };
    }

pub daily_signs_are : (moved : List Row) (rows : List CurrentRow)
    → daily_signs moved (map carried_pair (filter uncompleted rows)) (map row_of (filter completed rows))
    (map row_of (filter deleted rows))
    ≡ map daily_signed (daily_changes moved rows)
daily_signs_are moved rows =
    let u = filter uncompleted rows in
    let f = filter completed rows in
    let d = filter deleted rows in
    let a = map (λ x. daily_signed (would_be_moved x)) moved in
    let b = map (λ x. daily_signed (would_be_carried x)) u in
    let e = map (λ x. daily_signed (would_be_history x)) f in
    let g = map (λ x. daily_signed (would_be_deleted x)) d in
    let done = map (daily_sign (byte "H") C) (map row_of f) in
    let gone = map (daily_sign (byte "X") D) (map row_of d) in
    let left =
    ap (λ l. a ++ l ++ done ++ gone) (map_map (λ (p : Row × Status). daily_sign (byte "=") p.1 p.0) carried_pair u)
    ∙ ap (λ l. a ++ b ++ l ++ gone) (map_map (daily_sign (byte "H") C) row_of f)
    ∙ ap (λ l. a ++ b ++ e ++ l) (map_map (daily_sign (byte "X") D) row_of d)
    ∙ append_assoc (a ++ b) e g ∙ append_assoc a b (e ++ g) in
    let last = map-append daily_signed (history_part rows) (deleted_part rows)
    ∙ ap (λ l. l ++ map daily_signed (deleted_part rows)) (map_map daily_signed would_be_history f)
    ∙ ap (λ l. e ++ l) (map_map daily_signed would_be_deleted d) in
    let later = map-append daily_signed (carried_part rows) (history_part rows ++ deleted_part rows)
    ∙ ap (λ l. l ++ map daily_signed (history_part rows ++ deleted_part rows)) (map_map daily_signed would_be_carried u)
    ∙ ap (λ l. b ++ l) last in
    let right = map-append daily_signed (map would_be_moved moved)
    (carried_part rows ++ (history_part rows ++ deleted_part rows))
    ∙ ap (λ l. l ++ map daily_signed (carried_part rows ++ (history_part rows ++ deleted_part rows)))
    (map_map daily_signed would_be_moved moved)
    ∙ ap (λ l. a ++ l) later in
    left ∙ sym right

-- its values are such as a line gives
pub well_formed : (function : DailyFunction) → IsWellFormed (daily_change function)
well_formed (daily.Extend to) = tt
well_formed (daily.ExtendBy days count) = tt
well_formed daily.Replan = tt
