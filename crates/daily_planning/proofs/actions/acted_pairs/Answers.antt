use Rattle.std.proofs.Common.{Some, inl, inr, sym, subst}
use Rattle.std.specs.Prelude.{IfOk, Result, Ok, Err}
use Rattle.occurrences.specs.declared.status.Action.{Action}
use Rattle.external_dependencies.specs.declared.change.PairChange.{PairChange}
use Rattle.planner_machine.specs.Act.{action_move}
use Rattle.planner_machine.specs.Moves.{each}
use Rattle.planner_machine.specs.Pairs.{ArePairs}
use Rattle.planner_machine.specs.Sound.{IsSound}
use Rattle.planner_machine.proofs.SoundLemmas.{rows_sound}
use Rattle.plan_store.specs.Changes.{pairs_after}
use Rattle.plan_store.specs.HistoryReads.{ReadsKey}
use Rattle.plan_store.specs.Views.{Hidden, Sees, with_hidden}
use Rattle.plan_store.proofs.PairLemmas.{leads_nowhere}
use Rattle.daily_planning.specs.Actions.{ArePairsActed, IsActedOn, IsLiveCurrent, LeadsToRowPairs}
use Rattle.daily_planning.specs.Statuses.{LeavesPairs}
use Rattle.daily_planning.proofs.ActLemmas.{deletion_loses}
use Rattle.daily_planning.proofs.ChangeLemmas.{no_pairs_move}
use Rattle.daily_planning.proofs.ResetLemmas.{reset_are, reset_leads}
use Rattle.daily_planning.proofs.StatusLemmas.{action_pairs}
use Rattle.daily_planning.proofs.actions.acted_pairs.Goals as goal

weaker : {A E : Type 0} (r : Result A E) (P Q : A → Type 0) → ((a : A) → P a → Q a) → IfOk r P → IfOk r Q
weaker (Ok a) P Q f is = f a is
weaker (Err e) P Q f is = tt

pub returns-in-Start-clause-pairs : goal.returns-in-Start-clause-pairs
returns-in-Start-clause-pairs c h sound sees acted =
    let content = with_hidden h c.args.view.now in
    let action = c.args.action in
    let key = c.args.changed.now.row.key in
    let leaves : LeavesPairs action = elim c.in-Start.is [
      | inl is ↦ subst LeavesPairs (sym is) tt
      | inr more ↦ elim more [
        | inl is ↦ subst LeavesPairs (sym is) tt
        | inr is ↦ subst LeavesPairs (sym is) tt
      ]
    ] in
    let change : PairChange = record { removed = c.new.result; added = c.new-in-Start.result } in
    let stay = action_pairs key action leaves content.sets (rows_sound content sound) content.in_force content.pairs
    sound.pairs.settled in
    subst (ArePairs content.pairs content.in_force (each (action_move key action) content.sets))
    (sym (no_pairs_move change c.new.ensures c.new-in-Start.ensures content.pairs)) stay

pub returns-in-Start-clause-leads : goal.returns-in-Start-clause-leads
returns-in-Start-clause-leads c h sound sees acted =
    let change : PairChange = record { removed = c.new.result; added = c.new-in-Start.result } in
    leads_nowhere change (with_hidden h c.args.view.now).pairs c.new.ensures c.new-in-Start.ensures

pub returns-in-Reset-clause-pairs : goal.returns-in-Reset-clause-pairs
returns-in-Reset-clause-pairs c = weaker c.reset_pairs.result
    (λ (change : PairChange). (h : Hidden) → IsSound (with_hidden h c.args.view.now)
    → Sees (Some c.args.changed.now.row.key) (ReadsKey (with_hidden h c.args.view.now) c.args.changed.now.row.key) h
    c.args.view.now
    → IsLiveCurrent (with_hidden h c.args.view.now).sets c.args.changed.now.row
    → LeadsToRowPairs (with_hidden h c.args.view.now) c.args.changed.now.row change) _ (λ change leads h sound sees acted.
    let content = with_hidden h c.args.view.now in
    let changed = c.args.changed.now in
    let reset = subst (λ (a : Action). IsActedOn content a changed) c.in-Reset.is acted in
    subst (λ (a : Action). ArePairsActed content a changed (pairs_after change content.pairs)) (sym c.in-Reset.is)
    (reset_are content sound changed reset change (leads h sound sees (acted.was, acted.stands, acted.live)))) c.reset_pairs.ensures

pub returns-in-Reset-clause-leads : goal.returns-in-Reset-clause-leads
returns-in-Reset-clause-leads c = weaker c.reset_pairs.result
    (λ (change : PairChange). (h : Hidden) → IsSound (with_hidden h c.args.view.now)
    → Sees (Some c.args.changed.now.row.key) (ReadsKey (with_hidden h c.args.view.now) c.args.changed.now.row.key) h
    c.args.view.now
    → IsLiveCurrent (with_hidden h c.args.view.now).sets c.args.changed.now.row
    → LeadsToRowPairs (with_hidden h c.args.view.now) c.args.changed.now.row change) _ (λ change leads h sound sees acted.
    reset_leads (with_hidden h c.args.view.now) c.args.changed.now.row change (leads h sound sees
    (acted.was, acted.stands, acted.live))) c.reset_pairs.ensures

pub returns-in-Delete-clause-pairs : goal.returns-in-Delete-clause-pairs
returns-in-Delete-clause-pairs c = weaker c.pairs_without.result _ _ (λ (change : PairChange) without h sound sees acted.
    let content = with_hidden h c.args.view.now in
    let changed = c.args.changed.now in
    let action = c.args.action in
    (without h sound sees (each (action_move changed.row.key action) content.sets)
    (deletion_loses content sound action changed acted c.in-Delete.is)).0) c.pairs_without.ensures

pub returns-in-Delete-clause-leads : goal.returns-in-Delete-clause-leads
returns-in-Delete-clause-leads c = weaker c.pairs_without.result _ _ (λ (change : PairChange) without h sound sees acted.
    let content = with_hidden h c.args.view.now in
    let changed = c.args.changed.now in
    let action = c.args.action in
    (without h sound sees (each (action_move changed.row.key action) content.sets)
    (deletion_loses content sound action changed acted c.in-Delete.is)).1) c.pairs_without.ensures
