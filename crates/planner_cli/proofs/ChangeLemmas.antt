-- What changes of the definitions, and kept jobs, make of a content.
use Rattle.std.proofs.Common.{◌≡◌, ◌∙◌, ℕ, List, [], ◌∷◌, refl, sym, ap, subst, arith, Bool, true, Option, None, Some}
use Rattle.std.specs.Prelude.{Ok, filter, nat_eq, if◌then◌else◌, unwrap_or}
use Rattle.std.specs.List.{Contains}
use Rattle.external_dependencies.specs.declared.change.PairChange.{PairChange}
use Rattle.external_dependencies.specs.declared.pairs.Pair.{Pair}
use Rattle.occurrences.specs.declared.row.Row.{Row}
use Rattle.occurrences.specs.declared.reply.Reply.{Reply}
use Rattle.planner_machine.specs.Content.{Content}
use Rattle.planner_machine.specs.Decision.{Decides}
use Rattle.planner_machine.specs.Jobs.{with_job}
use Rattle.planner_machine.specs.Moves.{or_else}
use Rattle.planner_machine.specs.Statement.{Change as MachineChange, decision_of}
use Rattle.planner_machine.specs.declared.job.Job.{Job}
use Rattle.planner_machine.proofs.ChangeLemmas.{lawful_of}
use Rattle.plan_store_lists.specs.Rows.{HasEachOnce, of_current, of_deletion, of_row}
use Rattle.plan_store.specs.Changes.{ChangesNothing, Fits, FitsSet, LeadsOn, MovesNothing, after, jobs_after}
use Rattle.plan_store.specs.Changes.{lists_after, moved_set, pairs_after, redefined}
use Rattle.plan_store.proofs.PairLemmas.{leads_nowhere}
use Rattle.plan_store.specs.declared.changes.Change.{Change}
use Rattle.plan_store.specs.declared.changes.DefinitionChange.{DefinitionChange}
use Rattle.plan_store.specs.declared.changes.DefinitionChange.TheVariants.{AsBefore}
use Rattle.plan_store.specs.declared.changes.Moves.{Moves}

nothing_there : {X : Type 0} (x : X) → Contains [] x → ⊥
nothing_there x (k, lt, at) = omega (arith, lt)

once_nothing : {X : Type 0} (row_of : X → Row) → HasEachOnce row_of []
once_nothing row_of i j d below lt same = omega (arith, lt)

filter_all : {X : Type 0} (p : X → Bool) (xs : List X) → ((x : X) → p x ≡ true) → filter p xs ≡ xs
filter_all p [] all = refl
filter_all p (y ∷ ys) all = let is : p y ≡ true = all y in rw is (ap (λ l. y ∷ l) (filter_all p ys all))

no_pairs_move : (change : PairChange) → change.removed ≡ [] → change.added ≡ [] → (pairs : List Pair)
    → pairs_after change pairs ≡ pairs
no_pairs_move change removed added pairs = rw (removed, added) (filter_all _ pairs (λ x. refl))

-- nothing moves in a set
unmoved : {X : Type 0} (row_of : X → Row) (moves : Moves X) → MovesNothing moves → (old : ℕ → Option X) (serial : ℕ)
    → moved_set row_of moves old serial ≡ old serial
unmoved row_of moves none old serial = rw (none.gone, none.changed, none.put) refl

fits_unmoved : {X : Type 0} (row_of : X → Row) (moves : Moves X) → MovesNothing moves → (set : ℕ → Option X)
    → FitsSet row_of moves set
fits_unmoved {X} row_of moves none set = record {
  gone_once = subst (HasEachOnce row_of) (sym none.gone) (once_nothing row_of);
  changed_once = subst (HasEachOnce row_of) (sym none.changed) (once_nothing row_of);
  put_once = subst (HasEachOnce row_of) (sym none.put) (once_nothing row_of);
  goes = λ x there. absurd (nothing_there x (subst (λ (l : List X). Contains l x) none.gone there));
  changes = λ x there. absurd (nothing_there x (subst (λ (l : List X). Contains l x) none.changed there));
  stays = λ x there. absurd (nothing_there x (subst (λ (l : List X). Contains l x) none.changed there));
  new = λ x there. absurd (nothing_there x (subst (λ (l : List X). Contains l x) none.put there));
}

-- a change of the definitions alone
pub record Redefines (change : Change) (d : DefinitionChange) : Type 0 where
  pub definitions : change.definitions ≡ d
  pub bounds : change.bounds ≡ None
  pub issued : change.issued ≡ None
  pub in_force : change.in_force ≡ None
  pub ltp : MovesNothing change.ltp
  pub cp : MovesNothing change.cp
  pub history : MovesNothing change.history
  pub deletions : MovesNothing change.deletions
  pub removed : change.pairs.removed ≡ []
  pub added : change.pairs.added ≡ []
  pub job : change.job ≡ None

pub redefines : (none : Change) (d : DefinitionChange) → ChangesNothing none
    → Redefines (record none { definitions = d }) d
redefines none d nothing_changes = record {
  definitions = refl;
  bounds = nothing_changes.bounds;
  issued = nothing_changes.issued;
  in_force = nothing_changes.in_force;
  ltp = nothing_changes.ltp;
  cp = nothing_changes.cp;
  history = nothing_changes.history;
  deletions = nothing_changes.deletions;
  removed = nothing_changes.removed;
  added = nothing_changes.added;
  job = nothing_changes.job;
}

pub leads_redefined : (change : Change) (d : DefinitionChange) → Redefines change d → (c : Content)
    → LeadsOn c.pairs change.pairs
leads_redefined change d r c = leads_nowhere change.pairs c.pairs r.removed r.added

pub redefined_so : (change : Change) (d : DefinitionChange) → Redefines change d → (c : Content)
    → after change c ≡ record c { definitions = redefined d c.definitions }
redefined_so change d r c = λ i. record {
  definitions = redefined (r.definitions i) c.definitions;
  sets = record {
    bounds = or_else (r.bounds i) c.sets.bounds;
    issued = unwrap_or (r.issued i) c.sets.issued;
    ltp = λ serial. (unmoved of_row change.ltp r.ltp c.sets.ltp serial) i;
    cp = λ serial. (unmoved of_current change.cp r.cp c.sets.cp serial) i;
    history = λ serial. (unmoved of_row change.history r.history c.sets.history serial) i;
    deletions = λ serial. (unmoved of_deletion change.deletions r.deletions c.sets.deletions serial) i;
  };
  in_force = lists_after (r.in_force i) c.in_force;
  pairs = (no_pairs_move change.pairs r.removed r.added c.pairs) i;
  jobs = λ number. (ap (λ o. jobs_after o c.jobs number) r.job) i;
}

no_job : (change : Change) → change.job ≡ None → (c : Content) (job : Job) → change.job ≡ Some job
    → c.jobs job.number ≡ None
no_job change none c job some = absurd (let no : None ≡ Some job = sym none ∙ some in let h : ⊥ = cc no in h)

pub fits_redefined : (change : Change) (d : DefinitionChange) → Redefines change d → (c : Content) → Fits change c
fits_redefined change d r c = record {
  ltp = fits_unmoved of_row change.ltp r.ltp c.sets.ltp;
  cp = fits_unmoved of_current change.cp r.cp c.sets.cp;
  history = fits_unmoved of_row change.history r.history c.sets.history;
  deletions = fits_unmoved of_deletion change.deletions r.deletions c.sets.deletions;
  job = no_job change r.job c;
}

pub after_with_job : (change : Change) (job : Job) (c : Content) → (after change c).jobs ≡ c.jobs
    → after (record change { job = Some job }) c ≡ with_job job (after change c)
after_with_job change job c jobs = λ i. record {
  definitions = (after change c).definitions;
  sets = (after change c).sets;
  in_force = (after change c).in_force;
  pairs = (after change c).pairs;
  jobs = λ number. if nat_eq job.number number then Some job else (sym jobs) i number;
}

-- no change of the machine touches the kept jobs
pub keeps_jobs : (change : MachineChange) (c : Content) (reply : Reply) (c' : Content)
    → Decides (decision_of change) c (Ok reply) c' → c'.jobs ≡ c.jobs
keeps_jobs change c reply c' (good, does) = (lawful_of change).jobs c reply c' does

pub nothing_changed : (none : Change) → ChangesNothing none → (c : Content) → after none c ≡ c
nothing_changed none is c = redefined_so none AsBefore (record {
  definitions = is.definitions;
  bounds = is.bounds;
  issued = is.issued;
  in_force = is.in_force;
  ltp = is.ltp;
  cp = is.cp;
  history = is.history;
  deletions = is.deletions;
  removed = is.removed;
  added = is.added;
  job = is.job;
}) c
