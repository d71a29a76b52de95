-- What a change makes of lists that have a part of history and of the deletions, by what it makes of the whole.
use Rattle.std.proofs.Common.{◌≡◌, ◌⊎◌, ◌∙◌, ℕ, Bool, false, true, None, Option, Some, ap, inl, inr, refl, subst, sym}
use Rattle.std.specs.Prelude.{◌||◌, if◌then◌else◌, is_some}
use Rattle.std.specs.List.{Contains}
use Rattle.std.proofs.lemmas.Bool.{false≢true}
use Rattle.occurrences.specs.declared.row.Row.{Row}
use Rattle.external_dependencies.specs.declared.pairs.Pair.{Pair}
use Rattle.planner_machine.specs.Content.{Content}
use Rattle.planner_machine.specs.Moves.{or_else}
use Rattle.planner_machine.specs.declared.job.Job.{Job}
use Rattle.plan_store_lists.specs.Rows.{look_up, of_current, of_deletion, of_row}
use Rattle.plan_store_lists.proofs.LookLemmas.{look_some}
use Rattle.plan_store.specs.Changes.{Fits, FitsSet, after, moved_set}
use Rattle.plan_store.specs.Parts.{HasBars, IsPartOf, Knows, Rest, is_planned, rest_of, with_rest}
use Rattle.plan_store.specs.Room.{no_jobs}
use Rattle.plan_store.specs.declared.changes.Change.{Change}
use Rattle.plan_store.specs.declared.changes.Moves.{Moves}
use Rattle.plan_store.proofs.PairLemmas.{pairs_after_contains}
use Rattle.plan_tables_windows.specs.Changes.{KnowsNamed}
use Rattle.plan_tables_windows.proofs.PartLemmas.{lacks_part}

module _ {X : Type 0} where
  -- what moves leave of a part is a part of what they leave of the whole
  step_part : (put changed : Option X) (goes : Bool) (part whole : Option X)
      → ((x : X) → part ≡ Some x → whole ≡ Some x) → (x : X)
      → or_else put (or_else changed (if goes then None else part)) ≡ Some x
      → or_else put (or_else changed (if goes then None else whole)) ≡ Some x
  step_part (Some p) changed goes part whole of x is = is
  step_part None (Some p) goes part whole of x is = is
  step_part None None true part whole of x is = is
  step_part None None false part whole of x is = of x is

  -- what a part has of the whole it has after moves too
  step_has : (put changed : Option X) (goes : Bool) (part whole : Option X) (x : X)
      → (whole ≡ Some x → part ≡ Some x)
      → or_else put (or_else changed (if goes then None else whole)) ≡ Some x
      → or_else put (or_else changed (if goes then None else part)) ≡ Some x
  step_has (Some p) changed goes part whole x has is = is
  step_has None (Some p) goes part whole x has is = is
  step_has None None true part whole x has is = is
  step_has None None false part whole x has is = has is

  -- where something stands after moves, it was put or changed, or stood there
  step_from : (put changed : Option X) (goes : Bool) (old : Option X)
      → is_some (or_else put (or_else changed (if goes then None else old))) ≡ true
      → ((x : X) × (put ≡ Some x)) ⊎ (((x : X) × (changed ≡ Some x)) ⊎ (is_some old ≡ true))
  step_from (Some p) changed goes old is = inl (p, refl)
  step_from None (Some p) goes old is = inr (inl (p, refl))
  step_from None None true old is = absurd (false≢true is)
  step_from None None false old is = inr (inr is)

module _ {X : Type 0} (row_of : X → Row) (moves : Moves X) where
  abbrev serial_of : X → ℕ
  serial_of x = (row_of x).serial

  moved_part : (part whole : ℕ → Option X)
      → ((serial : ℕ) (x : X) → part serial ≡ Some x → whole serial ≡ Some x) → (serial : ℕ) (x : X)
      → moved_set row_of moves part serial ≡ Some x → moved_set row_of moves whole serial ≡ Some x
  moved_part part whole of serial x is = step_part (look_up serial_of moves.put.items serial)
      (look_up serial_of moves.changed.items serial) (is_some (look_up serial_of moves.gone.items serial))
      (part serial) (whole serial) (of serial) x is

  moved_has : (part whole : ℕ → Option X) (serial : ℕ) (x : X) → (whole serial ≡ Some x → part serial ≡ Some x)
      → moved_set row_of moves whole serial ≡ Some x → moved_set row_of moves part serial ≡ Some x
  moved_has part whole serial x has is = step_has (look_up serial_of moves.put.items serial)
      (look_up serial_of moves.changed.items serial) (is_some (look_up serial_of moves.gone.items serial))
      (part serial) (whole serial) x has is

  moved_known : (part whole : ℕ → Option X) (serial : ℕ) → part serial ≡ whole serial
      → moved_set row_of moves part serial ≡ moved_set row_of moves whole serial
  moved_known part whole serial same = ap (λ o. or_else (look_up serial_of moves.put.items serial)
      (or_else (look_up serial_of moves.changed.items serial)
      (if is_some (look_up serial_of moves.gone.items serial) then None else o))) same

  -- what stands in a set after moves was put under that serial, or something stood there
  moved_from : (set : ℕ → Option X) (serial : ℕ) → FitsSet row_of moves set
      → is_some (moved_set row_of moves set serial) ≡ true
      → ((x : X) × Contains moves.put.items x × (serial_of x ≡ serial)) ⊎ (is_some (set serial) ≡ true)
  moved_from set serial fits is = elim (step_from (look_up serial_of moves.put.items serial)
      (look_up serial_of moves.changed.items serial) (is_some (look_up serial_of moves.gone.items serial))
      (set serial) is) [
        | inl put ↦
            let at = look_some serial_of moves.put.items serial put.0 put.1 in
            inl (put.0, at.0, at.1)
        | inr (inl changed) ↦
            let at = look_some serial_of moves.changed.items serial changed.0 changed.1 in
            let was = fits.changes changed.0 at.0 in
            inr (ap is_some (ap set (sym at.1) ∙ was.1))
        | inr (inr stood) ↦ inr stood
      ]

  -- what fits the whole fits a part where what goes or changes is known
  fits_part : (part whole : ℕ → Option X) → ((serial : ℕ) (x : X) → part serial ≡ Some x → whole serial ≡ Some x)
      → ((x : X) → Contains moves.gone.items x → part (serial_of x) ≡ whole (serial_of x))
      → ((x : X) → Contains moves.changed.items x → part (serial_of x) ≡ whole (serial_of x))
      → FitsSet row_of moves whole → FitsSet row_of moves part
  fits_part part whole of gone changed fits = record {
    gone_once = fits.gone_once;
    changed_once = fits.changed_once;
    put_once = fits.put_once;
    goes = λ x there. gone x there ∙ fits.goes x there;
    changes = λ x there. let was = fits.changes x there in (was.0, changed x there ∙ was.1, was.2);
    stays = fits.stays;
    new = λ x there.
        let none = fits.new x there in
        lacks_part (part (serial_of x)) (whole (serial_of x)) (of (serial_of x)) none ∙ none;
  }

module _ (rest : Rest) (c : Content) (change : Change) (part : IsPartOf rest c) (knows : KnowsNamed rest change c)
    (fits : Fits change (with_rest rest c)) where
  -- a change that the whole admits fits the lists, which keep no job
  pub change_fits : c.jobs ≡ no_jobs → Fits change c
  change_fits none = record {
    ltp = fits.ltp;
    cp = fits.cp;
    history = fits_part of_row change.history c.sets.history rest.history part.history knows.gone knows.changed
        fits.history;
    deletions = fits_part of_deletion change.deletions c.sets.deletions rest.deletions part.deletions
        knows.gone_deletions knows.changed_deletions fits.deletions;
    job = λ job is. ap (λ (jobs : ℕ → Option Job). jobs job.number) none;
  }

  -- the predecessors of what is planned after the change are known before it
  planned_before : (pair : Pair) → Contains c.pairs pair → is_planned (after change c).sets pair.successor ≡ true
      → Knows rest c pair.predecessor
  planned_before pair there planned = elim (is_some ((after change c).sets.ltp pair.successor)) as
      (λ b. is_some ((after change c).sets.ltp pair.successor) ≡ b
      → (b || is_some ((after change c).sets.cp pair.successor)) ≡ true → Knows rest c pair.predecessor) [
        | true ↦ λ in_ltp _. elim (moved_from of_row change.ltp c.sets.ltp pair.successor fits.ltp in_ltp) [
          | inl put ↦ knows.ltp put.0 put.1 pair there (sym put.2)
          | inr stood ↦ part.named pair there (ap (λ b. b || is_some (c.sets.cp pair.successor)) stood)
        ]
        | false ↦ λ _ in_cp. elim (moved_from of_current change.cp c.sets.cp pair.successor fits.cp in_cp) [
          | inl put ↦ knows.cp put.0 put.1 pair there (sym put.2)
          | inr stood ↦ part.named pair there (or_later (is_some (c.sets.ltp pair.successor)) stood)
        ]
      ] refl planned
    where
      or_later : (a : Bool) {b : Bool} → b ≡ true → (a || b) ≡ true
      or_later true is = refl
      or_later false is = is

  -- what keeps keys from being made after the change is there before it, if it stood there
  bars_before : HasBars (or_else change.bounds c.sets.bounds) rest c
  bars_before = elim change.bounds as (λ o. change.bounds ≡ o → HasBars (or_else o c.sets.bounds) rest c) [
    | None ↦ λ _. part.bars
    | Some b ↦ λ is. subst (λ o. HasBars o rest c) is knows.bars
  ] refl

  -- what was known stays known
  pub change_knows : (job : Option Job) (serial : ℕ) → Knows rest c serial
      → Knows (rest_of (after change (with_rest rest c))) (after (record change { job = job }) c) serial
  change_knows job serial known = moved_known of_row change.history c.sets.history rest.history serial known

  -- the lists have a part of what the change makes of the whole
  pub change_part : (job : Option Job)
      → IsPartOf (rest_of (after change (with_rest rest c))) (after (record change { job = job }) c)
  change_part job = record {
    history = moved_part of_row change.history c.sets.history rest.history part.history;
    deletions = moved_part of_deletion change.deletions c.sets.deletions rest.deletions part.deletions;
    named = λ pair there planned. change_knows job pair.predecessor
        (elim ((pairs_after_contains change.pairs c.pairs pair).0 there) [
          | inl new ↦ knows.added pair new
          | inr old ↦ planned_before pair old.0 planned
        ]);
    bars = λ serial deletion is barred. moved_has of_deletion change.deletions c.sets.deletions rest.deletions serial
        deletion (λ stood. bars_before serial deletion stood barred) is;
  }

-- and with the rest they are what it makes of the whole
pub change_whole : (rest : Rest) (c : Content) (change : Change) (job : Option Job)
    → with_rest (rest_of (after change (with_rest rest c))) (after (record change { job = job }) c)
    ≡ after change (with_rest rest c)
change_whole rest c change job = refl
