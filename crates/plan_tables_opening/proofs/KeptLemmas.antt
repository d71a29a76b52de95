-- What a database sees that was not opened, or not asked.
use Rattle.std.proofs.Common.{◌≡◌, ◌∙◌, inl, inr, refl, sym}
use Rattle.std.specs.Prelude.{IsTrue}
use Rattle.sqlite.specs.State.{IsUnchanged, State}
use Rattle.plan_tables_schema.specs.Rows.{StaysOrIsUndone}
use Rattle.plan_tables_opening.specs.Kept.{IsKept, IsUntouched}

pub kept_if_same : (old new : State) → IsUnchanged old new → IsKept old new
kept_if_same old new same = record { now = λ _. same.0.now_is; committed = λ _. same.0.committed_is }

-- outside a transaction nothing is undone that it saw
pub kept_if_left : (old new : State) → (IsTrue old.is_open → old.now ≡ old.committed) → StaysOrIsUndone old new
    → IsKept old new
kept_if_left old new settled (inl same) = kept_if_same old new same
kept_if_left old new settled (inr undone) = record {
  now = λ up. (undone.undone up).0 ∙ sym (settled (undone.was_open up));
  committed = λ up. (undone.undone up).1;
}

pub kept_if_untouched : (old new : State) → IsUntouched old new → IsKept old new
kept_if_untouched old new same = record { now = λ _. same.now; committed = λ _. same.committed }

pub untouched : (s : State) → IsUntouched s s
untouched s = record {
  now = refl;
  committed = refl;
  in_transaction = refl;
  marks = refl;
  is_open = refl;
  faults = refl;
  blamed = refl;
  changes = refl;
  last_rowid = refl;
  step_limit = refl;
  crash = λ db may. may;
}
