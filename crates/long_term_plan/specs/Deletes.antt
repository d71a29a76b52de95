-- What a deletion from the long-term plan changes.
use Rattle.std.specs.Prelude.{◌≡◌, [], ◌∷◌, None}
use Rattle.occurrences.specs.declared.reply.Reply.TheVariants.{Numbered}
use Rattle.occurrences.specs.declared.row.Row.{Row}
use Rattle.planner_machine.specs.Content.{Content}
use Rattle.planner_machine.specs.Delete.{deleted_by_hand, delete_move}
use Rattle.planner_machine.specs.Moves.{each}
use Rattle.planner_machine.specs.Pairs.{ArePairs}
use Rattle.plan_store.specs.Changes.{LeadsOn, MovesNothing, pairs_after}
use Rattle.plan_store.specs.declared.changes.Change.{Change}
use Rattle.plan_store.specs.declared.changes.Verdict.{Verdict}
use Rattle.plan_store.specs.declared.changes.Verdict.TheVariants.{Done, Refused}
use Rattle.plan_store.specs.declared.changes.DefinitionChange.TheVariants.{AsBefore}

-- the row is moved from the long-term plan to the deletions, the pairs follow, and all else stays
pub record IsDeletionOf (c : Content) (row : Row) (change : Change) : Type 0 where
  pub gone : change.ltp.gone.items ≡ row ∷ []
  pub unchanged : change.ltp.changed.items ≡ []
  pub nothing_put : change.ltp.put.items ≡ []
  pub none_gone : change.deletions.gone.items ≡ []
  pub none_changed : change.deletions.changed.items ≡ []
  pub put : change.deletions.put.items ≡ deleted_by_hand row ∷ []
  pub cp : MovesNothing change.cp
  pub history : MovesNothing change.history
  pub definitions : change.definitions ≡ AsBefore
  pub bounds : change.bounds ≡ None
  pub issued : change.issued ≡ None
  pub in_force : change.in_force ≡ None
  pub job : change.job ≡ None
  pub pairs : ArePairs c.pairs c.in_force (each (delete_move row.key) c.sets) (pairs_after change.pairs c.pairs)
  pub leads : LeadsOn c.pairs change.pairs

-- the statement is done so, and its reply has the serial
abbrev pub DeletesRow : Content → Row → Verdict → Type 0
DeletesRow c row (Done change reply) = IsDeletionOf c row change × (reply ≡ Numbered row.serial)
DeletesRow c row (Refused refusal) = ⊥
