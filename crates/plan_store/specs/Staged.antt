-- A change that is staged, and then finished or cancelled.
use Rattle.std.specs.Prelude.{◌≡◌, [], None}
use Rattle.planner_machine.specs.Content.{Content}
use Rattle.plan_store_lists.specs.Blocks.{items_of}
use Rattle.plan_store.specs.Changes.{Fits, redefined}
use Rattle.plan_store.specs.Contents.{content_of}
use Rattle.plan_store.specs.Redefining.{CanUndo, ended, half_redefined, undone}
use Rattle.plan_store.specs.Room.{HasRoom, with_definitions, with_pairs_of}
use Rattle.plan_store.specs.declared.changes.Change.{Change}
use Rattle.plan_store.specs.declared.changes.DefinitionChange.TheVariants.{AsBefore}
use Rattle.plan_store.specs.declared.contents.Content.{Content as Kept}
use Rattle.plan_store.specs.declared.staged.Staged.{Staged}

-- the change without its job
abbrev pub jobless : Change → Change
jobless change = record change { job = None }

-- what is left of the change fits the content, has its room and changes no definitions; and these can be put back
pub record IsReady (kept : Kept) (staged : Staged) : Type 0 where
  pub fits : Fits staged.rest (content_of kept)
  pub room : HasRoom staged.rest kept staged.pairs
  pub defined : staged.rest.definitions ≡ AsBefore
  pub can_undo : CanUndo staged.redefining (content_of kept).definitions

-- what was staged is this change of that content: its definitions are left out of the rest; of the content the pairs
-- are taken out and the definitions are half changed, from where they can be ended or undone
pub record IsStagedFor (change : Change) (before kept : Content) (staged : Staged) : Type 0 where
  pub rest : staged.rest ≡ record change { definitions = AsBefore }
  pub pairs : items_of staged.pairs ≡ before.pairs
  pub halves : kept ≡ with_definitions (half_redefined change.definitions before.definitions)
      (with_pairs_of [] before)
  pub ends : ended staged.redefining kept.definitions ≡ redefined change.definitions before.definitions
  pub undoes : undone staged.redefining kept.definitions ≡ before.definitions
