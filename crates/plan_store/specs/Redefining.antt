-- A change of definitions that is begun, and then committed or rolled back.
use Rattle.std.specs.Prelude.{⊤}
use Rattle.app_definitions.specs.Definitions.{merged, without}
use Rattle.app_definitions.specs.Replacing.{CanPutBack, put_back}
use Rattle.app_definitions.specs.declared.definitions.Definitions.{Definitions}
use Rattle.plan_store.specs.declared.changes.DefinitionChange.{DefinitionChange}
use Rattle.plan_store.specs.declared.changes.DefinitionChange.TheVariants.{AsBefore, Merged, Removed}
use Rattle.plan_store.specs.declared.redefining.Redefining.{Redefining}
use Rattle.plan_store.specs.declared.redefining.Redefining.TheVariants.{Nothing, Came, Goes}

-- once a change is begun a block's definitions are there, and what it removes is still there
abbrev pub half_redefined : DefinitionChange → Definitions → Definitions
half_redefined AsBefore all = all
half_redefined (Merged block) all = merged all block
half_redefined (Removed kind name) all = all

-- after the commit that is gone
abbrev pub ended : Redefining → Definitions → Definitions
ended Nothing all = all
ended (Came was) all = all
ended (Goes kind name) all = without all kind name

-- after a rollback, the names of a block have what they had before
abbrev pub undone : Redefining → Definitions → Definitions
undone Nothing all = all
undone (Came was) all = put_back was all
undone (Goes kind name) all = all

-- it can be rolled back without room
abbrev pub CanUndo : Redefining → Definitions → Type 0
CanUndo Nothing all = ⊤
CanUndo (Came was) all = CanPutBack was all
CanUndo (Goes kind name) all = ⊤
