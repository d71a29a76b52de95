-- `define` and `undefine`: definitions change, and the plans stay as they are.
use Rattle.std.specs.Prelude.{◌≡◌, ℕ, List}
use Rattle.app_definitions.specs.Definitions.{IsDefined, merged, names_given, without}
use Rattle.app_definitions.specs.declared.kinds.Block.{Block}
use Rattle.app_definitions.specs.declared.kinds.Kind.{Kind}
use Rattle.occurrences.specs.declared.refusal.Refusal.{Refusal}
use Rattle.occurrences.specs.declared.refusal.Refusal.TheVariants.{NotDefined}
use Rattle.occurrences.specs.declared.reply.Reply.TheVariants.{Defined, Undefined}
use Rattle.planner_machine.specs.Content.{Content}
use Rattle.planner_machine.specs.Decision.{Decision}
use Rattle.app_definitions.specs.Blocks.{ReadsAs}
use Rattle.planner_machine.specs.Meaning.{Meaning, means}
use Rattle.planner_machine.specs.Sound.{IsShown}

-- `define` with a block that was read: each name that it gives is replaced whole, and all others stay
abbrev pub define : Block → Decision Content
define block = record {
  Refuses = λ c r. ⊥;
  Does = λ c reply c'. (reply ≡ Defined (names_given block))
      × (c' ≡ record c { definitions = merged c.definitions block });
}

abbrev pub UndefineRefused : Kind → List ℕ → Content → Refusal → Type 0
UndefineRefused kind name c NotDefined = IsDefined c.definitions kind name → ⊥
UndefineRefused kind name c _ = ⊥

-- one name of one kind is removed
abbrev pub undefine : Kind → List ℕ → Decision Content
undefine kind name = record {
  Refuses = UndefineRefused kind name;
  Does = λ c reply c'. (reply ≡ Undefined) × (c' ≡ record c { definitions = without c.definitions kind name });
}

-- the block was read from some text and gives no more names than a reply can show
abbrev pub define_means : Block → Meaning
define_means block = record (means (define block)) {
  fits = IsShown (names_given block) × ((kind : Kind) × (text : List ℕ) × ReadsAs kind text block);
  redefines = Unit {0};
}

abbrev pub undefine_means : Kind → List ℕ → Meaning
undefine_means kind name = record (means (undefine kind name)) { redefines = Unit {0} }
