-- What a statement means: its row in the table of statements. Each statement's file ends in its own.
use Rattle.std.specs.Prelude.{◌≡◌, List, [], Option}
use Rattle.app_definitions.specs.declared.definitions.Definitions.{Definitions}
use Rattle.occurrences.specs.declared.place.Place.{Place}
use Rattle.occurrences.specs.declared.place.Place.TheVariants.{LongTerm}
use Rattle.planner_machine.specs.declared.content.Bounds.{Bounds}
use Rattle.planner_machine.specs.declared.content.Draft.{Draft}
use Rattle.planner_machine.specs.Content.{Content, Sets}
use Rattle.planner_machine.specs.Decision.{Decision}
use Rattle.planner_machine.specs.Fate.{Fate, Stays}

pub record Meaning : Type 1 where
  -- why it is refused, and what it does
  pub decision : Decision Content
  -- where it leaves an occurrence, where it is accepted, by the definitions and bounds of that moment
  pub fate : Definitions → Option Bounds → Fate
  -- the occurrences that it makes, as drafts in the order of their serials, and where they are made
  pub makes : Definitions → Sets → List Draft → Type 0
  pub place : Place
  -- its values are such as a line and a block can give
  pub fits : Type 0
  -- it changes definitions
  pub redefines : Type 0

-- a statement that leaves each occurrence where it is, makes none, takes any values and changes no definition: the
-- others are this one but for what they say
abbrev pub means : Decision Content → Meaning
means decision = record {
  decision = decision;
  fate = λ all bounds. Stays;
  makes = λ all s drafts. drafts ≡ [];
  place = LongTerm;
  fits = Unit {0};
  redefines = ⊥;
}
