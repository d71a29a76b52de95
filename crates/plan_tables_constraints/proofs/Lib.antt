mod Held
mod RowFits
mod FormRows
mod RowTakes
mod SetMoves
mod MovedSets
mod ChangeLemmas
pub mod ContentAfter
mod NameTables
mod NamedRows
pub mod DefinitionFacts
mod EachTaken
mod SetsTaken
mod ChangeTaken
mod OffsetParents
mod OneRow
mod DefinitionCells
mod NamedTaken
