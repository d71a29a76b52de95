pub mod AdditionLemmas
pub mod ReadLemmas
pub mod ChangeLemmas
mod EachLemmas
mod GatherLemmas
mod NearLemmas
mod OneMoreLemmas
mod PairInLemmas
mod ComesLemmas
mod GoesLemmas
pub mod GatheredLemmas
pub mod ListLemmas
pub mod PartLemmas
pub mod LaterLemmas
mod LiveLemmas
pub mod PlannedLemmas
pub mod RowLemmas
pub mod RowPairLemmas
pub mod ScratchLemmas
pub mod SeenLemmas
pub mod SetLemmas
pub mod TouchLemmas
mod ThenLemmas
pub mod TouchedLemmas
pub mod TurnLemmas
