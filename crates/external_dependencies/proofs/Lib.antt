pub mod ExactLemmas
mod FallingLemmas
mod GatherLemmas
mod GraphLemmas
pub mod HoldsLemmas
mod LawLemmas
pub mod LexLemmas
mod LoopLemmas
pub mod MapLemmas
pub mod NearestLemmas
pub mod OrderLemmas
pub mod PairLemmas
mod PartLemmas
mod PlaceLemmas
pub mod RingLemmas
pub mod RisingLemmas
mod SameListLemmas
mod SearchLemmas
mod StayLemmas
mod ToldLemmas
pub mod TouchLemmas
mod UnreachedLemmas
mod VisitLemmas
mod WalkLemmas
