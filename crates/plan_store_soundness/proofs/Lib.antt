pub mod ClosedLemmas
pub mod ClosedPairLemmas
pub mod DistinctLemmas
pub mod EdgeLemmas
pub mod JobLemmas
mod ListingLemmas
pub mod NodeLemmas
pub mod NumberedLemmas
pub mod PairLemmas
pub mod RangeLemmas
pub mod RuleLemmas
pub mod SeatLemmas
pub mod SizeLemmas
pub mod TableLemmas
