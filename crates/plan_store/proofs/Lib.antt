mod AppDeletionLemmas
mod AppPairLemmas
mod ArrivalLemmas
mod ReadLemmas
mod EmittedLemmas
pub mod EndLemmas
mod LackLemmas
pub mod FitLemmas
mod FittingLemmas
mod JobLemmas
mod LastLemmas
mod ListedLemmas
mod ListingLemmas
mod MoveLemmas
mod OrderLemmas
pub mod PairLemmas
mod PartLemmas
pub mod PlaceLemmas
mod QueryLemmas
mod SeatedLemmas
mod SerialLemmas
mod ShownLemmas
mod SliceLemmas
mod SomeListing
pub mod SpanLemmas
pub mod StagedLemmas
pub mod ViewLemmas
pub mod WindowLemmas
