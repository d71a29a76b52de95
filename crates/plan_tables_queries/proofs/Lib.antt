pub mod FindLemmas
pub mod TestLemmas
pub mod RowLemmas
mod ToldLemmas
pub mod SerialLemmas
pub mod NumberLemmas
pub mod LastLemmas
pub mod DeletionLemmas
pub mod AllLemmas
pub mod CollectLemmas
mod OfAppLemmas
pub mod TellLemmas
pub mod OrderLemmas
pub mod StandingLemmas
pub mod KnownLemmas
pub mod ListingLemmas
pub mod SetLemmas
pub mod ListsLemmas
