pub mod ArrivalBlockLemmas
pub mod BlockLemmas
pub mod EditLemmas
pub mod KeyLemmas
pub mod LinkBlockLemmas
mod MergeLemmas
mod MoveLemmas
pub mod PairBlockLemmas
mod RangeLemmas
mod RiseLemmas
pub mod RoomLemmas
pub mod RowBlockLemmas
pub mod RowListLemmas
pub mod RunLemmas
pub mod SeatLemmas
pub mod SliceLemmas
mod ThinLemmas
pub mod LookLemmas
