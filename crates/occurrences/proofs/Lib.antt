pub mod KeyLemmas
pub mod OrderLemmas
pub mod RowLemmas
