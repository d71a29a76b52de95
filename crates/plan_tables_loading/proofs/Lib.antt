pub mod CellLemmas
pub mod ListLemmas
pub mod FactLemmas
pub mod MadeLemmas
pub mod LookLemmas
pub mod TableLemmas
pub mod CollectLemmas
pub mod OrderLemmas
pub mod LineLemmas
pub mod AnswerLemmas
pub mod LinkLemmas
pub mod RowidLemmas
mod PairLemmas
mod PairTexts
mod PairEmitLemmas
