pub mod KindLemmas
pub mod AloneLemmas
pub mod TakingLemmas
pub mod LinkLemmas
pub mod ManyLemmas
pub mod OneListLemmas
pub mod PairLemmas
pub mod TurnLemmas
