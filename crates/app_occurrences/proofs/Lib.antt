pub mod LinkLemmas
pub mod CalendarIndexLemmas
pub mod NamedLemmas
pub mod LeastLemmas
