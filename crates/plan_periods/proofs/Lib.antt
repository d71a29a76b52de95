pub mod FaultLemmas
pub mod ListedLemmas
pub mod StepLemmas
pub mod WalkLemmas
