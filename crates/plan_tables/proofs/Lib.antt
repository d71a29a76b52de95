mod BegunLemmas
mod GoneLemmas
pub mod StoredLemmas
mod SeekLemmas
mod WhyLemmas
mod WindowLemmas
mod ListLemmas
mod EndLemmas
pub mod LookLemmas
pub mod SessionLemmas
mod CommitLemmas
pub mod MetLemmas
pub mod SetLemmas
mod SoundLemmas
pub mod StorableMoves
pub mod UnopenedLemmas
mod UnreadLemmas
pub mod FoundLemmas
pub mod RefusedLemmas
pub mod ToldLemmas
pub mod CopiedLemmas
pub mod CutLemmas
pub mod CauseLemmas
pub mod AgainLemmas
