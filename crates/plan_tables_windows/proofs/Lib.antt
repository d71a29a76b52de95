pub mod ChangeLemmas
pub mod PartLemmas
mod PartSetLemmas
pub mod SoundLemmas
mod UnknownLemmas
pub mod WindowLemmas
mod SetLemmas
pub mod BarLemmas
pub mod LoadLemmas
pub mod EachLemmas
pub mod FetchLemmas
pub mod NeedLemmas
