pub mod OptionLemmas
pub mod OneBlock
pub mod BlockNames
pub mod RolledBack
