pub mod Decoded
pub mod SameOptions
pub mod DefinitionLemmas
pub mod AnswerLemmas
pub mod OneContent
mod SetLemmas
