pub mod FirstSchema
pub mod FirstTexts
pub mod Types
pub mod Refusals
pub mod Turns
pub mod Remaking
pub mod Leaving
