pub mod Question
pub mod Looks
pub mod Emitting
pub mod Finding
pub mod Last
