pub mod InTurn
pub mod Writing
pub mod Redefining
pub mod Accepted
