pub mod Room
pub mod Accepted
