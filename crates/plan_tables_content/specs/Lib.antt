pub mod Facts
pub mod Content
pub mod Decoded
pub mod DecodedSets
