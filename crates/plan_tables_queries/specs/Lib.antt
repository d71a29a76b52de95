pub mod Decoding
pub mod Finding
pub mod Deletions
pub mod Last
pub mod OfApp
pub mod Listing
pub mod ListedRows
