pub mod Blocks
pub mod Definitions
pub mod Laws
pub mod Limits
pub mod Options
pub mod Replacing
