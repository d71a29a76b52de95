pub mod Changes
pub mod Unknown
pub mod Windows
pub mod Loading
pub mod Fetching
