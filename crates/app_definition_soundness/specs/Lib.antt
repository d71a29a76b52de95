pub mod Given
pub mod Values
