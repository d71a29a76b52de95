pub mod Key
pub mod Limits
pub mod Order
pub mod Place
pub mod Refusal
pub mod Row
pub mod Serial
pub mod Status
