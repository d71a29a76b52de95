pub mod Fault
pub mod Interval
pub mod Limits
pub mod Period
pub mod Places
pub mod Walk
