pub mod Arrivals
pub mod Closed
pub mod Listing
pub mod Pairs
pub mod Ranges
pub mod Rules
pub mod Seats
