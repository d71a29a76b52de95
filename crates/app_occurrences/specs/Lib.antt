pub mod Active
pub mod Links
pub mod CalendarIndex
pub mod NamedOccurrences
