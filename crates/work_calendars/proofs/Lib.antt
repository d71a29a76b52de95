pub mod CalendarFacts
pub mod NameFacts
pub mod SpellingFacts
pub mod StatusFacts
pub mod Tables
pub mod WorkDayFacts
pub mod WorkIndexFacts
