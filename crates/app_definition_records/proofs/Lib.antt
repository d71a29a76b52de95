pub mod LengthLemmas
mod RecordLemmas
pub mod RisingLemmas
pub mod ByNameLemmas
pub mod ReplacedLemmas
pub mod EntryLemmas
pub mod FieldLemmas
pub mod CalendarLemmas
pub mod CycleLemmas
pub mod PeriodLemmas
pub mod PredecessorLemmas
pub mod NameLemmas
