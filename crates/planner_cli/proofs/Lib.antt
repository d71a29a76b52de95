pub mod Progress
pub mod RowLemmas
pub mod WriteLemmas
mod ReportLemmas
pub mod ListLemmas
pub mod DaysLemmas
pub mod OutcomeLemmas
pub mod StoreLemmas
pub mod PlanLemmas
pub mod ChangeLemmas
pub mod SoFar
pub mod ServeLemmas
pub mod ShownLists
pub mod MovedLemmas
pub mod TrialLemmas
pub mod RerunLemmas
pub mod TrialServes
pub mod NothingLemmas
pub mod StatementLemmas
pub mod FreshRunLemmas
mod WindowLemmas
