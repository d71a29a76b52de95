mod DecisionLemmas
mod RisingLemmas
pub mod SeatLemmas
pub mod MadeLemmas
pub mod DailyLemmas
pub mod ActionLemmas
mod DraftLemmas
pub mod ModifyLemmas
pub mod AddLemmas
pub mod DeleteLemmas
pub mod CreateLemmas
pub mod LinkLemmas
pub mod PairLemmas
pub mod SoundLemmas
pub mod NewEndLemmas
mod FollowLemmas
mod LoopLemmas
mod PlannedLemmas
mod ClosedLemmas
pub mod RangeLemmas
mod AssembleLemmas
mod StartLemmas
mod StaysSoundLemmas
mod OwesLemmas
mod DefineLemmas
mod JobLemmas
mod FreshLemmas
mod FreshModifyLemmas
mod FreshPlansLemmas
mod PlansLemmas
mod ModifiedLemmas
mod DetailLemmas
pub mod Lawful
mod statements
pub mod ChangeLemmas
mod StepLemmas
mod RefusedLemmas
mod StreamLemmas
mod RerunLemmas
mod TrialLemmas
mod PlanLawLemmas
mod RingLemmas
mod EmptyLemmas
mod FreshStepLemmas
