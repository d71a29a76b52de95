pub mod Actions
pub mod DailyPlans
pub mod Statuses
