-- The laws of each statement, a file for each.
pub mod Act
pub mod Add
pub mod Create
pub mod DailyExtend
pub mod DailyExtendBy
pub mod Define
pub mod Delete
pub mod Extend
pub mod ModifyAll
pub mod ModifyOne
pub mod Replan
