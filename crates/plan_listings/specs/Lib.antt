pub mod Line
pub mod Days
pub mod Row
pub mod Links
pub mod Reply
pub mod Report
