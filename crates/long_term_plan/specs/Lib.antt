-- What public clauses cite.
pub mod Early
-- For private contracts only: no public contract cites these definitions.
pub mod Deletes
pub mod Drafting
pub mod Lists
pub mod Making
pub mod Modifying
pub mod Reaching
