pub mod Faults
pub mod Asking
pub mod Schemas
pub mod FirstContent
pub mod Migrating
pub mod Older
