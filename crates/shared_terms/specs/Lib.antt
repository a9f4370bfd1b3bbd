pub mod Prefix
pub mod Role
pub mod Both
pub mod Timer
pub mod Cause
pub mod AuditCause
