pub mod Records
pub mod Audited
pub mod AuditLemmas
