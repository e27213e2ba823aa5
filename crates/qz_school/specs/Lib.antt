pub mod Agreement
pub mod Alike
pub mod Working
pub mod Solos
pub mod Answering
pub mod Planning
pub mod Reports
