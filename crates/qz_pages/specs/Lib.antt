pub mod Shown
pub mod Dates
pub mod Pages
pub mod Reports
pub mod Tables
pub mod Examples
