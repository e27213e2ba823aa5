pub mod Totals
pub mod Orders
pub mod Grades
pub mod Examples
