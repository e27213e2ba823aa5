pub mod Grades
pub mod Pages
