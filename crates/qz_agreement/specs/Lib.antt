pub mod Disagreements
pub mod Findings
pub mod Fitting
pub mod Quizzes
pub mod Tests
