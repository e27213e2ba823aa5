pub mod GradeLemmas
pub mod OrderLemmas
pub mod TotalLemmas
