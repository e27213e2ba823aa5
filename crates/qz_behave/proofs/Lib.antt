pub mod OneMore
pub mod MachineLemmas
