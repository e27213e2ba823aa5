pub mod Passing
pub mod Breaks
pub mod Fronts
pub mod GatherLemmas
pub mod ComingLemmas
pub mod OneBlock
