pub mod StepCounts
pub mod MarkRanges
pub mod Shapes
pub mod RunLemmas
pub mod UsageLemmas
