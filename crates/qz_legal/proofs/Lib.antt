pub mod Learning
pub mod LearnTests
pub mod PutTold
pub mod PutMade
pub mod BeginLemmas
pub mod StandLemmas
pub mod TakeLemmas
