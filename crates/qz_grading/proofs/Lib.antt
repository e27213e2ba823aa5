pub mod AnswersLemmas
pub mod DigitLemmas
pub mod StepLemmas
pub mod WeightLemmas
pub mod WrittenNumbers
pub mod TogetherLemmas
