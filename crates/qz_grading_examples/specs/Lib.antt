pub mod Examples
pub mod ExamplesReplays
pub mod ExamplesQuestions
pub mod ExamplesCanonical
