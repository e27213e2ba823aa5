pub mod FoundEndings
