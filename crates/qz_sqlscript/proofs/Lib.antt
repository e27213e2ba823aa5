pub mod SqlLemmas
