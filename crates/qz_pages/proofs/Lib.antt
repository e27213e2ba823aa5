pub mod CivilLemmas
pub mod TableLemmas
