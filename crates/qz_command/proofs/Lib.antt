pub mod LeafLemmas
pub mod ParseLemmas
pub mod ReadLemmas
