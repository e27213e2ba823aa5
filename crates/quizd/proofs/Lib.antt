pub mod BaseLemmas
pub mod FolderLemmas
pub mod WordLemmas
pub mod WantingLemmas
