pub mod SoloLemmas
pub mod FolderLemmas
pub mod LoadingAgain
