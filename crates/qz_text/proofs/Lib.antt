mod EncodedLemmas
mod FitsLemmas
mod FoldedLemmas
mod GapsLemmas
mod HtmlLemmas
mod PartsLemmas
pub mod WideLemmas
