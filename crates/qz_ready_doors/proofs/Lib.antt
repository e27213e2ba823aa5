mod Places
mod KeptLemmas
mod SlotLemmas
pub mod RunLemmas
