pub mod GiftLemmas
