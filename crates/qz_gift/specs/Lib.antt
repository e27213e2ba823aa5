pub mod GiftEndings
