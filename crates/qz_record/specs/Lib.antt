pub mod Fields
pub mod Parts
pub mod Records
pub mod Lengths
pub mod ExamplesFields
