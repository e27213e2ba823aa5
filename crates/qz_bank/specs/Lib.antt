pub mod Banks
pub mod Room
pub mod Changes
pub mod Laws
