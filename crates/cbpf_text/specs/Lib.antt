pub mod Labels
pub mod Operands
pub mod Refusals
pub mod Assembled
pub mod Messages
pub mod Laws
pub mod Drafts
