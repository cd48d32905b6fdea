pub mod SpaceLemmas
pub mod TextLeftLemmas
pub mod RowLemmas
