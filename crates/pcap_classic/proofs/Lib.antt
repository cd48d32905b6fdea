mod HoldsLemmas
mod ReachLemmas
pub mod SavefileLemmas
mod ReadingLemmas
mod UnreadLemmas
mod WalkLemmas
