pub mod Areas
pub mod Gaps
pub mod Ranks
pub mod Spots
