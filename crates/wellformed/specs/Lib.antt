pub mod Runs
pub mod Slices
pub mod Walks
