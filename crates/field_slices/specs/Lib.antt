pub mod Clearing
pub mod Insertion
pub mod Places
pub mod Slice
