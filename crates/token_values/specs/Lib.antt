pub mod Sequence
pub mod Words
