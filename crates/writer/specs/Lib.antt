pub mod Text
pub mod Unwritable
pub mod PolymerNumbers
pub mod Writing
