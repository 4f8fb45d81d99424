pub mod Emitted
pub mod Fields
pub mod Rows
