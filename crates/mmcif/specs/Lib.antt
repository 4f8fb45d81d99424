pub mod Acts
pub mod Plans
pub mod Rows
pub mod Stages
