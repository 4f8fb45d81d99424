pub mod Columns
pub mod Exact
pub mod Fields
pub mod Reach
pub mod Rules
pub mod Settings
