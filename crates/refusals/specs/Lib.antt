pub mod Details
pub mod Reasons
