pub mod Domain
pub mod Lines
