pub mod Acts
pub mod Earning
pub mod Making
pub mod Standing
