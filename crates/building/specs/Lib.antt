pub mod Gaps
pub mod Holds
pub mod Kinds
pub mod Parted
pub mod Sites
pub mod Slices
pub mod Stores
