pub mod Bits
pub mod Grammar
pub mod Limits
pub mod Nearest
pub mod Printing
pub mod Reading
pub mod Rounding
pub mod Writing
