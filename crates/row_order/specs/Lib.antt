pub mod Counts
pub mod Endings
pub mod Ends
pub mod Loops
pub mod Order
