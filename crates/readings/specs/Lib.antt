pub mod Closing
pub mod Counts
pub mod Ends
pub mod Order
pub mod Reading
