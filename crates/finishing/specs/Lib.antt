pub mod Classing
pub mod Clearing
pub mod Filling
pub mod Finishing
pub mod Positioning
pub mod Sizes
