pub mod Bytes
pub mod Digits
pub mod Letters
pub mod Lists
pub mod Output
pub mod Signs
pub mod Words
