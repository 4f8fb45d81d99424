pub mod NameLaws
pub mod PlaceLaws
