pub mod AreaLaws
pub mod CarryLaws
pub mod GapLaws
pub mod PartsLaws
pub mod SpotLaws
