pub mod ClearingLaws
pub mod InsertionLaws
pub mod MapLaws
pub mod OrderLaws
pub mod PairLaws
pub mod PlaceLaws
pub mod RankLaws
