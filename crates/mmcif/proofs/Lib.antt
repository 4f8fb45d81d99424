pub mod ActsInParts
pub mod LineActs
pub mod NextLineLaws
pub mod PlanLaws
pub mod RowsOfActs
pub mod RunLaws
pub mod StageLaws
pub mod UnderWay
