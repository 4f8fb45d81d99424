pub mod ClassingLaws
pub mod ClearingLaws
pub mod EntriesWalked
pub mod FillingLaws
pub mod FinishingLaws
pub mod PositioningLaws
pub mod UnknownLaws
