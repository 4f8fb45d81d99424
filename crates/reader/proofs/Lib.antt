pub mod LinesEarn
pub mod ReadByTheRows
pub mod ReadIsWellFormed
pub mod RefusalsAreExact
pub mod RowsAreSound
