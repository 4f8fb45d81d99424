pub mod ActLaws
pub mod LengthLaws
pub mod MadeByRows
pub mod MadeOn
pub mod RefusedAtTheFirst
pub mod RowsGrow
