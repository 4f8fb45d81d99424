pub mod EmittedLaws
pub mod FieldLaws
pub mod FieldsAreShort
pub mod PlainNames
pub mod RowLengths
pub mod RowsInParts
