pub mod BytesTell
pub mod ResultLaws
