pub mod DigitLaws
pub mod LetterLaws
pub mod ListLaws
pub mod OutputLaws
pub mod SignLaws
pub mod TestLaws
pub mod WordLaws
