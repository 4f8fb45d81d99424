pub mod DomainLaws
pub mod FirstOutside
pub mod LineLaws
pub mod LinesAreText
pub mod LinesFitTheText
pub mod MarkLaws
pub mod NoneOutside
pub mod OneLine
