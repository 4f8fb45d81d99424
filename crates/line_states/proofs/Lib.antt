pub mod FirstByte
pub mod FirstToken
pub mod HeadersFit
pub mod LongTokens
pub mod TokenInCell
