pub mod CallLaws
pub mod CallStored
pub mod CountsAreSmall
pub mod NeverTwelve
pub mod NumbersFit
pub mod RefusalsAreSmall
