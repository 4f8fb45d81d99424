pub mod FrontLaws
pub mod SlicesBack
pub mod StoredIsHeld
pub mod WithChains
pub mod WriteTaken
