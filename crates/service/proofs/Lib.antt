pub mod HeldAgain
pub mod OwnRoom
pub mod ServedFits
pub mod ServingLaws
pub mod WrittenAsRead
