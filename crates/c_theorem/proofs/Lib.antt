pub mod ShownLemmas
pub mod CompanionLemmas
pub mod WordLemmas
