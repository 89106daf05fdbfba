pub mod AttrsLemmas
pub mod ChangeLemmas
pub mod DigitLemmas
pub mod Lengths
pub mod Marks
pub mod TextRunLemmas
