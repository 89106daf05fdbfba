pub mod Positions
pub mod TermLemmas
pub mod FormLemmas
pub mod PlainText
pub mod FormTexts
pub mod PrintedCells
pub mod TouchLemmas
pub mod Examples
