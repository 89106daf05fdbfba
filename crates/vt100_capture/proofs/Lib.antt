pub mod CaptureLemmas
pub mod PlainLemmas
pub mod RowsLemmas
