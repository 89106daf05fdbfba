pub mod CarryLemmas
mod EndLemmas
