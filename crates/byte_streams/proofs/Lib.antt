pub mod AppendLemmas
pub mod PumpLemmas
pub mod PumpLaws
pub mod SendLemmas
