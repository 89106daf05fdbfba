mod LineLemmas
mod MomentLemmas
mod PlayerLemmas
mod RowsLemmas
mod TableLemmas
