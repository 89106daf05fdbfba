mod DrawnLemmas
mod KindLemmas
mod ListLemmas
mod MissingLemmas
mod MisuseLemmas
mod RowLemmas
mod TextLemmas
mod WordsLemmas
