pub mod CallLemmas
pub mod InputLemmas
pub mod NumberLemmas
