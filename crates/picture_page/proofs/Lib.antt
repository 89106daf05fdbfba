pub mod PageLemmas
mod SafeLemmas
pub mod SeenLemmas
