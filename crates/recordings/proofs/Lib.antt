mod CastLemmas
mod FirstLemmas
mod FrameLemmas
mod JsonLemmas
mod LineLemmas
mod RowLemmas
mod ThemeLemmas
mod TypescriptLemmas
