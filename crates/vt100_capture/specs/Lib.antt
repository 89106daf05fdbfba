pub mod Capture
pub mod Plain
pub mod Range
pub mod Rows
pub use Rattle.vt100_rows.specs.Row
pub use Rattle.vt100_rows.specs.Basic
