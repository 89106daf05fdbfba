pub mod Laws
pub mod Plain
pub mod StateLaws
pub use Rattle.termview.specs.Seen
pub use Rattle.screen_model.specs.Made
pub use Rattle.forms_read.specs.Events
pub use Rattle.terminal_model.specs.Apply
pub use Rattle.terminal_model.specs.FormText
