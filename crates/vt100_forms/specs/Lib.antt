pub mod Attrs
pub mod Form
pub mod Length
pub mod Mark
pub mod Writer
pub mod TextRunFields
