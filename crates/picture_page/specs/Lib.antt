pub mod Bytes
pub mod Examples
pub mod Page
pub mod Seen
pub mod Tags
pub mod Titles
