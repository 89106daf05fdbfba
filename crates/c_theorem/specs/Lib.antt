pub mod Shown
pub mod Companions
pub mod Words
