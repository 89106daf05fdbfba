pub mod Carried
pub mod Command
pub mod Ends
pub mod Programs
pub mod Words
