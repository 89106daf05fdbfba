pub mod Input
pub mod Numbers
pub mod Running
