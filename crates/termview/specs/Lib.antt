pub mod Step
pub mod Seen
pub mod Picture
pub mod PictureFields
pub mod Timeout
pub mod Standing
pub mod Laws
pub mod FormFrames
