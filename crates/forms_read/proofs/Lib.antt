pub mod Examples
pub mod Numbers
pub mod ReadForms
pub mod SentTexts
pub mod Reported
pub mod Calling
pub mod Stepping
