pub mod Laws
pub mod Output
pub mod Pump
pub mod Sent
pub mod Source
