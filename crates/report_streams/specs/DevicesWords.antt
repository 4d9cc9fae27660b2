pub mod Devices
pub mod Limited
