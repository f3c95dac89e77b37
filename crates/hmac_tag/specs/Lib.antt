pub mod Hmac
pub mod DeviceKeys
pub mod Tags
pub mod TagLengths
