pub mod Cuts
pub mod Digits
pub mod Joined
pub mod HexDigits
