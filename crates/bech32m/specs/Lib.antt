pub mod Text
pub mod Checksum
pub mod Valid
