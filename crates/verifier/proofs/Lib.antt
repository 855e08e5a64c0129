pub mod Checks
pub mod Ruling
