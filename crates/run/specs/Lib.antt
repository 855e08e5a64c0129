pub mod Checks
pub mod Obeying
