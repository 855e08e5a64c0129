pub mod Checks
pub mod Ways
pub mod Entry
pub mod Obeying
