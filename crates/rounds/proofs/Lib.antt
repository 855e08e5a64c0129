pub mod Fronts
pub mod Growth
pub mod Settling
pub mod Turns
