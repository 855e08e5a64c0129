pub mod Numbers
pub mod Demands
