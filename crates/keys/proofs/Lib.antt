pub mod Numbers
pub mod Spelt
