pub mod Packing
pub mod Numbers
pub mod Constants
