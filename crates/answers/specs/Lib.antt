pub mod Values
pub mod Names
pub mod Flags
pub mod Said
pub mod Looks
