pub mod Search
pub mod Words
pub mod Numbers
pub mod Put
pub mod Fields
pub mod Ascii
