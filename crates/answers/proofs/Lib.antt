pub mod Named
pub mod Lengths
pub mod ReadBack
