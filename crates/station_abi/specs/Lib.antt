pub mod Loaded
pub mod Frames
pub mod Beats
