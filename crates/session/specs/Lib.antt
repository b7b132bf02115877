pub mod Limits
pub mod Events
pub mod Table
pub mod Arguments
pub mod Commands
pub mod Heard
pub mod Lines
