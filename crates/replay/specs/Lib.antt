pub mod Limits
pub mod Reasons
pub mod Events
pub mod Program
pub mod Turns
