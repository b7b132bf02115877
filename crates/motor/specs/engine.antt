pub mod Hosts
pub mod Script
pub mod Operations
pub mod Requests
pub mod Run
