pub mod Lent
pub mod LentDemands
