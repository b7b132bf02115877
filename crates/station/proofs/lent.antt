pub mod LentPromises
pub mod LentRuns
pub mod MotorParts
