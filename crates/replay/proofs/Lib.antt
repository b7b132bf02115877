pub mod LimitsTied
pub mod Fits
pub mod Turning
pub mod Hearing
pub mod Going
pub mod Keeping
pub mod Cutting
pub mod Reaching
