pub mod Numbers
pub mod Bounds
pub mod Chunks
pub mod Walk
pub mod Reasons
pub mod Links
