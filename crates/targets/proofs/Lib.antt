-- The laws of the calls' gates, and of their answers.
pub mod Locating
pub mod Granting
pub mod Asking
