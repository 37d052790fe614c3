-- The laws of trials.
pub mod Trials
