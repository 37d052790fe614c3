-- The laws of the layout, which the proofs of this crate and of those above it cite.
pub mod Bools
pub mod Walking
pub mod Holds
pub mod Linked
pub mod Written
pub mod Bounds
pub mod Chain
pub mod Replace
pub mod Round
pub mod Older
pub mod Payload
pub mod Counts
pub mod Reasons
