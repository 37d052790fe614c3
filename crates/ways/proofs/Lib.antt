-- The laws of the ways: a need that is granted, a block that stays where it is, and a block that moves.
pub mod Allotting
pub mod Following
pub mod Trimming
pub mod Relinking
