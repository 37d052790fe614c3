-- The laws of records, and of the loops over them.
pub mod BatchTurns
pub mod SixWords
