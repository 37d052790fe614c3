-- The laws of the lines of a picture.
pub mod Lines
