pub mod Texts
pub mod Pieces
pub mod Sessions
pub mod Table
pub mod OneByte
