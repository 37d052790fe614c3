pub mod Readings
pub mod Determined
pub mod Padded
pub mod FieldLaws
pub mod InRecords
