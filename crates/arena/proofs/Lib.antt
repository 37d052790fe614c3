-- The laws of the views, and what the report cites.
pub mod Viewing
pub mod Reporting
