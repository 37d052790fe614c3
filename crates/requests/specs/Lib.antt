pub mod Requests
pub mod LinePlaces
