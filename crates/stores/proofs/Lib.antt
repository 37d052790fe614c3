-- The laws of the stores: a copy, a need that is taken, the room of a chunk, a chunk that is freed.
pub mod Taken
pub mod RoomReading
pub mod Releasing
