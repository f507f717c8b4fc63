-- What the contracts of the metaserver's state cite.
pub mod DroppedActors
pub mod Held
pub mod Planning
pub mod Reserving
pub mod Rooms
