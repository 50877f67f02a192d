pub mod Steps
pub mod Rooms
pub mod Lifts
pub mod AroundPlaces
pub mod PartKinds
pub mod ContextPlaces
