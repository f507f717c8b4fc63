pub mod Gates
pub mod Found
pub mod Log
pub mod Spells
