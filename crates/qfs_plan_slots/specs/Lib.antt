-- What the contracts of the plans cite.
pub mod Ends
pub mod Steps
