-- What the contracts of replies at a place cite.
pub mod Rows
pub mod Keys
pub mod Open
