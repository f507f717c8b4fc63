-- What the proofs of plans cite.
pub mod Deciding
pub mod Leaving
pub mod Walks
