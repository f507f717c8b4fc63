pub mod Candidates
pub mod Condemning
pub mod Granting
pub mod Kept
pub mod Loads
pub mod Metaserver
pub mod Runs
pub mod Serving
