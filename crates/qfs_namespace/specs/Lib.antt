pub mod Joined
pub mod Namespaces
