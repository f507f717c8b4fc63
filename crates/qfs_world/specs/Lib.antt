pub mod AtWork
pub mod Calls
pub mod Follows
pub mod Servers
pub mod View
