pub mod Asks
pub mod FirstPath
pub mod Replies
