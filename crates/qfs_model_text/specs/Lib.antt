pub mod Line
pub mod Reply
pub mod History
pub mod Audit
pub mod Order
pub mod Output
pub mod Examples
