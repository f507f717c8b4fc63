pub mod DeviceLaws
pub mod DrawnOrders
pub mod Endings
pub mod Places
pub mod PlayLaws
pub mod ReadScripts
pub mod Remaining
pub mod RunLaws
