pub mod Keys
pub mod EachRow
pub mod SomeRow
pub mod InOrder
pub mod Sums
pub mod Distinct
pub mod Placed
