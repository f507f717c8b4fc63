-- What the contracts of leases cite.
pub mod IndexKeys
pub mod Indexes
pub mod LiveLeases
