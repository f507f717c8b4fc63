pub mod BlockBytes
pub mod Blocks
pub mod Parted
