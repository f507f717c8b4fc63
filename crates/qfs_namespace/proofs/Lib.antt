pub mod FindLaws
pub mod JoinLaws
pub mod TieLaws
