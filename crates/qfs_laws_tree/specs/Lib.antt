pub mod TreeFacts
pub mod Tree
pub mod TreeChanges
pub mod Stands
pub mod Move
pub mod History
pub mod Files
pub mod TreeReplies
