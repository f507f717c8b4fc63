pub mod FindLaws
pub mod NameLaws
pub mod IndexLaws
pub mod MoveLaws
pub mod KeptLaws
pub mod TreeLaws
pub mod ChildLaws
