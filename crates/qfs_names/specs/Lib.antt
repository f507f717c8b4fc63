-- What the contracts of the tree cite.
pub mod Answers
pub mod ImageRows
pub mod Moves
pub mod Names
pub mod PathLaws
pub mod Trees
