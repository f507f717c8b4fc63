pub mod OnLiterals
pub mod Steps
pub mod StepsOfPut
pub mod StepsOfReads
pub mod StepsOfCommands
pub mod Left
pub mod Works
