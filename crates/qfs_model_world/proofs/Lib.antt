pub mod OneActor
pub mod OneStep
pub mod Texts
pub mod OnLiterals
pub mod Orders
pub mod GivenOrders
pub mod Bounded
