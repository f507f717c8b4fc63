mod Bars
mod Found
mod LeasedPlans
mod Refusals
mod Rows
mod ToMove
