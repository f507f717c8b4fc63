mod Groups
mod Turns
