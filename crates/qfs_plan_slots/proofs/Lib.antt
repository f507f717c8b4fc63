mod Bars
mod Ended
mod Found
mod Opening
mod Regrant
