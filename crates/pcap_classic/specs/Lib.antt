pub mod FileNumbers
pub mod Records
pub mod Lent
pub mod Savefile
pub mod Contents
pub mod Messages
pub mod Reading
pub mod Index
