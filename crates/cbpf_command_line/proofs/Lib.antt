pub mod Parses
pub mod Requests
pub mod WithoutWhy
