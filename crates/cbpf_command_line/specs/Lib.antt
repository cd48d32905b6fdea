pub mod CommandLine
pub mod RequestLine
