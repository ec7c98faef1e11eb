-- What a reader must believe of the calls for C. `Calls` is the file to open first.
pub mod Codes
pub mod Calls
