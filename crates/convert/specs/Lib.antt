-- What a reader must believe of the program.
pub mod Convert
