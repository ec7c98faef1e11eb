-- What a reader must believe of bytes, in the order in which the specification tells it.
pub mod Sizes
pub mod Tables
pub mod Bytes
pub mod States
pub mod Formulas
pub mod Forms
pub mod Records
pub mod Unused
pub mod Blocks
pub mod Designs
pub mod Converters
pub mod Tests
