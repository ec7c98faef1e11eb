-- What a reader must believe of ticks at the bytes, in the order in which the specification tells it.
pub mod Ticks
pub mod Runs
