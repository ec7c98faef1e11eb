-- The theorem to read first is `Converted`: the blocks that the program writes are a file of a converter that works for the design. `Converting` is what the
-- proofs of functions cite.
pub mod Converting
pub mod Converted
