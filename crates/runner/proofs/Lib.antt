-- The theorem to read first is `Runs`: of every run over the bytes what the specification says under "The tick" is true. The rest is what it and the proofs of
-- functions cite.
pub mod Shown
pub mod AllFit
pub mod FirstFit
pub mod Refusals
pub mod InModel
pub mod Runs
