-- Matched, by the state records of the sides, is the model's test.
pub mod Chains
pub mod ByIndex
pub mod ObeysTest
