-- To read first: `WellFormed`, a design that passes tests 1 to 8 is well formed in the model's sense, and `FourBlocks`, what one of four blocks is. The rest is what proofs of functions cite.
pub mod AllTests
pub mod Answered
pub mod ByRefusal
pub mod CountedBytes
pub mod DesignBlocks
pub mod DesignFormulas
pub mod DesignUnused
pub mod FourBlocks
pub mod NodeRecords
pub mod Ranges
pub mod StateRecords
pub mod StateTests
pub mod FormulaTests
pub mod Passing
pub mod WellFormed
pub mod ZeroBytes
pub mod Accepted
