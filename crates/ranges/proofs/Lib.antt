-- To read first: `Promise`, what the answer of the call means in the model's words.
pub mod EachNumber
pub mod EntryLists
pub mod EntryTests
pub mod EntryRanges
pub mod CountedRecords
pub mod StatesPut
pub mod Fitting
pub mod Refused
pub mod NewSides
pub mod OneEntry
pub mod NewBlocks
pub mod NewDesign
pub mod KeptBlocks
pub mod Promise
