-- To read first: `RoundTrip`, a converter that is written is read back the same, and only such files are read. The rest is what proofs of functions cite.
pub mod WrittenFile
pub mod Outcomes
pub mod FileSizes
pub mod BlockTests
pub mod Earlier
pub mod EachNumber
pub mod FileTests
pub mod Agree
pub mod FileRecords
pub mod AcceptedWrites
pub mod AcceptedFiles
pub mod WrittenRead
pub mod ReadWritten
pub mod RoundTrip
