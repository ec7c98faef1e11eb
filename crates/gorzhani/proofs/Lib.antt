-- `Callers` has the theorems to read first: what each number means to a caller in C. The rest is what it and the proofs of the exported functions cite.
pub mod Callers
pub mod Apart
pub mod Counts
pub mod Numbers
pub mod Positions
pub mod Promised
