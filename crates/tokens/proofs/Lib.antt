-- Laws of texts of typed rules, which proofs of functions here and above cite.
pub mod Within
pub mod Names
pub mod Lengths
pub mod Places
pub mod Words
pub mod Firsts
pub mod Spelling
