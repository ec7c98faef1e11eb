-- What a reader must believe of the words and signs of typed rules: `Tokens`. `Scans` is what the functions of this crate promise, by those definitions.
pub mod Tokens
pub mod Scans
-- how each word and sign is written
pub mod Spelling
