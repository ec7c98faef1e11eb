-- What a reader must believe of the call that replaces delayed states by states that count: first `Ranges`, what it promises; then `Entries`, what a list of entries says.
pub mod Entries
pub mod Ranges
