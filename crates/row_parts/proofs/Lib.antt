-- What the proofs of functions cite.
mod Making
