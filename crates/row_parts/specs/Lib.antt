-- What the contracts cite.
pub mod Made
