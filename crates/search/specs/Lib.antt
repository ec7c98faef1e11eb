-- What a reader must believe of the search.
pub mod Search
