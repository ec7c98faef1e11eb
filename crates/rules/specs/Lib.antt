-- What a reader must believe of the call that reads typed rules: `Rules`, what it promises. Nobody has to believe the others: they are what the functions of this crate promise each
-- other.
pub mod Rules
pub mod Making
pub mod Stores
pub mod Grades
pub mod Reading
pub mod Chains
pub mod Joins
pub mod Lining
