-- To read first: `Unique`, a text reads as one list of rules at most; `Meaning`, the formula of a typed rule means what the rule does; and `Ruled`, so do the rules of a design made of
-- sides and a text's blocks, which isn't refused.
pub mod Unique
pub mod Sizes
pub mod Meaning
pub mod Expanded
pub mod Names
pub mod Formed
pub mod FormBytes
pub mod Standing
pub mod Ahead
pub mod Designed
pub mod Accepted
pub mod Ruled
