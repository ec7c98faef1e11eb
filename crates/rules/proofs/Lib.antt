-- To read first: `Promise`, what the answer of the call means in the words of the text.
-- records and pending entries
pub mod Stores
pub mod Pile
pub mod Turned
-- grades
pub mod Graded
pub mod Universal
-- tokens, and parts as they are read
pub mod Places
pub mod Tags
pub mod Begun
pub mod Taken
pub mod Leaves
pub mod Enclosed
pub mod Chained
pub mod Arrow
-- lines, and the answer
pub mod Lists
pub mod Lined
pub mod Answers
pub mod Promise
