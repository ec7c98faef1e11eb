-- Labels by the kind of a formula, and marks of what a formula needs.
pub mod ReadyFacts
pub mod Formed
pub mod Marks
