-- What a reader must believe of refusals 1 to 11 is `Refusals`, and of all of them `Answered`: their names and numbers. Nobody has to believe `Counted`: it is what functions that read a design ask for.
pub mod Refusals
pub mod Answered
pub mod Counted
