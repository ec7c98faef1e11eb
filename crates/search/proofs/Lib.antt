-- To read first: `Answers`, when the answer is 16 and what a count means; and `Judged`, the judge says yes to what is found.
pub mod Refused
pub mod Found
pub mod Answers
pub mod Judged
