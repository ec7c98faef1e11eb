-- To read first: `Promise`, what each answer of the judge means in the model's words, and `QuickPromise`, the same of the quick verdict, and that it is the judge's.
pub mod Ruled
pub mod Judging
pub mod Promise
pub mod Telling
pub mod QuickPromise
