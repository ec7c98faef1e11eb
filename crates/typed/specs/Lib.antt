-- What a reader must believe of typed rules: `Grammar`, what a text reads as; `Meaning`, what a rule means over paths; `Records`, the formulas and the blocks that are made of it.
-- Nobody has to believe `Parses`: there the grammar is said once more, from the first token to the last, and the reader's promises cite it.
pub mod Grammar
pub mod Meaning
pub mod Records
pub mod Parses
