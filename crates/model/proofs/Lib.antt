-- The theorems. A visitor reads first: `Judged` (the judge's answer is the path meaning), `Solved` (the method decides), `Runs` (every run is right),
-- `Waits` (the waits of the rules are the path meaning's), `Blame` (the rule that is blamed is the first that fails), `Lines` (the duty is what the specification's three lines ask), `Rested` (a resting side more changes no verdict), `Ranges` (a table in which states count runs as
-- the ranges allow), `Maps` (ACTL between systems) and `Rows` (the starred rows of the specification).

-- tests, lists and numbers
pub mod Bools
pub mod Lists
pub mod Count
pub mod Finite
-- sets as numbers
pub mod Sets
pub mod Subsets
-- numbered formulas
pub mod Grow
pub mod Shape
pub mod Value
-- the labelling theorem
pub mod Graph
pub mod Labelling
pub mod Right
pub mod Rounds
pub mod Labels
pub mod Bounded
pub mod Maps
-- sides and matched converters
pub mod OwnLabels
pub mod SameEvent
pub mod StateKinds
pub mod Joint
pub mod JointMoves
pub mod Alone
pub mod AloneLabels
pub mod NoneInput
pub mod Chosen
pub mod Lines
pub mod Tally
pub mod MatchedTest
pub mod Judged
pub mod Waits
pub mod Blame
-- a resting side behind the others
pub mod Resting
pub mod RestedMatched
pub mod Rested
-- states that count their waits
pub mod CountedStates
pub mod RangedSides
pub mod Ranges
-- the method
pub mod Untils
pub mod Kept
pub mod Masks
pub mod Held
pub mod Strategy
pub mod Game
pub mod Truths
pub mod Covers
pub mod NoneWorks
pub mod Built
pub mod Shows
pub mod Places
pub mod Winning
pub mod Parts
pub mod Stamps
pub mod Sweeps
pub mod Stages
pub mod Solved
-- runs
pub mod Fits
pub mod Plain
pub mod Runs
-- rows
pub mod Formed
pub mod Ways
pub mod Refuted
pub mod Rows
pub mod BlameRows
