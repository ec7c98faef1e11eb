-- Specification, "When a call declines": the refusals by name, with their numbers; and what a call answers, by number.
use Rattle.std.specs.Prelude.{ℕ, Result, Ok, Err}
use Rattle.refusals.specs.declared.refusal.Refusal.{Refusal}
use Rattle.refusals.specs.declared.refusal.Refusal.TheVariants as refusal

abbrev pub number : Refusal → ℕ
number refusal.Length = 1
number refusal.BlockCheck = 2
number refusal.BlockHeader = 3
number refusal.RecordCount = 4
number refusal.State = 5
number refusal.StateKind = 6
number refusal.Formula = 7
number refusal.UnusedByte = 8
number refusal.Positions = 9
number refusal.ConverterSize = 10
number refusal.ConverterRecord = 11
number refusal.Room = 12
number refusal.Work = 13
number refusal.Unmatched = 14
number refusal.RuleFails = 15
number refusal.NoneWorks = 16
number refusal.NoStep = 17
number refusal.Text = 19
number refusal.Existential = 20
number refusal.TextSize = 21
number refusal.RangeList = 22
number refusal.SideSize = 23

-- a value, or the number of a refusal
pub data Answer (A : Type 0) : Type 0 where
  done : A → Answer A
  refused : ℕ → Answer A

-- what a call answers
abbrev pub answered : {A : Type 0} → Result A Refusal → Answer A
answered (Ok x) = done x
answered (Err e) = refused (number e)

-- the number of the refusal alone, 0 where there is none
abbrev pub refusal_of : {A : Type 0} → Result A Refusal → ℕ
refusal_of (Ok x) = 0
refusal_of (Err e) = number e
