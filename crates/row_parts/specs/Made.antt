-- Specification, "Bytes": the 2,048 bytes of a design of two sides, made of the records of its four blocks, and the 2,560 of one of three.
use Rattle.std.specs.Prelude.{List, ◌++◌, ℕ, ◌/◌, length}
use Rattle.layout.specs.Sizes.{side_count, least_sides}
use Rattle.layout.specs.Unused.{size}
use Rattle.layout.specs.Blocks.{Block, kernel, host, service, formulas, rules, sealed}

-- a block with as many records as there are bytes for
abbrev pub made_block : Block → List ℕ → List ℕ
made_block b rs = sealed b.kind (length rs / size b.holds) b.first rs

unfoldable pub made : List ℕ → List ℕ → List ℕ → List ℕ → List ℕ
made ks hs fs rs = made_block kernel ks ++ made_block host hs ++ made_block (formulas least_sides) fs ++ made_block (rules least_sides) rs

unfoldable pub made_of_three : List ℕ → List ℕ → List ℕ → List ℕ → List ℕ → List ℕ
made_of_three ks hs ss fs rs = made_block kernel ks ++ made_block host hs ++ made_block service ss ++ made_block (formulas side_count) fs ++ made_block (rules side_count) rs
