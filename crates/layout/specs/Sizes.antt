-- Specification, "Bytes" and "When a call declines": every size and every limit, in one place.
use Rattle.std.specs.Prelude.{ℕ, ◌-◌, ◌*◌, ◌^◌}
use Rattle.model.specs.Joined.{side_labels}

-- ---- what a design has
abbrev pub side_count : ℕ
side_count = 3

abbrev pub most_states : ℕ
most_states = 16

abbrev pub most_formulas : ℕ
most_formulas = 64

abbrev pub most_rules : ℕ
most_rules = 16

-- Propositions are the labels of every side: of three sides, 0 to 47.
abbrev pub last_proposition : ℕ
last_proposition = side_labels * side_count - 1

-- transition places of a state, and of a converter record
abbrev pub place_count : ℕ
place_count = 8

-- joint states, joint moves of one of them, and what these show: a send or none of each side
abbrev pub most_joints : ℕ
most_joints = most_states ^ side_count

abbrev pub most_moves : ℕ
most_moves = place_count ^ side_count

abbrev pub show_count : ℕ
show_count = 2 ^ side_count

-- events are from -63 to 63
abbrev pub last_event : ℕ
last_event = 63

-- the search takes a design with at most so many positions
abbrev pub most_positions : ℕ
most_positions = 65536

-- lent work: so many bytes for each position of a search and for each record that is judged
abbrev pub cell_bytes : ℕ
cell_bytes = 16

-- ---- records: their bytes, where a record with places has its count and its places, and the bytes of a place
abbrev pub state_bytes : ℕ
state_bytes = 20

abbrev pub formula_bytes : ℕ
formula_bytes = 4

abbrev pub rule_bytes : ℕ
rule_bytes = 1

abbrev pub record_bytes : ℕ
record_bytes = 52

abbrev pub count_at : ℕ
count_at = 2

-- a converter record has its count behind the names
abbrev pub edge_count_at : ℕ
edge_count_at = side_count

abbrev pub places_at : ℕ
places_at = 4

-- byte 3 of a state record and of a formula record is not used
abbrev pub gap_at : ℕ
gap_at = 3

-- (event, target)
abbrev pub move_bytes : ℕ
move_bytes = 2

-- (an event for each side, a byte that is not used, next record)
abbrev pub transition_bytes : ℕ
transition_bytes = 6

abbrev pub next_at : ℕ
next_at = 4

-- ---- blocks: kind, record count, number of the first record (16 bits), records, check (16 bits)
abbrev pub block_bytes : ℕ
block_bytes = 512

abbrev pub count_in_block : ℕ
count_in_block = 1

abbrev pub first_in_block : ℕ
first_in_block = 2

abbrev pub records_in_block : ℕ
records_in_block = 4

abbrev pub check_in_block : ℕ
check_in_block = 510

-- the check wraps at
abbrev pub word_values : ℕ
word_values = 65536

-- a design has a block for each of two sides at least
abbrev pub least_sides : ℕ
least_sides = 2

-- and behind the sides' blocks two more, of formulas and of rules
abbrev pub other_blocks : ℕ
other_blocks = 2

-- ---- converters
-- converter records in a block, and their bytes
abbrev pub block_records : ℕ
block_records = 9

abbrev pub block_record_bytes : ℕ
block_record_bytes = 468

abbrev pub most_records : ℕ
most_records = 65536

-- blocks that hold so many records: 7,281 full ones and one of 7 records
abbrev pub most_blocks : ℕ
most_blocks = 7282
