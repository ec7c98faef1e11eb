-- Specification, "Bytes" and "Events and states": bytes are a list of numbers. 16-bit numbers are low byte first; an event is one signed byte, two's
-- complement.
use Rattle.std.specs.Prelude.{ℕ, ◌+◌, ◌-◌, ◌*◌, ◌/◌, ◌%◌, Bool, cond, List, [], ◌∷◌, ◌++◌, length, take, drop, pos, negsuc, nat_eq, nat_lt, slice_index}
use Rattle.model.specs.Events.{Event}
use Rattle.model.specs.Judged.{all}
use Rattle.layout.specs.Sizes.{word_values}

-- ---- reading
-- past the end stands 0
abbrev pub byte : List ℕ → ℕ → ℕ
byte bs i = slice_index bs i

abbrev pub word : List ℕ → ℕ → ℕ
word bs i = byte bs i + 256 * byte bs (i + 1)

-- 0 to 127 as they are, 128 to 255 as -128 to -1 (`negsuc n` is -(n + 1))
unfoldable pub event_of : ℕ → Event
event_of b = cond (nat_lt b 128) (pos b) (negsuc (255 - b))

-- the n bytes from a place on
abbrev pub part : List ℕ → ℕ → ℕ → List ℕ
part bs at n = take n (drop at bs)

unfoldable pub all_zero : List ℕ → Bool
all_zero bs = all (λ b. nat_eq b 0) bs

unfoldable pub sum : List ℕ → ℕ
sum [] = 0
sum (b ∷ bs) = b + sum bs

-- The check of what comes before it in a block: the bytes added up, wrapping at 65,536.
unfoldable pub check : List ℕ → ℕ
check bs = sum bs % word_values

-- ---- writing
unfoldable pub event_byte : Event → ℕ
event_byte (pos n) = n
event_byte (negsuc n) = 255 - n

abbrev pub word_bytes : ℕ → List ℕ
word_bytes v = v % 256 ∷ v / 256 ∷ []

-- the bytes vs in the place of those that stood from a place on
unfoldable pub put : List ℕ → ℕ → List ℕ → List ℕ
put bs at vs = take at bs ++ vs ++ drop (at + length vs) bs
