-- Specification, "Bytes": a formula record, 4 bytes: kind, a, b, 0. An absent operand is 0. A rule record is 1 byte, a formula number.
use Rattle.std.specs.Prelude.{ℕ, ◌+◌, Bool, ◌&&◌, List, [], ◌∷◌, nat_le, slice_index_or}
use Rattle.model.specs.Formulas.{Form, truth, falsity, prop, nprop, conj, disj, ax, au, ag}
use Rattle.layout.specs.declared.formulas.FormulaRecord.{FormulaRecord}
use Rattle.layout.specs.Bytes.{byte}

-- kinds 1 to 9, in order; an unknown kind, which is refused (7), stands for nothing in particular
unfoldable pub form_of : ℕ → ℕ → ℕ → Form
form_of kind a b =
    slice_index_or (truth ∷ truth ∷ falsity ∷ prop a ∷ nprop a ∷ conj a b ∷ disj a b ∷ ax a ∷ au a b ∷ ag a ∷ []) kind truth

abbrev pub known_kind : ℕ → Bool
known_kind kind = nat_le 1 kind && nat_le kind 9

unfoldable pub form_at : List ℕ → ℕ → Form
form_at bs at = form_of (byte bs at) (byte bs (at + 1)) (byte bs (at + 2))

-- the same record by value, and the formula that it stands for
unfoldable pub formula_at : List ℕ → ℕ → FormulaRecord
formula_at bs at = record { kind = byte bs at; a = byte bs (at + 1); b = byte bs (at + 2) }

abbrev pub formula_of : FormulaRecord → Form
formula_of r = form_of r.kind r.a r.b

-- the operand bytes that a formula doesn't have
unfoldable pub absent : Form → ℕ → ℕ → List ℕ
absent truth a b = a ∷ b ∷ []
absent falsity a b = a ∷ b ∷ []
absent (prop p) a b = b ∷ []
absent (nprop p) a b = b ∷ []
absent (conj x y) a b = []
absent (disj x y) a b = []
absent (ax x) a b = b ∷ []
absent (au x y) a b = []
absent (ag x) a b = b ∷ []
