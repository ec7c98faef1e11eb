-- Specification, "Rules as people type them": what is made of typed rules. Negations are pushed down to propositions; then each name, constant and connective that is left is a
-- formula record of its own, left operand's records first; a rule is the last record of its line.
use Rattle.std.specs.Prelude.{Bool, true, false, not, ◌||◌, ℕ, ◌+◌, ◌-◌, length}
use mathlib.Core.List.{List, [], ◌∷◌, ◌++◌, map, flatten}
use Rattle.model.specs.Actl.{Actl, verum, falsum, has, lacks, both, either, AX, AU, AG}
use Rattle.model.specs.Formulas.{Form, truth, falsity, prop, nprop, conj, disj, ax, au, ag}
use Rattle.layout.specs.Blocks.{sealed}
use Rattle.tokens.specs.declared.Quantifier.{Quantifier}
use Rattle.tokens.specs.declared.Quantifier.TheVariants.{All, Some}
use Rattle.tokens.specs.declared.Operator.{Operator}
use Rattle.tokens.specs.declared.Operator.TheVariants.{Next, Always, Eventually}
use Rattle.typed.specs.Grammar.{Typed, named, constant, negated, along, until, and, or, implies}

-- ---- 20
-- EX, EF, EG or E [ f U g ] stands in the rule
abbrev pub on_some : Quantifier → Bool
on_some All = false
on_some Some = true

unfoldable pub some_path : Typed → Bool
some_path (named p) = false
some_path (constant b) = false
some_path (negated f) = some_path f
some_path (along q o f) = on_some q || some_path f
some_path (until q f g) = on_some q || (some_path f || some_path g)
some_path (and f g) = some_path f || some_path g
some_path (or f g) = some_path f || some_path g
some_path (implies f g) = some_path f || some_path g

-- it has a temporal part
unfoldable pub timed : Typed → Bool
timed (named p) = false
timed (constant b) = false
timed (negated f) = timed f
timed (along q o f) = true
timed (until q f g) = true
timed (and f g) = timed f || timed g
timed (or f g) = timed f || timed g
timed (implies f g) = timed f || timed g

-- a temporal part stands under ! or left of ->
unfoldable pub misplaced : Typed → Bool
misplaced (named p) = false
misplaced (constant b) = false
misplaced (negated f) = timed f || misplaced f
misplaced (along q o f) = misplaced f
misplaced (until q f g) = misplaced f || misplaced g
misplaced (and f g) = misplaced f || misplaced g
misplaced (or f g) = misplaced f || misplaced g
misplaced (implies f g) = timed f || (misplaced f || misplaced g)

unfoldable pub universal : Typed → Bool
universal f = not (some_path f || misplaced f)

-- ---- pushing down
-- a prefix; AF f is A(true U f)
unfoldable pub at_steps : Operator → Actl → Actl
at_steps Next a = AX a
at_steps Always a = AG a
at_steps Eventually a = AU verum a

-- The rule, or with false its negation. What is said of temporal parts under a negation, and of those on some path, doesn't matter: 20 refuses them.
unfoldable pub pushed : Bool → Typed → Actl
pushed true (named p) = has p
pushed false (named p) = lacks p
pushed true (constant true) = verum
pushed true (constant false) = falsum
pushed false (constant true) = falsum
pushed false (constant false) = verum
pushed b (negated f) = pushed (not b) f
pushed b (along q o f) = at_steps o (pushed b f)
pushed b (until q f g) = AU (pushed b f) (pushed b g)
pushed true (and f g) = both (pushed true f) (pushed true g)
pushed false (and f g) = either (pushed false f) (pushed false g)
pushed true (or f g) = either (pushed true f) (pushed true g)
pushed false (or f g) = both (pushed false f) (pushed false g)
pushed true (implies f g) = either (pushed false f) (pushed true g)
pushed false (implies f g) = both (pushed true f) (pushed false g)

abbrev pub formula_for : Typed → Actl
formula_for f = pushed true f

-- ---- records
-- how many a formula has
unfoldable pub size : Actl → ℕ
size verum = 1
size falsum = 1
size (has p) = 1
size (lacks p) = 1
size (both a b) = size a + size b + 1
size (either a b) = size a + size b + 1
size (AX a) = size a + 1
size (AU a b) = size a + size b + 1
size (AG a) = size a + 1

-- the number of its last record, where its first has number n
abbrev pub last : ℕ → Actl → ℕ
last n a = n + size a - 1

unfoldable pub records : ℕ → Actl → List Form
records n verum = truth ∷ []
records n falsum = falsity ∷ []
records n (has p) = prop p ∷ []
records n (lacks p) = nprop p ∷ []
records n (both a b) = records n a ++ (records (n + size a) b ++ (conj (last n a) (last (n + size a) b) ∷ []))
records n (either a b) = records n a ++ (records (n + size a) b ++ (disj (last n a) (last (n + size a) b) ∷ []))
records n (AX a) = records n a ++ (ax (last n a) ∷ [])
records n (AU a b) = records n a ++ (records (n + size a) b ++ (au (last n a) (last (n + size a) b) ∷ []))
records n (AG a) = records n a ++ (ag (last n a) ∷ [])

-- of several, one behind the other
unfoldable pub sizes : List Actl → ℕ
sizes [] = 0
sizes (a ∷ more) = size a + sizes more

unfoldable pub all_records : ℕ → List Actl → List Form
all_records n [] = []
all_records n (a ∷ more) = records n a ++ all_records (n + size a) more

unfoldable pub rules_from : ℕ → List Actl → List ℕ
rules_from n [] = []
rules_from n (a ∷ more) = last n a ∷ rules_from (n + size a) more

-- ---- bytes: kind, a, b, 0
unfoldable pub form_to : Form → List ℕ
form_to truth = 1 ∷ 0 ∷ 0 ∷ 0 ∷ []
form_to falsity = 2 ∷ 0 ∷ 0 ∷ 0 ∷ []
form_to (prop p) = 3 ∷ p ∷ 0 ∷ 0 ∷ []
form_to (nprop p) = 4 ∷ p ∷ 0 ∷ 0 ∷ []
form_to (conj a b) = 5 ∷ a ∷ b ∷ 0 ∷ []
form_to (disj a b) = 6 ∷ a ∷ b ∷ 0 ∷ []
form_to (ax a) = 7 ∷ a ∷ 0 ∷ 0 ∷ []
form_to (au a b) = 8 ∷ a ∷ b ∷ 0 ∷ []
form_to (ag a) = 9 ∷ a ∷ 0 ∷ 0 ∷ []

unfoldable pub forms_to : List Form → List ℕ
forms_to fs = flatten (map form_to fs)

-- the blocks of kinds 3 and 4
unfoldable pub rule_blocks : List Actl → List ℕ
rule_blocks rules = sealed 3 (sizes rules) 0 (forms_to (all_records 0 rules)) ++ sealed 4 (length rules) 0 (rules_from 0 rules)
