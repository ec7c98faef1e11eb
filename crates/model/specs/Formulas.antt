-- Specification, "Formulas": numbered formulas, each made from formulas with lower numbers.
use Rattle.std.specs.Prelude.{List, [], ◌∷◌, ◌++◌, ℕ, ◌*◌, ◌<◌, length, get_or}
use Rattle.model.specs.Joined.{side_labels}
use Rattle.model.specs.Actl.{Actl, verum, falsum, has, lacks, both, either, AX, AU, AG}

-- kinds 1 to 9 of the specification, in order; from `conj` on the operands are numbers of formulas
pub data Form : Type 0 where
  truth falsity : Form
  prop nprop : ℕ → Form
  conj disj : ℕ → ℕ → Form
  ax : ℕ → Form
  au : ℕ → ℕ → Form
  ag : ℕ → Form

-- Whatever is made of each formula in order, from what was made of those before it.
abbrev pub grow : {A : Type 0} → (Form → List A → A) → List Form → List A → List A
grow g [] acc = acc
grow g (r ∷ rs) acc = grow g rs (acc ++ (g r acc ∷ []))

-- An operand that isn't lower and a number past the end read as false; refusal 7 shuts both out.
abbrev pub expand : Form → List Actl → Actl
expand truth acc = verum
expand falsity acc = falsum
expand (prop p) acc = has p
expand (nprop p) acc = lacks p
expand (conj a b) acc = both (get_or acc a falsum) (get_or acc b falsum)
expand (disj a b) acc = either (get_or acc a falsum) (get_or acc b falsum)
expand (ax a) acc = AX (get_or acc a falsum)
expand (au a b) acc = AU (get_or acc a falsum) (get_or acc b falsum)
expand (ag a) acc = AG (get_or acc a falsum)

-- the formula with number f
abbrev pub formula : List Form → ℕ → Actl
formula fs f = get_or (grow expand fs []) f falsum

-- ---- refusal 7
-- operands are lower than the formula's own number k
abbrev pub LowerForm : ℕ → Form → Type 0
LowerForm k truth = Unit {0}
LowerForm k falsity = Unit {0}
LowerForm k (prop p) = Unit {0}
LowerForm k (nprop p) = Unit {0}
LowerForm k (conj a b) = (a < k) × (b < k)
LowerForm k (disj a b) = (a < k) × (b < k)
LowerForm k (ax a) = a < k
LowerForm k (au a b) = (a < k) × (b < k)
LowerForm k (ag a) = a < k

abbrev pub Lower : List Form → Type 0
Lower fs = (k : ℕ) → k < length fs → LowerForm k (get_or fs k truth)

-- a proposition is a label of one of n sides: from 0 to 47 where there are three
abbrev pub PropForm : ℕ → Form → Type 0
PropForm n truth = Unit {0}
PropForm n falsity = Unit {0}
PropForm n (prop p) = p < side_labels * n
PropForm n (nprop p) = p < side_labels * n
PropForm n (conj a b) = Unit {0}
PropForm n (disj a b) = Unit {0}
PropForm n (ax a) = Unit {0}
PropForm n (au a b) = Unit {0}
PropForm n (ag a) = Unit {0}

abbrev pub Propositions : ℕ → List Form → Type 0
Propositions n fs = (k : ℕ) → k < length fs → PropForm n (get_or fs k truth)
