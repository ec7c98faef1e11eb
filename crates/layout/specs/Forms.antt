-- A formula by value, as the model has it.
use Rattle.model.specs.Formulas as model
use Rattle.layout.specs.declared.formulas.Form.{Form}
use Rattle.layout.specs.declared.formulas.Form.TheVariants as form

abbrev pub form_as : Form → model.Form
form_as form.True = model.truth
form_as form.False = model.falsity
form_as (form.Holds p) = model.prop p
form_as (form.Lacks p) = model.nprop p
form_as (form.And a b) = model.conj a b
form_as (form.Or a b) = model.disj a b
form_as (form.Next a) = model.ax a
form_as (form.Until a b) = model.au a b
form_as (form.Always a) = model.ag a
