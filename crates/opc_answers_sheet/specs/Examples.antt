-- The forms of a row, each with an example: their names, and what the first one needs.
use Rattle.std.specs.Prelude.{ℕ, List, [], ◌∷◌, Option, Some, None, map}
use Rattle.opc_terms.specs.declared.need.Need.{Need}
use Rattle.opc_policy_deciders.specs.declared.form.ResourceForm.{ResourceForm}
use Rattle.opc_policy_deciders.specs.Forms.{AskedForm}
use Rattle.opc_policy_deciders.specs.Kinds.{Example}

abbrev pub need_of : Example → Need
need_of example = record {
  resource = example.resource;
  level = example.form.level;
  group = example.form.group;
}

abbrev pub first_need : List Example → Option Need
first_need [] = None
first_need (example ∷ more) = Some (need_of example)

abbrev pub forms_of : List Example → List AskedForm
forms_of examples = map (λ (example : Example). example.form) examples

-- the name of a form as the code has it
abbrev pub name_in : ResourceForm → List ℕ
name_in form = form.name.now

abbrev pub names_of : List Example → List (List ℕ)
names_of examples = map (λ (example : Example). example.form.name) examples
