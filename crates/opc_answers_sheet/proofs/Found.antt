-- Forms of which something is found, one after another.
use Rattle.std.proofs.Common.{◌≡◌, ◌++◌, ◌∙◌, ℕ, Bool, true, false, List, [], ◌∷◌, Option, Some, None, ap, map, refl, sym, if◌then◌else◌}
use Rattle.opc_policy_deciders.specs.declared.form.ResourceForm.{ResourceForm}
use Rattle.opc_policy_deciders.specs.declared.kind.AskedKind.{AskedKind}
use Rattle.opc_policy_deciders.specs.Forms.{AskedForm, asked}
use Rattle.opc_policy_deciders.specs.Kinds.{Example, examples, is_of_kind}
use Rattle.opc_answers_sheet.specs.Examples.{forms_of, name_in, names_of}

abbrev example_of : AskedForm → List ℕ → Example
example_of form resource = record { form = form; resource = resource }

pub found_step : (kind : AskedKind) (form : AskedForm) (example : Option (List ℕ)) (forms : List AskedForm) (found : List (Option (List ℕ)))
    → forms_of (examples kind (form ∷ forms) (example ∷ found))
    ≡ forms_of (examples kind (form ∷ []) (example ∷ [])) ++ forms_of (examples kind forms found)
found_step kind form None forms found = refl
found_step kind form (Some resource) forms found = go (is_of_kind kind form)
  where
    go : (b : Bool) → forms_of (if b then example_of form resource ∷ examples kind forms found else examples kind forms found)
        ≡ forms_of (if b then example_of form resource ∷ [] else []) ++ forms_of (examples kind forms found)
    go true = refl
    go false = refl

abbrev name_of : AskedForm → List ℕ
name_of form = form.name

of_code : (forms : List ResourceForm) → map name_of (map asked forms) ≡ map name_in forms
of_code [] = refl
of_code (form ∷ forms) = ap (λ names. form.name.now ∷ names) (of_code forms)

of_examples : (list : List Example) → map name_of (forms_of list) ≡ names_of list
of_examples [] = refl
of_examples (example ∷ list) = ap (λ names. example.form.name ∷ names) (of_examples list)

pub names_so : (forms : List ResourceForm) (list : List Example) → map asked forms ≡ forms_of list → map name_in forms ≡ names_of list
names_so forms list is = sym (of_code forms) ∙ (ap (map name_of) is ∙ of_examples list)
