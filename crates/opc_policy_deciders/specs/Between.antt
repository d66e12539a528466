-- Resources that some patterns cover and others do not.
use Rattle.std.specs.Prelude.{◌≡◌, ℕ, false, true, List}
use Rattle.std.specs.List.{list_all, list_any}
use Rattle.opc_names.specs.Names.{qualifiers}
use Rattle.opc_names.specs.Patterns.{covers_text}
use Rattle.opc_policy_deciders.specs.Forms.{AreOf, AskedForm}

-- a resource of a form that all of these patterns cover and none of those
pub record IsBetween (include exclude : List (List ℕ)) (form : AskedForm) (resource : List ℕ) : Type 0 where
  pub of_form : AreOf form.qualifiers (qualifiers resource)
  pub covered : list_all (λ (p : List ℕ). covers_text p resource) include ≡ true
  pub uncovered : list_any (λ (p : List ℕ). covers_text p resource) exclude ≡ false
