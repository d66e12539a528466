-- Results of searches have no floats.
use Rattle.std.proofs.Common.{◌≡◌, ℕ, false, List, [], ◌∷◌, refl, map}
use Rattle.serde_json.specs.View.{items_of}
use Rattle.serde_json.specs.Written.{has_float, items_have_float}
use Rattle.opc_decide_searches.specs.declared.candidate.AccessCandidate.{AccessCandidate}
use Rattle.opc_decide_searches.specs.declared.candidate.AccessCandidate.TheVariants.{Action, Console, Nobody, User}
use Rattle.opc_decide_searches.specs.Candidates.{candidate_value}
use Rattle.opc_decide_searches.specs.Pages.{rest_of, results_value, shown_of}

value_so : (c : AccessCandidate) → has_float (candidate_value c) ≡ false
value_so (User id) = refl
value_so (Nobody name) = refl
value_so (Action action) = refl
value_so (Console name) = refl

values_so : (list : List AccessCandidate) → items_have_float (items_of (map candidate_value list)) ≡ false
values_so [] = refl
values_so (c ∷ list) = rw (value_so c, values_so list) refl

pub results_so : (limit : ℕ) (token : List ℕ) (found : List AccessCandidate) → has_float (results_value limit token found) ≡ false
results_so limit token found = rw (values_so (shown_of limit (rest_of token found))) refl
