-- The text of a rule, which may be `null`.
use Rattle.std.proofs.Common.{◌≡◌, ℕ, List, Option, Some, None, refl}
use Rattle.serde_json.specs.Find.{as_str}
use Rattle.opc_answers.specs.Json.{text_or_null}

pub as_str_so : (text : Option (List ℕ)) → as_str (text_or_null text) ≡ text
as_str_so None = refl
as_str_so (Some text) = refl
