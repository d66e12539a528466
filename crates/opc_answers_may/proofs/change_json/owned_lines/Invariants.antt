use Rattle.std.proofs.Common.{◌≡◌, map}
use Rattle.std.specs.Map.Iter.{deref}
use Rattle.std.specs.Prelude.{string_bytes}
use Rattle.std.specs.List.{flat_map}
use Rattle.opc_answers_may.specs.Changes.{owned_by}
use Rattle.opc_answers_may.specs.MayJson.{owned_json}
use Rattle.opc_answers_may.proofs.change_json.owned_lines.Given as goal

abbrev pub invariant-loop-profile : goal.invariant-loop-profile
invariant-loop-profile l = string_bytes l.text ≡ flat_map (owned_json l.verdict) (owned_by l.user (map deref l.yielded))
