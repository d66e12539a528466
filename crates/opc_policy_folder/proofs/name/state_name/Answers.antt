use Rattle.std.proofs.Common.{◌∙◌, ◌++◌, ap}
use Rattle.std.specs.Prelude.{codes, string_bytes}
use Rattle.std.specs.List.{flat_map}
use Rattle.std.proofs.lemmas.Result.{IfOk-weaker}
use Rattle.opc_policy_folder.specs.StateNames.{stamped}
use Rattle.opc_policy_folder.proofs.name.state_name.Goals as goal

pub returns : goal.returns
returns c =
    let time = string_bytes c.in_ok-time.time in
    let read = ap (flat_map stamped) (c.as_bytes.ensures.value ∙ c.as_str.ensures.value) in
    let stamp = c.as_str-2.ensures.value ∙ c.in_ok-stamp.ensures ∙ read in
    let digits = c.as_str-3.ensures.value ∙ c.in_ok-digits.ensures in
    IfOk-weaker c.joined.result _ _ (λ name is. record {
      time = time;
      at = c.in_ok-time.ensures;
      is = is ∙ ap (λ text. text ++ codes "-" ++ c.as_str-3.result.now) stamp ∙ ap (λ text. flat_map stamped time ++ codes "-" ++ text) digits;
    }) c.joined.ensures
