use Rattle.std.proofs.Common.{◌≡◌, take}
use Rattle.std.specs.Prelude.{string_bytes}
use Rattle.std.specs.List.{flat_map}
use Rattle.opc_policy.specs.Explained.{covers_line}
use Rattle.opc_answers.proofs.why_text.covers_lines.Given as goal

abbrev pub invariant-loop-pattern : goal.invariant-loop-pattern
invariant-loop-pattern l = string_bytes l.text ≡ flat_map covers_line (take l.pattern-index l.patterns)
