use Rattle.std.proofs.Common.{◌≡◌, string_bytes, take}
use Rattle.std.specs.Prelude.{flat_map}
use Rattle.opc_check.specs.Lines.{problem_line}
use Rattle.opc_check.specs.Problems.{problem_of}
use Rattle.opc_check.proofs.lines.problem_lines.Given as goal

abbrev pub invariant-loop-problem : goal.invariant-loop-problem
invariant-loop-problem l = string_bytes l.told
    ≡ flat_map (λ problem. problem_line l.form l.lines (problem_of problem)) (take l.problem-index l.problems)
