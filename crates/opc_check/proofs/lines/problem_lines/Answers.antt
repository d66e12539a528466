use Rattle.std.proofs.Common.{◌≤◌, ◌∙◌, ap, arith, length}
use Rattle.std.specs.Prelude.{flat_map}
use Rattle.std.proofs.lemmas.List.{take_all}
use Rattle.opc_check.proofs.Telling.{lines_of_map}
use Rattle.opc_check.specs.Lines.{problem_line}
use Rattle.opc_check.specs.Problems.{problem_of}
use Rattle.opc_check.proofs.lines.problem_lines.Goals as goal

pub returns : goal.returns
returns c =
    let all = c.args.problems.now in
    let over : length all ≤ c.loop-problem.problem-index = omega arith in
    c.loop-problem.invariant ∙ (ap (flat_map (λ problem. problem_line c.args.form c.args.lines.now (problem_of problem)))
    (take_all c.loop-problem.problem-index all over) ∙ lines_of_map (problem_line c.args.form c.args.lines.now) problem_of all)
