use Rattle.std.proofs.Common.{Global, List, Option, Vec, ℕ}
use Rattle.opc_answers_diff.proofs.Finding.{found_moved}
use Rattle.opc_answers_diff.proofs.compared.Compared.found_at.Goals as goal

pub returns : goal.returns
returns c =
    found_moved (λ (v : Vec (Option (List ℕ)) Global). v.items) c.args.self.now.before.policy c.args.self.now.after.policy
    c.args.self.now.patterns.items c.as_slice-patterns.result.now c.args.self.now.others.items c.as_slice-others.result.now c.args.at
    c.args.other_at c.decided_by_both.result c.as_slice-patterns.ensures.value c.as_slice-others.ensures.value c.decided_by_both.ensures
