-- The texts of verdicts.
use Rattle.std.specs.Prelude.{ℕ, List, codes}
use Rattle.opc_policy.specs.declared.verdict.Verdict.{Verdict}
use Rattle.opc_policy.specs.declared.verdict.Verdict.TheVariants.{Allowed, Undecided, Denied}

abbrev pub verdict_text : Verdict → List ℕ
verdict_text Allowed = codes "ALLOWED"
verdict_text Undecided = codes "UNDECIDED"
verdict_text Denied = codes "DENIED"
