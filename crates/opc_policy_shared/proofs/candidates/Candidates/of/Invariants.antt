use Rattle.std.proofs.Common.{◌≡◌, All}
use Rattle.opc_names.specs.Names.{IsPattern}
use Rattle.opc_policy_members.specs.declared.profile.Profile.{Profile}
use Rattle.opc_policy_shared.proofs.candidates.Candidates.of.Given as goal

abbrev pub invariant-loop-profile : goal.invariant-loop-profile
invariant-loop-profile l = (l.list.items ≡ l.yielded) × All (λ (p : Profile). IsPattern p.pattern) l.list.items
