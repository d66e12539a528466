use Rattle.std.proofs.Common.{◌≡◌, map, take}
use Rattle.opc_machine.specs.Listings.{profile_line}
use Rattle.opc_gate_listings.proofs.profiles.profile_lines.Given as goal

abbrev pub invariant-loop-profile : goal.invariant-loop-profile
invariant-loop-profile l = l.lines ≡ map profile_line (take l.profile-index l.profiles)
