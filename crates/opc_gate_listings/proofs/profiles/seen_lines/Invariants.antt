use Rattle.std.proofs.Common.{◌≡◌, filter, map, take}
use Rattle.opc_machine.specs.Listings.{profile_line}
use Rattle.opc_gate_listings.specs.Seen.{is_seen}
use Rattle.opc_gate_listings.proofs.profiles.seen_lines.Given as goal

abbrev pub invariant-loop-profile : goal.invariant-loop-profile
invariant-loop-profile l = l.lines ≡ map profile_line (filter (is_seen l.console l.user l.groups) (take l.profile-index l.profiles))
