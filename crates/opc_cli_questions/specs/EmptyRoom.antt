-- What is reported of a run over new tables in memory.
use Rattle.std.specs.Prelude.{◌≡◌, ℕ, Bool, false, List, Option, None, codes}
use Rattle.std.specs.Borrow.{Bor}
use Rattle.std.specs.Io.KnownBytes.{Appends}
use Rattle.opc_cli_failures.specs.declared.status.Status.{Status}
use Rattle.opc_cli_failures.specs.declared.status.Status.TheVariants.{Refused}

-- no command is done there without a policy
abbrev pub empty_room_line : List ℕ
empty_room_line = codes "opcmds: without a policy there is no console; use --policy or --db\n"

module _ {K : Type 0} (held : K → Option (List ℕ)) (has_failed : K → Bool) (quiet noted : K) where
  -- If something was refused and no policy was given, that was printed, unless a write failed. Otherwise nothing was.
  abbrev pub IsEmptyRoomNoted : (policy : Option (Bor (List ℕ))) → Status → Type 0
  IsEmptyRoomNoted None Refused = has_failed noted ≡ false → Appends (held quiet) (held noted) empty_room_line
  IsEmptyRoomNoted policy status = noted ≡ quiet
