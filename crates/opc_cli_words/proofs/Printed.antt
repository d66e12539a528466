-- A text that was printed in pieces, of which the last was written if that succeeded.
use Rattle.std.proofs.Common.{◌≡◌, ◌++◌, ℕ, List, Option, subst, sym}
use Rattle.std.specs.Prelude.{OnOk, Result, Ok, Err}
use Rattle.std.specs.Io.KnownBytes.{Appends}
use Rattle.opc_io.proofs.Writing.{appends-more}

pub last_piece : {A E : Type 0} (result : Result A E) (a b c : Option (List ℕ)) (before last line : List ℕ) → line ≡ before ++ last
    → Appends a b before → OnOk result (Appends b c last) → OnOk result (Appends a c line)
last_piece (Ok v) a b c before last line is h k = subst (Appends a c) (sym is) (appends-more a b c before last h k)
last_piece (Err x) a b c before last line is h k = tt
