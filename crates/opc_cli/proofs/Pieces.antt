-- What was printed in three pieces, one after another.
use Rattle.std.proofs.Common.{◌++◌, ℕ, List, Option}
use Rattle.std.specs.Prelude.{OnOk, Result, Ok, Err}
use Rattle.std.specs.Io.KnownBytes.{Appends}
use Rattle.opc_io.proofs.Writing.{appends-more}

pub three_appended : {A E : Type 0} (result : Result A E) (a b c d : Option (List ℕ)) (x y z : List ℕ) → Appends a b x
    → Appends b c y → OnOk result (Appends c d z) → OnOk result (Appends a d (x ++ y ++ z))
three_appended (Ok v) a b c d x y z h k l = appends-more a c d (x ++ y) z (appends-more a b c x y h k) l
three_appended (Err e) a b c d x y z h k l = tt
