-- What was printed, one piece after another.
use Rattle.std.proofs.Common.{◌≡◌, ◌∙◌, ◌++◌, ℕ, List, [], Option, sym, true, false}
use Rattle.std.specs.Prelude.{Bool, OnOk, Result, Ok, Err, if◌then◌else◌, is_err}
use Rattle.std.specs.Io.KnownBytes.{Appends}
use Rattle.opc_io.proofs.Writing.{appends-more, appends-none}
use Rattle.opc_terms.specs.declared.fault.Fault.{Fault}
use Rattle.opc_cli_failures.specs.Printing.{Grows, IsReported, fault_line}

pub nothing_yet : (a : Option (List ℕ)) → Grows a a
nothing_yet a = ([], appends-none a)

module _ {A E : Type 0} (result : Result A E) (a b c : Option (List ℕ)) where
  -- bytes, and then more if that succeeded
  pub then_appends : (first second : List ℕ) → Appends a b first → OnOk result (Appends b c second) → OnOk result (Grows a c)
  then_appends first second h k = go result k
    where
      go : (r : Result A E) → OnOk r (Appends b c second) → OnOk r (Grows a c)
      go (Ok v) k = (first ++ second, appends-more a b c first second h k)
      go (Err e) k = tt

  pub then_grows : Grows a b → OnOk result (Grows b c) → OnOk result (Grows a c)
  then_grows h k = go result k
    where
      go : (r : Result A E) → OnOk r (Grows b c) → OnOk r (Grows a c)
      go (Ok v) k = (h.0 ++ k.0, appends-more a b c h.0 k.0 h.1 k.1)
      go (Err e) k = tt

  -- a fault's line, and then what failed
  pub reported_whole : (fault : Fault) → Appends a b (fault_line fault) → OnOk result (Grows b c) → OnOk result (IsReported fault a c)
  reported_whole fault line k = go result k
    where
      go : (r : Result A E) → OnOk r (Grows b c) → OnOk r (IsReported fault a c)
      go (Ok v) more = record { more = more.0; text = appends-more a b c (fault_line fault) more.0 line more.1 }
      go (Err e) more = tt

-- nothing failed, so it was printed
pub not_failed : {A E P : Type 0} (result : Result A E) (before after : Bool)
    → after ≡ (if is_err result then true else before) → OnOk result P → after ≡ false → P
not_failed (Ok a) before after is h fine = h
not_failed (Err e) before after is h fine = absurd (cc)

-- and nothing had failed before
pub had_not_failed : {A E : Type 0} (result : Result A E) (before after : Bool)
    → after ≡ (if is_err result then true else before) → after ≡ false → before ≡ false
had_not_failed (Ok a) before after h fine = sym h ∙ fine
had_not_failed (Err e) before after h fine = absurd (cc)
