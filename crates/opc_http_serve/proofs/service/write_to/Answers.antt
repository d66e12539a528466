use Rattle.std.proofs.Common.{◌≡◌, ℕ, Bool, true, false, List, Option, Result, Ok, Err, arith, length, subst, sym}
use Rattle.std.specs.Prelude.{OnErr, OnOk, if◌then◌else◌, is_err}
use Rattle.std.specs.Io.KnownBytes.{Appends}
use Rattle.std.proofs.lemmas.List.{take_all}
use Rattle.opc_io.specs.Writes.{AppendsPrefix}
use Rattle.opc_http_serve.proofs.service.write_to.Goals as goal

module _ {A E : Type 0} (before after : Option (List ℕ)) (line : List ℕ) where
  part : (r : Result A E) → OnOk r (Appends before after line) → OnErr r (AppendsPrefix before after line) → AppendsPrefix before after line
  part (Ok all) ok err = record { count = length line; written = subst (Appends before after) (sym (take_all (length line) line (omega arith))) ok }
  part (Err fault) ok err = err

  whole : (was is : Bool) (r : Result A E) → OnOk r (Appends before after line) → is ≡ (if is_err r then true else was) → is ≡ false
      → Appends before after line
  whole was is (Ok all) ok failed none = ok
  whole was is (Err fault) ok failed none = absurd (cc)

pub returns-clause-part : goal.returns-clause-part
returns-clause-part g c = part _ _ _ c.write_whole.result c.write_whole.ensures.ok c.write_whole.ensures.err

pub returns-clause-whole : goal.returns-clause-whole
returns-clause-whole g c = λ none. whole _ _ _ _ _ c.write_whole.result c.write_whole.ensures.ok c.write_whole.ensures.failed none
