use Rattle.std.proofs.Common.{◌≡◌}
use Rattle.std.specs.Prelude.{Err, IsOk, Result}
use Rattle.std.proofs.lemmas.Str.{IsUtf8-from_ascii}
use Rattle.opc_import.specs.Lines.{csv_text}
use Rattle.opc_import.proofs.AsciiText.{csv_text-ascii}
use Rattle.opc_import.proofs.PlainText.{csv-written}
use Rattle.opc_import.proofs.RoundTrip.{file-back}
use Rattle.opc_import.proofs.write.write_policy.Goals as goal

pub returns-clause-text : goal.returns-clause-text
returns-clause-text c = rw (c.in-Ok.ensures.ok, c.in_ok-bytes.ensures.text) (csv-written c.args.rows.now c.in_ok-bytes.ensures.valid)

pub returns-clause-reads_back : goal.returns-clause-reads_back
returns-clause-reads_back c fits = rw (c.in-Ok.ensures.ok, c.in_ok-bytes.ensures.text) (file-back c.args.rows.now fits c.in_ok-bytes.ensures.valid)

never : {T E : Type 0} (r : Result T E) (e : E) → IsOk r → r ≡ Err e → ⊥
never r e read failed = let h = rw failed at read in cc

pub unreachable-requires : goal.unreachable-requires
unreachable-requires c =
    let ascii = csv_text-ascii c.args.rows.now c.in_ok-bytes.ensures.valid in
    never _ _ (c.from_utf8.ensures.succeeds (rw c.in_ok-bytes.ensures.text (IsUtf8-from_ascii (csv_text c.args.rows.now) ascii))) c.in_default.is
