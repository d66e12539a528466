use Rattle.std.proofs.Common.{List, Result, Ok, Err, ℕ, subst}
use Rattle.std.specs.Prelude.{OnOk}
use Rattle.std.specs.Io.KnownBytes.{Appends}
use Rattle.std.proofs.KnownBytes.{Appends-kept, Appends-trans}
use Rattle.opc_cli_program.proofs.listening.write_socket.Goals as goal

always : {A E : Type 0} (X : Type 0) (r : Result A E) → X → OnOk r X
always X (Ok a) x = x
always X (Err e) x = tt

pub returns : goal.returns
returns g c =
    let held = g.W.Write.contents in
    let path = subst (λ (text : List ℕ). Appends (held c.write_all.new.self) (held c.write_all-2.new.self) text)
    c.as_bytes.ensures.value c.in_ok-write_all-2.ensures.bytes in
    let line = Appends-trans _ _ _ _ _ c.in_ok-write_all.ensures.bytes (Appends-trans _ _ _ _ _ path c.in_ok-write_all-3.ensures.bytes) in
    always _ c.flush.result (Appends-kept _ _ _ _ line c.flush.ensures.bytes)
