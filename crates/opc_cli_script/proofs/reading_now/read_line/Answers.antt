use Rattle.std.proofs.Common.{◌≡◌, ◌<◌, ◌==◌, ◌∷◌, [], ℕ, arith, false, length, rules, slice_index, subst, take}
use Rattle.std.proofs.lemmas.Bool.Decides.{nat_tests}
use Rattle.std.specs.Io.KnownBytes.{Consumes}
use Rattle.opc_cli_script.proofs.Typing.{ends_by_feed, ends_with_input, goes_on, one_byte, stays}
use Rattle.opc_cli_script.proofs.reading_now.read_line.Goals.{in-Err, in-Ok+else-byte-eq10+in_ok-keep-in-Ok}
use Rattle.opc_cli_script.proofs.reading_now.read_line.Goals as goal

pub returns-in-Ok-eq0 : goal.returns-in-Ok-eq0
returns-in-Ok-eq0 g c =
    let bytes = rw c.in-Ok-eq0.is at c.read.ensures.bytes in
    let zero : c.in-Ok-eq0.field-0 ≡ 0 = grind (arith, nat_tests) in
    let sized : 0 < length c.read.new.buf = search (rules, arith) in
    let none = subst (λ (n : ℕ). Consumes (g.R.Read.remaining c.loop.input) (g.R.Read.remaining c.read.new.self) (take n c.read.new.buf)) zero bytes.0 in
    ends_with_input _ _ _ c.loop.bytes.items c.loop.invariant c.at_end.result none (bytes.1 zero sized) c.at_end.ensures

pub returns-then-byte-eq10 : goal.returns-then-byte-eq10
returns-then-byte-eq10 g c =
    let some : 0 < c.in-Ok.field-0 = grind (arith, nat_tests) in
    let sized : length c.read.new.buf ≡ 1 = search (rules, arith) in
    let one = one_byte c.read.new.buf c.in-Ok.field-0 sized some in
    let feed : slice_index c.read.new.buf 0 ≡ 10 = grind (arith, nat_tests) in
    let read = subst (Consumes (g.R.Read.remaining c.loop.input) (g.R.Read.remaining c.read.new.self)) one c.in-Ok.ensures.bytes.0 in
    ends_by_feed _ _ _ c.loop.bytes.items c.loop.invariant c.before_feed.result
    (subst (λ (x : ℕ). Consumes (g.R.Read.remaining c.loop.input) (g.R.Read.remaining c.read.new.self) (x ∷ [])) feed read) c.before_feed.ensures

pub loop-preserved : goal.loop-preserved
loop-preserved g c = elim c.match-read.branch [
  | in-Err w ↦ rw w.bytes-is (stays _ _ _ c.loop.bytes.items c.loop.invariant (search rules))
  | in-Ok+else-byte-eq10+in_ok-keep-in-Ok w ↦
      let some : 0 < w.in-Ok.field-0 = grind (arith, nat_tests, w.in-Ok.field-0-test) in
      let sized : length c.read.new.buf ≡ 1 = search (rules, arith) in
      let one = one_byte c.read.new.buf w.in-Ok.field-0 sized some in
      let read = subst (Consumes (g.R.Read.remaining c.loop.input) (g.R.Read.remaining c.read.new.self)) one w.in-Ok.ensures.bytes.0 in
      let other : (slice_index c.read.new.buf 0 == 10) ≡ false = grind (arith, nat_tests, w.if-byte-eq10.false) in
      rw w.bytes-is (goes_on _ _ _ c.loop.bytes.items c.loop.invariant (slice_index c.read.new.buf 0) _ read other w.in_ok-keep-in-Ok.ensures)
]
