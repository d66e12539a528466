use Rattle.std.proofs.Common.{◌≡◌, ◌<◌, ◌∙◌, ◌++◌, ◌∷◌, ◌==◌, List, [], ℕ, ap, arith, false, length, rules, slice_index, subst}
use Rattle.std.proofs.lemmas.Bool.Decides.{nat_tests}
use Rattle.std.specs.Io.KnownBytes.{Consumes}
use Rattle.opc_cli_digest.proofs.Lines.{one_byte, plain_more, read_more, typed_in_full, typed_to_feed}
use Rattle.opc_cli_digest.proofs.line.read_line.Goals as goal

pub returns-then-byte-eq10-clause-typed : goal.returns-then-byte-eq10-clause-typed
returns-then-byte-eq10-clause-typed g c =
    let inv = c.loop.invariant in
    let some : 0 < c.in-Ok.field-0 = grind (arith, nat_tests) in
    let sized : length c.read.new.buf ≡ 1 = search (rules, arith) in
    let one = one_byte c.read.new.buf c.in-Ok.field-0 sized some in
    let feed : slice_index c.read.new.buf 0 ≡ 10 = grind (arith, nat_tests) in
    let items : c.push.new.self.items ≡ c.loop.typed.items ++ slice_index c.read.new.buf 0 ∷ [] = search rules in
    let more = read_more _ _ _ c.loop.typed.items _ inv.0 c.in-Ok.ensures.bytes.0 in
    let all = subst (λ (t : List ℕ). Consumes (g.R.Read.remaining c.args.input.now) (g.R.Read.remaining c.read.new.self) (c.loop.typed.items ++ t))
    (one ∙ ap (λ (b : ℕ). b ∷ []) feed) more in
    rw (items, feed) (typed_to_feed _ _ c.loop.typed.items all inv.1 inv.2)

pub returns-then-len-eq-MOST-clause-typed : goal.returns-then-len-eq-MOST-clause-typed
returns-then-len-eq-MOST-clause-typed g c =
    let inv = c.loop.invariant in
    let some : 0 < c.in-Ok.field-0 = grind (arith, nat_tests) in
    let sized : length c.read.new.buf ≡ 1 = search (rules, arith) in
    let one = one_byte c.read.new.buf c.in-Ok.field-0 sized some in
    let other : (slice_index c.read.new.buf 0 == 10) ≡ false = grind (arith, nat_tests) in
    let items : c.push.new.self.items ≡ c.loop.typed.items ++ slice_index c.read.new.buf 0 ∷ [] = search rules in
    let more = read_more _ _ _ c.loop.typed.items _ inv.0 c.in-Ok.ensures.bytes.0 in
    let all = subst (λ (t : List ℕ). Consumes (g.R.Read.remaining c.args.input.now) (g.R.Read.remaining c.read.new.self) (c.loop.typed.items ++ t)) one more in
    let full : length (c.loop.typed.items ++ slice_index c.read.new.buf 0 ∷ []) ≡ 10 = grind arith in
    rw items (typed_in_full _ _ (c.loop.typed.items ++ slice_index c.read.new.buf 0 ∷ []) all
    (plain_more c.loop.typed.items (slice_index c.read.new.buf 0) inv.1 other) full)
