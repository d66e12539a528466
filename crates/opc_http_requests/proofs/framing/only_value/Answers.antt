use Rattle.std.proofs.Common.{◌≡◌, ◌∙◌, true, ap, sym, map}
use Rattle.std.specs.Char.{to_ascii_lowercase}
use Rattle.std.specs.Prelude.{is_some, ℕ, List}
use Rattle.std.specs.Str.{bytes_eq}
use Rattle.httparse.specs.Spans.{header_bytes, span_bytes}
use Rattle.opc_http_requests.proofs.FramingLemmas.{often}
use Rattle.opc_http_requests.proofs.framing.only_value.Goals as goal

pub returns-then-is_some-clause-err : goal.returns-then-is_some-clause-err
returns-then-is_some-clause-err c =
    let is : is_some c.loop-header.found ≡ true = sym c.is_some.ensures ∙ c.if-is_some.true in
    let named = ap (λ (t : List ℕ). bytes_eq (map to_ascii_lowercase t) (map to_ascii_lowercase c.args.name.now))
    (sym c.of.ensures) ∙ sym c.is_named.ensures ∙ c.if-is_named.true in
    often (header_bytes c.args.buf.now) (span_bytes c.args.buf.now) c.args.name.now c.args.headers.now
    c.loop-header.header-index _ c.loop-header.found c.loop-header-test.true c.loop-header.invariant.0 is named
