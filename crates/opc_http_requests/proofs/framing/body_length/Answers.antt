use Rattle.std.proofs.Common.{◌≡◌, ◌∙◌, Err, List, None, Ok, ap, codes, map, sym, ℕ}
use Rattle.httparse.specs.Spans.{header_bytes}
use Rattle.opc_http_requests.specs.Framing.{FieldLine, length_in, only, values_of}
use Rattle.opc_http_requests.proofs.FramingLemmas.{no-coding}
use Rattle.opc_http_requests.proofs.framing.body_length.Goals as goal

pub returns-in-Err : goal.returns-in-Err
returns-in-Err c =
    let fields : List FieldLine = map (header_bytes c.args.buf.now) c.args.headers.now in
    let codings : List (List ℕ) = values_of (codes "transfer-encoding") fields in
    let lengths : List (List ℕ) = values_of (codes "content-length") fields in
    let none : only codings ≡ Ok None = search (c.in-Ok-None.ensures.ok, c.in-Ok-None.field-0-is) in
    let several : only lengths ≡ Err c.in-Err.refusal = search c.in-Err.ensures.err in
    sym (no-coding codings (length_in (only lengths)) none ∙ ap length_in several)
