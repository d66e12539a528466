use Rattle.std.proofs.Common.{◌≡◌, IfSome, length, map, take}
use Rattle.std.specs.Option.{option_map, option_to_list}
use Rattle.httparse.specs.Spans.{IsWithin, header_bytes, span_bytes}
use Rattle.opc_http_requests.specs.Framing.{values_of}
use Rattle.opc_http_requests.proofs.framing.only_value.Given as goal

abbrev pub invariant-loop-header : goal.invariant-loop-header
invariant-loop-header l =
    (values_of l.name (map (header_bytes l.buf) (take l.header-index l.headers)) ≡ option_to_list (option_map (span_bytes l.buf) l.found))
    × IfSome l.found (IsWithin (length l.buf))
