-- The id of a request, which its response repeats.
use Rattle.std.specs.Prelude.{ℕ, Bool, List, codes, length, map, nat_le, take, Option, Some, None, Result, Ok, Err}
use Rattle.std.specs.Prelude.{if◌then◌else◌, ◌&&◌}
use Rattle.std.specs.List.{list_all}
use Rattle.httparse.specs.Spans.{header_bytes}
use Rattle.httparse.specs.declared.spans.HeaderSpan.{HeaderSpan}
use Rattle.httparse.specs.declared.spans.RequestSpans.{RequestSpans}
use Rattle.opc_http_requests.specs.Framing.{FieldLine, only, values_of}
use Rattle.opc_http_requests.specs.declared.refusal.HttpRefusal.{HttpRefusal}

-- a character of ASCII that is visible, from `!` (33) to `~` (126)
abbrev pub is_visible : ℕ → Bool
is_visible b = nat_le 33 b && nat_le b 126

-- 1 to 128 of them
abbrev pub is_request_id : List ℕ → Bool
is_request_id value = (nat_le 1 (length value) && nat_le (length value) 128) && list_all is_visible value

abbrev pub id_by : (value : List ℕ) → Option (List ℕ)
id_by value = if is_request_id value then Some value else None

-- one value, and no more, may be an id
abbrev pub id_of : Result (Option (List ℕ)) HttpRefusal → Option (List ℕ)
id_of (Ok None) = None
id_of (Ok (Some value)) = id_by value
id_of (Err several) = None

-- the id of a request with these fields, if it has one
abbrev pub request_id : List FieldLine → Option (List ℕ)
request_id fields = id_of (only (values_of (codes "x-request-id") fields))

-- the same for the head that these bytes begin with, if the spans find its parts
abbrev pub id_in : List ℕ → List HeaderSpan → RequestSpans → Option (List ℕ)
id_in buf headers spans = request_id (map (header_bytes buf) (take spans.headers headers))
