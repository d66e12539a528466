-- From where requests are accepted: from anywhere, or from nothing that a web page can send.
use Rattle.std.specs.Prelude.{
  ℕ,
  Bool,
  true,
  false,
  not,
  List,
  [],
  ◌∷◌,
  ◌++◌,
  codes,
  decimal,
  Result,
  Ok,
  Err,
  if◌then◌else◌,
  ◌==◌,
  ◌&&◌,
  ◌||◌,
}
use Rattle.opc_http_requests.specs.Framing.{FieldLine, is_alike, values_of}
use Rattle.opc_http_requests.specs.declared.origins.Origins.{Origins}
use Rattle.opc_http_requests.specs.declared.origins.Origins.TheVariants.{Any, Only}
use Rattle.opc_http_requests.specs.declared.refusal.HttpRefusal.{HttpRefusal}
use Rattle.opc_http_requests.specs.declared.refusal.HttpRefusal.TheVariants.{Forbidden}

-- there is a value
abbrev pub has_value : List (List ℕ) → Bool
has_value [] = false
has_value (value ∷ rest) = true

-- there is a field of this name
abbrev pub has_field : (name : List ℕ) → List FieldLine → Bool
has_field name fields = has_value (values_of name fields)

-- A browser states for each request that a page makes where the page is from, or how far from here.
abbrev pub is_from_page : List FieldLine → Bool
is_from_page fields = has_field (codes "origin") fields || has_field (codes "sec-fetch-site") fields

-- a host and its port
abbrev pub host_at : (name : List ℕ) → (port : ℕ) → List ℕ
host_at name port = name ++ codes ":" ++ decimal port

-- The value names the host at the port. Port 80 is that of HTTP, and may be left out.
abbrev pub is_host : (port : ℕ) → (name value : List ℕ) → Bool
is_host port name value = is_alike value (host_at name port) || ((port == 80) && is_alike value name)

-- what is served at a port has two names
abbrev pub is_served : (port : ℕ) → (value : List ℕ) → Bool
is_served port value = is_host port (codes "127.0.0.1") value || is_host port (codes "localhost") value

-- the one value names what is served at the port
abbrev pub is_only_host : (port : ℕ) → List (List ℕ) → Bool
is_only_host port [] = false
is_only_host port (value ∷ []) = is_served port value
is_only_host port (value ∷ other ∷ rest) = false

-- there is one field Host, and it does
abbrev pub names_host : (port : ℕ) → List FieldLine → Bool
names_host port fields = is_only_host port (values_of (codes "host") fields)

-- no web page sent these fields, by what they state, and they are for what is served at the port
abbrev pub is_local : (port : ℕ) → List FieldLine → Bool
is_local port fields = not (is_from_page fields) && names_host port fields

-- a request with these fields is accepted
abbrev pub admitted : Origins → List FieldLine → Result Unit HttpRefusal
admitted Any fields = Ok tt
admitted (Only port) fields = if is_local port fields then Ok tt else Err Forbidden
