-- What the path of a request states: its route, and its values.
use Rattle.std.specs.Prelude.{
  ℕ,
  Bool,
  not,
  ◌==◌,
  ◌&&◌,
  nat_le,
  List,
  [],
  ◌∷◌,
  codes,
  Option,
  Some,
  None,
  option_and_then,
  Result,
  Ok,
  Err,
  if◌then◌else◌,
}
use Rattle.std.specs.List.{list_all}
use Rattle.std.specs.Str.{bytes_eq}
use Rattle.opc_names.specs.Names.{console_rule}
use Rattle.opc_names.specs.Spellings.{classes, lookup}
use Rattle.opc_names.specs.declared.class.Class.{Class}
use Rattle.opc_import.specs.Fields.{name_of}
use Rattle.opc_http_requests.specs.Framing.{number_in}
use Rattle.opc_http_requests.specs.Refusals.{required}
use Rattle.opc_http_requests.specs.Routes.{part_at, route_of}
use Rattle.opc_http_requests.specs.declared.refusal.HttpRefusal.{HttpRefusal}
use Rattle.opc_http_requests.specs.declared.refusal.HttpRefusal.TheVariants.{NotFound}
use Rattle.opc_http_requests.specs.declared.refusal.InvalidPart.TheVariants.{Batch, Class as ClassPart, Console, Count, First}
use Rattle.opc_http_requests.specs.declared.routes.Route.{Route}

-- a byte of a path: 63 is `?`, and 126 (7E) is the last one
abbrev pub is_path_byte : ℕ → Bool
is_path_byte b = not (b == 63) && nat_le b 126

-- the path that a target is
abbrev pub path_in : List ℕ → Result (List ℕ) HttpRefusal
path_in target = if list_all is_path_byte target then Ok target else Err NotFound

-- a path without a route is not found
abbrev pub found : Option Route → Result Route HttpRefusal
found None = Err NotFound
found (Some route) = Ok route

-- the route of a path
abbrev pub route_in : List ℕ → Result Route HttpRefusal
route_in path = found (route_of path)

-- what three bytes stand for, if they are an escape: `%23`, `%24` and `%40` stand for `#`, `$` and `@`
abbrev pub escaped : List ℕ → Option ℕ
escaped bytes =
    if bytes_eq bytes (codes "%23") then Some 35
    else if bytes_eq bytes (codes "%24") then Some 36
    else if bytes_eq bytes (codes "%40") then Some 64
    else None

-- the bytes with each escape read once, from left to right
abbrev pub unescaped : List ℕ → List ℕ
unescaped [] = []
unescaped (a ∷ []) = a ∷ []
unescaped (a ∷ b ∷ []) = a ∷ b ∷ []
unescaped (a ∷ b ∷ c ∷ rest) = elim (escaped (a ∷ b ∷ c ∷ [])) [
  | Some character ↦ character ∷ unescaped rest
  | None ↦ a ∷ unescaped (b ∷ c ∷ rest)
]

-- a number that is not below the first limit, nor above the second
abbrev pub within : ℕ → ℕ → ℕ → Option ℕ
within least most n = if nat_le least n && nat_le n most then Some n else None

-- the console: the second part
abbrev pub console_in : List ℕ → Result (List ℕ) HttpRefusal
console_in path = required Console (name_of console_rule (unescaped (part_at 2 path)))

-- what follows the third part: the number of a batch, from 1 to 999,999,999
abbrev pub batch_in : List ℕ → Result ℕ HttpRefusal
batch_in path = required Batch (option_and_then (within 1 999999999) (number_in 9 (part_at 4 path)))

-- or a class
abbrev pub class_in : List ℕ → Result Class HttpRefusal
class_in path = required ClassPart (lookup classes (part_at 4 path))

-- or the first number of the account, of at most 18 digits
abbrev pub from_in : List ℕ → Result ℕ HttpRefusal
from_in path = required First (number_in 18 (part_at 4 path))

-- and how many rows of it, from 1 to 1,000
abbrev pub count_in : List ℕ → Result ℕ HttpRefusal
count_in path = required Count (option_and_then (within 1 1000) (number_in 4 (part_at 5 path)))
