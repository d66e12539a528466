-- How long the body of a request is, by the fields of its head.
use Rattle.std.specs.Prelude.{
  ℕ,
  Bool,
  not,
  List,
  [],
  ◌∷◌,
  codes,
  length,
  map,
  filter,
  nat_le,
  Option,
  Some,
  None,
  Result,
  Ok,
  Err,
  if◌then◌else◌,
  ◌==◌,
  ◌&&◌,
}
use Rattle.std.specs.Char.{is_ascii_digit, to_ascii_lowercase}
use Rattle.std.specs.List.{list_all}
use Rattle.std.specs.Str.{bytes_eq}
use Rattle.std.specs.Str.Parse.{digits_value}
use Rattle.opc_http_requests.specs.declared.refusal.HttpRefusal.{HttpRefusal}
use Rattle.opc_http_requests.specs.declared.refusal.HttpRefusal.TheVariants.{BadRequest, TooLarge}
use Rattle.opc_http_requests.specs.declared.refusal.InvalidPart.TheVariants.{Coding, Length}

-- a field: its name, and its value without the spaces and tabs around it
abbrev pub FieldLine : Type 0
FieldLine = List ℕ × List ℕ

-- upper and lower case are alike
abbrev pub is_alike : List ℕ → List ℕ → Bool
is_alike found text = bytes_eq (map to_ascii_lowercase found) (map to_ascii_lowercase text)

abbrev pub has_name : List ℕ → FieldLine → Bool
has_name name field = is_alike field.0 name

-- the values of the fields with a name
abbrev pub values_of : List ℕ → List FieldLine → List (List ℕ)
values_of name fields = map (λ (field : FieldLine). field.1) (filter (has_name name) fields)

-- the only one, if there is any; several are refused like several lengths
abbrev pub only : List (List ℕ) → Result (Option (List ℕ)) HttpRefusal
only [] = Ok None
only (value ∷ []) = Ok (Some value)
only (value ∷ other ∷ rest) = Err (BadRequest Length)

-- decimal digits, at least one and at most this many
abbrev pub number_in : ℕ → List ℕ → Option ℕ
number_in most text =
    if (not (length text == 0) && list_all is_ascii_digit text)
    && nat_le (length text) most then Some (digits_value 10 text) else None

-- the most bytes of a body
abbrev pub body_limit : ℕ
body_limit = 65536

-- a length has at most nine digits
abbrev pub length_by : Option ℕ → Result ℕ HttpRefusal
length_by None = Err (BadRequest Length)
length_by (Some n) = if nat_le n body_limit then Ok n else Err TooLarge

-- without a length there is no body
abbrev pub length_in : Result (Option (List ℕ)) HttpRefusal → Result ℕ HttpRefusal
length_in (Err e) = Err e
length_in (Ok None) = Ok 0
length_in (Ok (Some value)) = length_by (number_in 9 value)

-- a chunked body is refused
abbrev pub length_with : List (List ℕ) → Result ℕ HttpRefusal → Result ℕ HttpRefusal
length_with [] found = found
length_with (coding ∷ rest) found = Err (BadRequest Coding)

-- the length of the body
abbrev pub body_length : List FieldLine → Result ℕ HttpRefusal
body_length fields = length_with (values_of (codes "transfer-encoding") fields)
    (length_in (only (values_of (codes "content-length") fields)))
