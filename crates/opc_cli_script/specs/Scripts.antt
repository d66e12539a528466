-- Scripts: requests with their timestamps, a line each.
use Rattle.std.specs.Prelude.{
  ◌==◌,
  ◌&&◌,
  ◌+◌,
  ℕ,
  Bool,
  not,
  if◌then◌else◌,
  List,
  Option,
  Some,
  None,
  codes,
  length,
  nat_le,
}
use Rattle.std.specs.Char.{is_ascii_digit}
use Rattle.std.specs.List.{flat_map, list_all, position}
use Rattle.std.specs.Option.{is_none, option_map, option_to_list}
use Rattle.std.specs.Str.{bytes_eq}
use Rattle.std.specs.Str.Lines.{lines}
use Rattle.std.specs.Str.Parse.{digits_value}
use Rattle.opc_names.specs.Names.{console_rule}
use Rattle.opc_machine.specs.declared.request.Request.{Request}
use Rattle.opc_machine.specs.declared.request.Request.TheVariants.{Command, Event}
use Rattle.opc_cli_script.specs.Reading.{◌>>=◌, is_space, separated, name_in, event_in}

-- the most digits of a timestamp
abbrev pub moment_digits : ℕ
moment_digits = 13

-- the most bytes of a script
abbrev pub script_limit : ℕ
script_limit = 1048576

-- digits, and no sign
abbrev pub is_number : List ℕ → Bool
is_number text = not (length text == 0) && list_all is_ascii_digit text

abbrev pub moment_in : List ℕ → Option ℕ
moment_in text = if is_number text && nat_le (length text) moment_digits then Some (digits_value 10 text) else None

-- `*` stands for the machine room; any other name is a console's, where the text is typed verbatim
abbrev pub request_of : List ℕ × List ℕ → Option Request
request_of words =
    if bytes_eq words.0 (codes "*") then option_map Event (event_in words.1) else
    option_map (λ console. Command console words.1) (name_in console_rule words.0)

-- The parts of a line, with one space between them: the timestamp, and then console or `*`, and text.
unfoldable pub parts_in : List ℕ → Option (ℕ × (List ℕ × List ℕ))
parts_in line = do
  words ← separated line
  moment ← moment_in words.0
  rest ← separated words.1
  Some (moment, rest)

-- the request of a line
abbrev pub request_in : List ℕ → Option (ℕ × Request)
request_in line = do
  parts ← parts_in line
  request ← request_of parts.1
  Some (parts.0, request)

-- the request of a line without a timestamp
abbrev pub untimed_request_in : List ℕ → Option Request
untimed_request_in line = separated line >>= request_of

-- empty, or only spaces
abbrev pub is_blank : List ℕ → Bool
is_blank line = list_all is_space line

-- neither blank nor a request
abbrev pub is_bad : List ℕ → Bool
is_bad line = not (is_blank line) && is_none (request_in line)

-- The number of the first bad line, from 1 on; blank lines count. 0 stands for a script that is too long.
abbrev pub bad_line : List ℕ → Option ℕ
bad_line script = if nat_le (length script) script_limit then option_map (λ at. at + 1)
    (position is_bad (lines script)) else Some 0

-- The requests of a script, in order.
abbrev pub requests_in : List ℕ → List (ℕ × Request)
requests_in script = flat_map (λ line. option_to_list (request_in line)) (lines script)
