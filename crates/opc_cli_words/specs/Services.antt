-- Where a service listens, by the values of its options --port, --socket and --socket-mode.
use Rattle.std.specs.Prelude.{
  ◌≡◌,
  ◌+◌,
  ◌*◌,
  ◌==◌,
  ◌||◌,
  ℕ,
  Bool,
  true,
  List,
  [],
  ◌∷◌,
  Option,
  Some,
  None,
  codes,
  if◌then◌else◌,
  is_some,
  length,
  not,
  option_and_then,
  unwrap_or,
}
use Rattle.std.specs.Option.{option_map_or}
use Rattle.opc_names.specs.Spellings.{lookup}
use Rattle.opc_cli_words.specs.Checks.{Check}
use Rattle.opc_cli_words.specs.Numbers.{number_between}
use Rattle.opc_cli_tasks.specs.declared.work.Address.{Address}
use Rattle.opc_cli_tasks.specs.declared.work.Address.TheVariants.{Port, Socket}
use Rattle.opc_cli_words.specs.declared.mistake.Mistake.TheVariants as wrong
use Rattle.opc_cli_words.specs.declared.mistake.Opt.TheVariants as opt

-- whether the value of an option is right, if it has one
abbrev pub is_right : (List ℕ → Bool) → Option (List ℕ) → Bool
is_right test value = option_map_or test value true

abbrev pub port_of : List ℕ → Option ℕ
port_of text = number_between 0 65_535 text

abbrev pub port_check : (port : Option (List ℕ)) → Check
port_check port = (wrong.Unread opt.Port, is_right (λ text. is_some (port_of text)) port)

-- a path is not empty
abbrev pub path_check : (socket : Option (List ℕ)) → Check
path_check socket = (wrong.Unread opt.Socket, is_right (λ path. not (length path == 0)) socket)

-- permissions by their three digits of base 8: of the owner, of the group, of everybody else
abbrev pub permissions : ℕ → ℕ → ℕ → ℕ
permissions owner group other = owner * 64 + group * 8 + other

-- the permissions that a socket may have: 6 is to read and write
abbrev pub socket_modes : List (List ℕ × ℕ)
socket_modes =
    (codes "600", permissions 6 0 0)
    ∷ (codes "0600", permissions 6 0 0)
    ∷ (codes "660", permissions 6 6 0)
    ∷ (codes "0660", permissions 6 6 0)
    ∷ (codes "666", permissions 6 6 6)
    ∷ (codes "0666", permissions 6 6 6)
    ∷ []

-- the owner's alone, if none are given
abbrev pub mode_of : Option (List ℕ) → Option ℕ
mode_of mode = lookup socket_modes (unwrap_or mode (codes "600"))

abbrev pub mode_check : (mode : Option (List ℕ)) → Check
mode_check mode = (wrong.Unread opt.SocketMode, is_some (mode_of mode))

-- exactly one of the two is given
abbrev pub is_one : {A B : Type 0} → Option A → Option B → Bool
is_one a b = if is_some a then not (is_some b) else is_some b

-- the first is given only with the second
abbrev pub is_with : {A B : Type 0} → Option A → Option B → Bool
is_with a b = not (is_some a) || is_some b

abbrev pub address_checks : (port socket mode : Option (List ℕ)) → List Check
address_checks port socket mode =
    (wrong.NotOneAddress, is_one port socket)
    ∷ (wrong.Lacks opt.SocketMode opt.Socket, is_with mode socket)
    ∷ port_check port
    ∷ path_check socket
    ∷ mode_check mode
    ∷ []

-- The address is the port that is given, or the socket, with its permissions.
abbrev pub IsAddress : (port socket mode : Option (List ℕ)) → Address → Type 0
IsAddress port socket mode (Port number) = (option_and_then port_of port ≡ Some number) × (socket ≡ None)
IsAddress port socket mode (Socket path permissions) =
    (port ≡ None) × (socket ≡ Some path.now) × (mode_of mode ≡ Some permissions)
