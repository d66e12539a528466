-- Words of a script, read.
use Rattle.std.specs.Prelude.{
  ◌==◌,
  ◌&&◌,
  ◌*◌,
  ◌+◌,
  ◌-◌,
  ℕ,
  Bool,
  true,
  false,
  if◌then◌else◌,
  List,
  [],
  ◌∷◌,
  Option,
  Some,
  None,
  codes,
  length,
  take,
  drop,
}
use Rattle.std.specs.Char.{is_ascii_digit}
use Rattle.std.specs.List.{position}
use Rattle.std.specs.Option.{is_none, option_map}
use Rattle.std.specs.Str.{bytes_eq}
use Rattle.opc_names.specs.declared.rule.NameRule.{NameRule}
use Rattle.opc_names.specs.Names.{name_fault, unit_rule, device_rule}
use Rattle.opc_names.specs.Spellings.{lookup}
use Rattle.opc_board.specs.declared.event.Event.{Event}
use Rattle.opc_board.specs.declared.event.Event.TheVariants as event
use Rattle.opc_board.specs.declared.rows.UnitKind.{UnitKind}
use Rattle.opc_board.specs.declared.rows.UnitKind.TheVariants.{Job, Stc, Tsu}

infixl 10 ◌>>=◌
abbrev pub ◌>>=◌ : {A B : Type 0} → Option A → (A → Option B) → Option B
None >>= f = None
(Some x) >>= f = f x

-- 32 is the space
abbrev pub is_space : ℕ → Bool
is_space c = c == 32

-- the first word of a text, and what follows the space after it
abbrev pub separated : List ℕ → Option (List ℕ × List ℕ)
separated text = option_map (λ at. (take at text, drop (at + 1) text)) (position is_space text)

abbrev pub name_in : NameRule → List ℕ → Option (List ℕ)
name_in rule text = if is_none (name_fault rule text) then Some text else None

-- two digits
abbrev pub id_in : List ℕ → Option ℕ
id_in (a ∷ (b ∷ [])) = if is_ascii_digit a && is_ascii_digit b then Some (10 * (a - 48) + (b - 48)) else None
id_in other = None

-- a word that NONCANCEL follows, or nothing
abbrev pub flag_of : List ℕ → Option (List ℕ × List ℕ) → Option (List ℕ × Bool)
flag_of text None = Some (text, true)
flag_of text (Some words) = if bytes_eq words.1 (codes "NONCANCEL") then Some (words.0, false) else None

abbrev pub flagged : List ℕ → Option (List ℕ × Bool)
flagged text = flag_of text (separated text)

abbrev pub kinds : List (List ℕ × UnitKind)
kinds = (codes "JOB", Job) ∷ (codes "TSU", Tsu) ∷ []

unfoldable pub plain_kind : List ℕ → Option (UnitKind × Bool)
plain_kind text = do
  word ← flagged text
  kind ← lookup kinds word.0
  Some (kind, word.1)

unfoldable pub started_kind : List ℕ → Option (UnitKind × Bool)
started_kind text = do
  word ← flagged text
  member ← name_in unit_rule word.0
  Some (Stc member, word.1)

-- the kind of a unit, and whether it is cancelable
abbrev pub kind_of : List ℕ → Option (List ℕ × List ℕ) → Option (UnitKind × Bool)
kind_of text None = plain_kind text
kind_of text (Some words) = if bytes_eq words.0 (codes "STC") then started_kind words.1 else plain_kind text

abbrev pub kind_in : List ℕ → Option (UnitKind × Bool)
kind_in text = kind_of text (separated text)

unfoldable pub job_in : List ℕ → Option Event
job_in text = do
  words ← separated text
  name ← name_in unit_rule words.0
  kind ← kind_in words.1
  Some (event.JobIn name kind.0 kind.1)

unfoldable pub allocate : List ℕ → Option Event
allocate text = do
  words ← separated text
  device ← name_in device_rule words.0
  unit ← name_in unit_rule words.1
  Some (event.Allocate device unit)

abbrev pub not_empty : List ℕ → Option (List ℕ)
not_empty text = if length text == 0 then None else Some text

unfoldable pub asked : List ℕ → Option (ℕ × List ℕ)
asked text = do
  words ← separated text
  id ← id_in words.0
  reported ← not_empty words.1
  Some (id, reported)

abbrev pub ask : List ℕ → Option Event
ask text = option_map (λ (parts : ℕ × List ℕ). event.Ask parts.0 parts.1) (asked text)

-- what follows each word but ASK
abbrev pub verbs : List (List ℕ × (List ℕ → Option Event))
verbs =
    (codes "JOBIN", job_in)
    ∷ (codes "JOBEND", λ text. option_map event.JobEnd (name_in unit_rule text))
    ∷ (codes "ATTACH", λ text. option_map event.Attach (name_in device_rule text))
    ∷ (codes "ALLOCATE", allocate)
    ∷ (codes "FREE", λ text. option_map event.Free (name_in device_rule text))
    ∷ []

abbrev pub event_by : List ℕ → List ℕ → Option Event
event_by verb rest = lookup verbs verb >>= (λ read. read rest)

abbrev pub event_of : List ℕ → Option (List ℕ × List ℕ) → Option Event
event_of text None = if bytes_eq text (codes "RESUME") then Some event.Resume else None
event_of text (Some words) = if bytes_eq words.0 (codes "ASK") then ask words.1 else event_by words.0 words.1

-- The event that a text is read as.
abbrev pub event_in : List ℕ → Option Event
event_in text = event_of text (separated text)
