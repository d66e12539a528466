-- The verbs, with their spellings.
use Rattle.std.specs.Prelude.{◌==◌, ◌||◌, ℕ, Bool, List, [], ◌∷◌, codes, if◌then◌else◌, length, map}
use Rattle.std.specs.Str.{bytes_eq}
use Rattle.opc_cli_commands.specs.declared.verbs.VerbRow.{VerbRow}

-- a verb in full, and its abbreviation if it has one
pub record VerbSpellings : Type 0 where
  pub full : List ℕ
  pub short : List ℕ

abbrev pub spelled : (full short : List ℕ) → VerbSpellings
spelled full short = record { full = full; short = short }

-- all verbs
abbrev pub verb_rows : List VerbSpellings
verb_rows =
    spelled (codes "DISPLAY") (codes "D")
    ∷ spelled (codes "CANCEL") (codes "C")
    ∷ spelled (codes "FORCE") []
    ∷ spelled (codes "START") (codes "S")
    ∷ spelled (codes "STOP") (codes "P")
    ∷ spelled (codes "MODIFY") (codes "F")
    ∷ spelled (codes "REPLY") (codes "R")
    ∷ spelled (codes "VARY") (codes "V")
    ∷ spelled (codes "MOUNT") (codes "M")
    ∷ spelled (codes "UNLOAD") (codes "U")
    ∷ spelled (codes "SWAP") (codes "G")
    ∷ spelled (codes "RESET") (codes "E")
    ∷ spelled (codes "SEND") (codes "SE")
    ∷ spelled (codes "LOG") (codes "L")
    ∷ spelled (codes "MONITOR") (codes "MN")
    ∷ spelled (codes "STOPMN") (codes "PM")
    ∷ spelled (codes "HALT") (codes "Z")
    ∷ spelled (codes "LOGON") []
    ∷ spelled (codes "LOGOFF") []
    ∷ []

abbrev pub full_verbs : List (List ℕ)
full_verbs = map (λ row. row.full) verb_rows

-- the verb as its forms are shown
abbrev pub shortest : VerbSpellings → List ℕ
shortest row = if length row.short == 0 then row.full else row.short

abbrev pub is_spelled : List ℕ → VerbSpellings → Bool
is_spelled word row = bytes_eq word row.full || bytes_eq word row.short

-- a row of the code's table
abbrev pub row_of : VerbRow → VerbSpellings
row_of row = spelled row.full.now row.short.now
