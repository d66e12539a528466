-- What the fields of a record mean, each by itself.
use Rattle.std.specs.Prelude.{
  ℕ,
  Bool,
  true,
  false,
  List,
  [],
  ◌∷◌,
  length,
  codes,
  Option,
  Some,
  None,
  is_none,
  Result,
  Ok,
  Err,
  if◌then◌else◌,
  nat_le,
  ◌==◌,
  ◌&&◌,
  ◌||◌,
}
use Rattle.std.specs.List.{list_all}
use Rattle.std.specs.Option.{option_map}
use Rattle.hex.specs.Hex.{decode_sized}
use Rattle.hex.specs.declared.error.FromHexError.{FromHexError}
use Rattle.opc_names.specs.Names.{console_rule, name_fault}
use Rattle.opc_names.specs.declared.rule.NameRule.{NameRule}
use Rattle.opc_terms.specs.Entries.{entry_fault}
use Rattle.opc_import.specs.declared.field.UserFlags.{UserFlags}

-- whether a class is active
abbrev pub activities : List (List ℕ × Bool)
activities = (codes "ACTIVE", true) ∷ (codes "INACTIVE", false) ∷ []

-- whether a profile has a warning
abbrev pub warnings : List (List ℕ × Bool)
warnings = (codes "", false) ∷ (codes "W", true) ∷ []

abbrev pub flags_of : Bool → Bool → Bool → UserFlags
flags_of special auditor revoked = record { special = special; auditor = auditor; revoked = revoked }

-- whether a user is RESTRICTED
abbrev pub restrictions : List (List ℕ × Bool)
restrictions = (codes "", false) ∷ (codes "Y", true) ∷ []

-- a user's flags: `S` for SPECIAL, `A` for AUDITOR, `R` for revoked, in this order
abbrev pub user_flags : List (List ℕ × UserFlags)
user_flags =
    (codes "", flags_of false false false) ∷ (codes "S", flags_of true false false)
    ∷ (codes "A", flags_of false true false)
    ∷ (codes "R", flags_of false false true) ∷ (codes "SA", flags_of true true false)
    ∷ (codes "SR", flags_of true false true)
    ∷ (codes "AR", flags_of false true true) ∷ (codes "SAR", flags_of true true true) ∷ []

-- the name of a kind that a text is
abbrev pub name_of : NameRule → List ℕ → Option (List ℕ)
name_of rule text = if is_none (name_fault rule text) then Some text else None

-- the id of an access list that a text is: a user, a group or `*`
abbrev pub entry_id_of : List ℕ → Option (List ℕ)
entry_id_of text = if is_none (entry_fault text) then Some text else None

-- the only console that an entry is for; an empty text means that it is for every console
abbrev pub when_of : List ℕ → Option (Option (List ℕ))
when_of text = if length text == 0 then Some None else option_map Some (name_of console_rule text)

-- `0` to `9` and `a` to `f`
abbrev pub is_lower_digit : ℕ → Bool
is_lower_digit c = (nat_le 48 c && nat_le c 57) || (nat_le 97 c && nat_le c 102)

abbrev pub decoded : Result (List ℕ) FromHexError → Option (Option (List ℕ))
decoded (Ok bytes) = Some (Some bytes)
decoded (Err e) = None

-- a digest is 32 bytes as 64 digits; an empty text means that there is none
abbrev pub digest_of : List ℕ → Option (Option (List ℕ))
digest_of text =
    if length text == 0 then Some None
    else if list_all is_lower_digit text then decoded (decode_sized text 32)
    else None
