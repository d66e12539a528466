-- The codes of the account, and how a query names some of them.
use Rattle.std.specs.Prelude.{
  ◌≡◌,
  ◌==◌,
  ◌&&◌,
  ◌-◌,
  ℕ,
  Bool,
  true,
  List,
  [],
  ◌∷◌,
  codes,
  if◌then◌else◌,
  length,
  nat_eq,
  nat_lt,
  take,
}
use Rattle.std.specs.List.{ends_with, list_all, list_any, slice_split, starts_with}
use Rattle.std.specs.Str.{bytes_eq}
use Rattle.opc_terms.specs.Faults.{fault_code}
use Rattle.opc_terms.specs.declared.fault.Fault.{Fault}

-- those of the faults, and that of what only a warning let pass
abbrev pub account_codes : List (List ℕ)
account_codes =
    codes "E01" ∷ codes "E02" ∷ codes "E03" ∷ codes "E04" ∷ codes "E05" ∷ codes "E06"
    ∷ codes "E10" ∷ codes "E11" ∷ codes "E12" ∷ codes "E13" ∷ codes "E14" ∷ codes "E15" ∷ codes "E16" ∷ codes "E17"
    ∷ codes "E20" ∷ codes "E21"
    ∷ codes "E30" ∷ codes "E31" ∷ codes "E32" ∷ codes "E33" ∷ codes "E34" ∷ codes "E35" ∷ codes "E36" ∷ codes "E37"
    ∷ codes "E38" ∷ codes "E39" ∷ codes "E40" ∷ codes "E41" ∷ codes "E42" ∷ codes "E45"
    ∷ codes "E50" ∷ codes "E51" ∷ codes "E52" ∷ codes "E53" ∷ codes "E55" ∷ codes "E56" ∷ codes "E57"
    ∷ codes "E60" ∷ codes "E90" ∷ codes "E91" ∷ codes "E92" ∷ codes "WARN" ∷ []

abbrev pub has_star : List ℕ → Bool
has_star wanted = ends_with nat_eq wanted (codes "*")

abbrev pub before_star : List ℕ → List ℕ
before_star wanted = take (length wanted - 1) wanted

-- A query names a code or, with a `*` at the end, all that begin with what stands before it.
abbrev pub is_like : (wanted code : List ℕ) → Bool
is_like wanted code = if has_star wanted then starts_with nat_eq code (before_star wanted) else bytes_eq code wanted

-- those of a text, with commas between them
abbrev pub wanted_in : List ℕ → List (List ℕ)
wanted_in text = slice_split (λ c. c == 44) text

-- whether a code is among them
abbrev pub is_among : (text code : List ℕ) → Bool
is_among text code = list_any (λ wanted. is_like wanted code) (wanted_in text)

-- whether there is such a code; a `*` alone is none
abbrev pub is_known : List ℕ → Bool
is_known wanted = nat_lt 1 (length wanted) && list_any (is_like wanted) account_codes

-- whether each one of a text exists
abbrev pub are_known : List ℕ → Bool
are_known text = list_all is_known (wanted_in text)

-- each code that a row may have exists
pub record CodesAreKnown : Type 0 where
  pub of_faults : (fault : Fault) → is_known (fault_code fault) ≡ true
  pub of_warnings : is_known (codes "WARN") ≡ true
