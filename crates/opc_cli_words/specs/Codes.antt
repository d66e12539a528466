-- The codes of notes, as `check --allow` takes them.
use Rattle.std.specs.Prelude.{◌==◌, ℕ, Bool, true, List, [], ◌∷◌, Option, codes}
use Rattle.std.specs.List.{list_all, list_any, slice_split}
use Rattle.std.specs.Option.{option_map_or}
use Rattle.std.specs.Str.{bytes_eq}
use Rattle.opc_cli_words.specs.Checks.{Check}
use Rattle.opc_cli_words.specs.declared.mistake.Mistake.TheVariants as wrong
use Rattle.opc_cli_words.specs.declared.mistake.Opt.TheVariants as opt

-- those that exist; N07 no longer does
abbrev pub note_codes : List (List ℕ)
note_codes =
    codes "N01" ∷ codes "N02" ∷ codes "N03" ∷ codes "N04" ∷ codes "N05" ∷ codes "N06"
    ∷ codes "N08" ∷ codes "N09" ∷ codes "N10" ∷ codes "N11" ∷ codes "N12" ∷ codes "N13"
    ∷ codes "N14" ∷ codes "N15" ∷ codes "N16" ∷ codes "N17" ∷ codes "N18" ∷ codes "N19"
    ∷ codes "N20" ∷ []

abbrev pub is_note_code : List ℕ → Bool
is_note_code text = list_any (bytes_eq text) note_codes

-- codes with commas between them
abbrev pub are_note_codes : List ℕ → Bool
are_note_codes text = list_all is_note_code (slice_split (λ c. c == 44) text)

abbrev pub allow_check : (allowed : Option (List ℕ)) → Check
allow_check allowed = (wrong.Unread opt.Allow, option_map_or are_note_codes allowed true)
