-- Marks of names: one of 64 places for each. Where two sets of names share a name, their marks share a place.
use Rattle.std.specs.Prelude.{◌==◌, ◌+◌, ◌*◌, ◌%◌, ◌^◌, ℕ, Bool, not, List, [], ◌∷◌, bit_and, bit_or, map}
use Rattle.opc_policy_members.specs.declared.entry.Entry.{Entry}
use Rattle.opc_answers.specs.declared.members.UserWithGroups.{UserWithGroups}

-- the place of a name, by its bytes
abbrev pub stirred : (place byte : ℕ) → ℕ
stirred place byte = (place * 37 + byte) % 64

abbrev pub place_after : (place : ℕ) → (text : List ℕ) → ℕ
place_after place [] = place
place_after place (byte ∷ text) = place_after (stirred place byte) text

-- the marks with that of a name, and with those of names
abbrev pub with_mark : (marks : ℕ) → (name : List ℕ) → ℕ
with_mark marks name = bit_or marks (1 * 2 ^ place_after 0 name % 2 ^ 64)

abbrev pub marked : (marks : ℕ) → (names : List (List ℕ)) → ℕ
marked marks [] = marks
marked marks (name ∷ names) = marked (with_mark marks name) names

-- those of a user and the user's groups, and those of an access list
abbrev pub marks_of : UserWithGroups → ℕ
marks_of m = marked (with_mark 0 m.user.id) m.groups

abbrev pub marks_in : List Entry → ℕ
marks_in entries = marked 0 (map (λ (e : Entry). e.id) entries)

-- whether they share a place
abbrev pub meet : (marks other : ℕ) → Bool
meet marks other = not (bit_and marks other == 0)
