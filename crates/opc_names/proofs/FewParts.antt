-- How many qualifiers a name has.
use Rattle.std.proofs.Common.{◌≡◌, ◌≢◌, ℕ, ◌+◌, ◌*◌, ◌≤◌, ◌<◌, List, [], ◌∷◌, length, None, refl, arith, length-append}
use Rattle.std.specs.List.{AllByRecursion}
use Rattle.opc_names.specs.declared.rule.Alphabet.TheVariants.{Qualified}
use Rattle.opc_names.specs.Names.{qualifiers, bad_part, resource_rule, IsResource}
use Rattle.opc_names.proofs.Faults.{name_passes, name_short}
use Rattle.opc_names.proofs.Spelled.{spell_name, spelled_name}

abbrev pub NotEmpty : List (List ℕ) → Type 0
NotEmpty parts = AllByRecursion (λ q. q ≢ []) parts

-- each takes a character and its period
few_parts : (parts : List (List ℕ)) → NotEmpty parts → 2 * length parts ≤ length (spell_name parts)
few_parts [] h = omega arith
few_parts ([] ∷ parts) h = absurd (h.0 refl)
few_parts ((c ∷ q) ∷ parts) h = let more = few_parts parts h.1 in omega (arith, length-append q (spell_name parts))

pub few_qualifiers : (text : List ℕ) → NotEmpty (qualifiers text) → length text ≤ 39 → length (qualifiers text) < 21
few_qualifiers text h k = let few = rw spelled_name at (few_parts (qualifiers text) h) in omega arith

no_part_empty : (at : ℕ) (parts : List (List ℕ)) → bad_part Qualified at parts ≡ None → NotEmpty parts
no_part_empty at [] h = tt
no_part_empty at ([] ∷ parts) h = cc
no_part_empty at ((c ∷ q) ∷ parts) h = ((λ e. cc), no_part_empty (at + length (c ∷ q) + 1) parts h)

pub resource_qualifiers : (text : List ℕ) → IsResource text → length (qualifiers text) < 21
resource_qualifiers text h = few_qualifiers text (no_part_empty 0 (qualifiers text) (name_passes resource_rule text h).parts) (name_short resource_rule text h)
