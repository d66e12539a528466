-- The operands that a verb takes: those of its forms in the table of commands.
use Rattle.std.specs.Prelude.{
  ◌==◌,
  ◌++◌,
  ℕ,
  Bool,
  List,
  [],
  ◌∷◌,
  Option,
  Some,
  None,
  codes,
  drop,
  if◌then◌else◌,
  not,
  take,
}
use Rattle.std.specs.List.{filter_map, prefix_len}
use Rattle.std.specs.Str.{bytes_eq}
use Rattle.opc_terms.specs.declared.unit_kind.UnitKindAt.{UnitKindAt}
use Rattle.opc_terms.specs.declared.unit_kind.UnitKindAt.TheVariants.{Job}
use Rattle.opc_cli_commands.specs.Commands.{TableForm, forms}

abbrev pub is_in_word : ℕ → Bool
is_in_word c = not (c == 32)

-- the verb of a form as it is shown, and its operands with the space before them
abbrev pub verb_part : List ℕ → List ℕ
verb_part shown = take (prefix_len is_in_word shown) shown

abbrev pub operands_part : List ℕ → List ℕ
operands_part shown = drop (prefix_len is_in_word shown) shown

abbrev pub operands_with : (verb shown : List ℕ) → Option (List ℕ)
operands_with verb shown = if bytes_eq (verb_part shown) verb then Some (operands_part shown) else None

-- A form that stands once more, for another kind of unit, has the same operands.
abbrev pub operands_at : UnitKindAt → (verb shown : List ℕ) → Option (List ℕ)
operands_at Job verb shown = operands_with verb shown
operands_at other verb shown = None

-- the operands of a form, if it is of this verb
abbrev pub operands_of : List ℕ → TableForm → Option (List ℕ)
operands_of verb form = operands_at form.kind verb form.shown

abbrev pub alternatives : List (List ℕ) → List ℕ
alternatives [] = []
alternatives (text ∷ []) = text
alternatives (text ∷ other ∷ more) = text ++ (codes " or" ++ alternatives (other ∷ more))

-- all that a verb takes
abbrev pub operands_text : List ℕ → List ℕ
operands_text verb = alternatives (filter_map (operands_of verb) forms)
