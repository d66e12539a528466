-- A text that is a group's or a console's name is a valid user id.
use Rattle.std.proofs.Common.{◌≡◌, ℕ, ◌+◌, true, false, not, cond, List, [], ◌∷◌, length, Some, None, refl, sym, subst, ◌∙◌, arith}
use Rattle.std.specs.Prelude.{nat_lt}
use Rattle.std.specs.List.{position}
use Rattle.std.specs.Option.{option_map}
use Rattle.std.specs.Str.{chars}
use Rattle.std.proofs.lemmas.Bool.Decides.{nat_tests}
use Rattle.opc_names.specs.declared.rule.Alphabet.TheVariants.{NameCharacters, NoDigitFirst}
use Rattle.opc_names.specs.Names.{
  bad_character,
  bad_part,
  bad_qualifier,
  name_fault,
  qualifiers,
  may_begin,
  may_follow,
  console_rule,
  group_rule,
  user_rule,
}
use Rattle.opc_names.specs.Laws.{GroupNamesReadAsUsers}
use Rattle.opc_names.proofs.Faults.{begin_follows, name_passes}

same_parts : (at : ℕ) (parts : List (List ℕ)) → bad_part NoDigitFirst at parts ≡ bad_part NameCharacters at parts
same_parts at [] = refl
same_parts at ([] ∷ parts) = refl
same_parts at ((c ∷ q) ∷ parts) = same_parts (at + length (c ∷ q) + 1) parts

no_bad_character : (text : List ℕ) → bad_character NoDigitFirst text ≡ None → bad_character NameCharacters text ≡ None
no_bad_character [] h = refl
no_bad_character (c ∷ cs) h =
    let rest = option_map (λ i. i + 1) (position (λ d. not (may_follow NameCharacters d)) cs) in
    elim (may_begin NoDigitFirst c) as (λ b. may_begin NoDigitFirst c ≡ b → cond b rest (Some 0) ≡ None
    → cond (may_begin NameCharacters c) rest (Some 0) ≡ None) [
      | true ↦ (λ e k. subst (λ b. cond b rest (Some 0) ≡ None) (sym (begin_follows NoDigitFirst c e)) k)
      | false ↦ (λ e k. cc)
    ] refl h

pub group_names_read_as_users : GroupNamesReadAsUsers
group_names_read_as_users text h =
    let passed = name_passes group_rule text h in
    let characters = no_bad_character text passed.characters in
    let parts : bad_qualifier NameCharacters text ≡ None = sym (same_parts 0 (qualifiers text)) ∙ passed.parts in
    rw (passed.some, passed.enough, passed.few, characters, parts) refl

pub console_names_read_as_users : (text : List ℕ) → name_fault console_rule text ≡ None → name_fault user_rule text ≡ None
console_names_read_as_users text h =
    let passed = name_passes console_rule text h in
    let some = passed.some in
    let enough : nat_lt (length (chars text)) 1 ≡ false = grind (arith, nat_tests, some) in
    let characters = no_bad_character text passed.characters in
    let parts : bad_qualifier NameCharacters text ≡ None = sym (same_parts 0 (qualifiers text)) ∙ passed.parts in
    rw (some, enough, passed.few, characters, parts) refl
