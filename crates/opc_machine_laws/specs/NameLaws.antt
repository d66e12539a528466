-- Which texts are names of each kind, for those who choose them.
use Rattle.std.specs.Prelude.{◌≡◌, ℕ, List, [], ◌∷◌, Some, None, codes, replicate}
use Rattle.std.specs.List.{AllByRecursion}
use Rattle.opc_names.specs.declared.rule.NameFault.{NameFault}
use Rattle.opc_names.specs.declared.rule.NameFault.TheVariants.{BadCharacter, BadQualifier, Empty, TooLong, TooShort}
use Rattle.opc_names.specs.declared.rule.NameRule.{NameRule}
use Rattle.opc_names.specs.Names.{
  console_rule,
  device_rule,
  fault_words,
  group_rule,
  name_fault,
  pattern_rule,
  resource_rule,
  unit_rule,
  user_rule,
  volume_rule,
}
use Rattle.opc_terms.specs.Entries.{entry_fault, entry_name, entry_text}

abbrev pub AreNames : NameRule → List (List ℕ) → Type 0
AreNames rule texts = AllByRecursion (λ (text : List ℕ). name_fault rule text ≡ None) texts

abbrev pub IsBad : NameRule → List ℕ → NameFault → Type 0
IsBad rule text fault = name_fault rule text ≡ Some fault

-- Users, units and groups have up to eight characters, of which a group's first is no digit; consoles have two to
-- eight,
pub record PlainNamesAreSo : Type 0 where
  pub users : AreNames user_rule (codes "A" ∷ codes "1AB" ∷ codes "A#$@0189" ∷ codes "Z" ∷ [])
  pub units : AreNames unit_rule (codes "A" ∷ codes "1AB" ∷ codes "A#$@0189" ∷ codes "Z" ∷ [])
  pub groups : AreNames group_rule (codes "A" ∷ codes "$1" ∷ codes "A#$@0189" ∷ [])
  pub consoles : AreNames console_rule (codes "C1" ∷ codes "MASTER01" ∷ codes "@A" ∷ [])
  pub no_user : IsBad user_rule [] Empty
  pub no_unit : IsBad unit_rule [] Empty
  pub no_group : IsBad group_rule [] Empty
  pub no_console : IsBad console_rule [] Empty
  pub short_console : IsBad console_rule (codes "C") TooShort
  pub long_user : IsBad user_rule (codes "A12345678") TooLong
  pub long_unit : IsBad unit_rule (codes "A12345678") TooLong
  pub long_group : IsBad group_rule (codes "A12345678") TooLong
  pub long_console : IsBad console_rule (codes "A12345678") TooLong
  pub small_letter : IsBad user_rule (codes "Ab") (BadCharacter 1)
  pub underscore : IsBad unit_rule (codes "A_B") (BadCharacter 1)
  pub hyphen : IsBad user_rule (codes "-") (BadCharacter 0)
  pub period : IsBad unit_rule (codes "A.B") (BadCharacter 1)
  pub star : IsBad user_rule (codes "*") (BadCharacter 0)
  pub digit_in_group : IsBad group_rule (codes "1OPS") (BadCharacter 0)
  pub digit_in_console : IsBad console_rule (codes "1C") (BadCharacter 0)

-- volumes up to six, and device numbers four hexadecimal digits.
pub record DeviceNamesAreSo : Type 0 where
  pub volumes : AreNames volume_rule (codes "V" ∷ codes "1VOL" ∷ codes "VOL001" ∷ [])
  pub devices : AreNames device_rule (codes "0A80" ∷ codes "FFFF" ∷ codes "0129" ∷ [])
  pub no_volume : IsBad volume_rule [] Empty
  pub long_volume : IsBad volume_rule (codes "VOL0001") TooLong
  pub bad_volume : IsBad volume_rule (codes "VOL-1") (BadCharacter 3)
  pub short_device : IsBad device_rule (codes "A80") TooShort
  pub long_device : IsBad device_rule (codes "00A80") TooLong
  pub bad_device : IsBad device_rule (codes "0G80") (BadCharacter 1)
  pub small_device : IsBad device_rule (codes "0a80") (BadCharacter 1)

-- A resource has up to 39 characters, in qualifiers with a period between them; a pattern may have `%` anywhere, `*` at
-- the end of a qualifier, and `**` as one.
pub record QualifiedNamesAreSo : Type 0 where
  pub resources : AreNames resource_rule (codes "A" ∷ codes "1" ∷ codes "MVS.CANCEL.JOB.PAY1" ∷ replicate 39 65 ∷ [])
  pub patterns : AreNames pattern_rule
      (codes "A" ∷ codes "A.B" ∷ codes "%" ∷ codes "A.B%*" ∷ codes "A.*.C" ∷ codes "**" ∷ codes "A.**.D"
      ∷ replicate 39 65 ∷ [])
  pub no_resource : IsBad resource_rule [] Empty
  pub no_pattern : IsBad pattern_rule [] Empty
  pub long_resource : IsBad resource_rule (replicate 40 65) TooLong
  pub long_pattern : IsBad pattern_rule (replicate 40 65) TooLong
  pub generic_resource : IsBad resource_rule (codes "A.*") (BadCharacter 2)
  pub single_resource : IsBad resource_rule (codes "A.%") (BadCharacter 2)
  pub small_pattern : IsBad pattern_rule (codes "A.b") (BadCharacter 2)
  pub first_qualifier : IsBad resource_rule (codes ".A") (BadQualifier 0)
  pub middle_qualifier : IsBad resource_rule (codes "A..B") (BadQualifier 2)
  pub last_qualifier : IsBad pattern_rule (codes "A.") (BadQualifier 2)
  pub inner_star : IsBad pattern_rule (codes "A.B*C") (BadQualifier 2)
  pub stars_and_more : IsBad pattern_rule (codes "A.**B") (BadQualifier 2)
  pub three_stars : IsBad pattern_rule (codes "***") (BadQualifier 0)

-- An entry of an access list is for an id, or for everyone by `*` alone.
pub record EntryIdsAreSo : Type 0 where
  pub everyone : entry_fault (codes "*") ≡ None
  pub id : entry_fault (codes "ANNA") ≡ None
  pub nobody : entry_fault [] ≡ Some Empty
  pub pattern : entry_fault (codes "AN*") ≡ Some (BadCharacter 2)
  pub read_everyone : entry_name (codes "*") ≡ None
  pub read_id : entry_name (codes "ANNA") ≡ Some (codes "ANNA")
  pub shown_everyone : entry_text None ≡ codes "*"
  pub shown_id : entry_text (Some (codes "ANNA")) ≡ codes "ANNA"

-- Worked examples of how a bad name is reported.
pub record NameFaultsReadSo : Type 0 where
  pub empty : fault_words Empty ≡ codes "empty"
  pub short : fault_words TooShort ≡ codes "too short"
  pub long : fault_words TooLong ≡ codes "too long"
  pub character : fault_words (BadCharacter 3) ≡ codes "bad character at 3"
  pub qualifier : fault_words (BadQualifier 12) ≡ codes "bad qualifier at 12"

pub record NamesAreSo : Type 0 where
  pub plain : PlainNamesAreSo
  pub devices : DeviceNamesAreSo
  pub qualified : QualifiedNamesAreSo
  pub entries : EntryIdsAreSo
  pub faults : NameFaultsReadSo
