-- How authorities and the ids of replies are typed and read, for those who type them.
use Rattle.std.specs.Prelude.{
  ◌≡◌,
  ◌⊎◌,
  ◌<◌,
  ◌==◌,
  ◌||◌,
  ℕ,
  Bool,
  true,
  not,
  if◌then◌else◌,
  List,
  [],
  ◌∷◌,
  ◌++◌,
  Some,
  None,
  codes,
  decimal,
  filter,
  map,
}
use Rattle.std.specs.List.{AllByRecursion, list_any, slice_split}
use Rattle.std.specs.Option.{is_some}
use Rattle.std.specs.Str.{bytes_eq}
use Rattle.opc_names.specs.declared.auth.Auth.{Auth}
use Rattle.opc_names.specs.declared.auth.Auth.TheVariants.{Cons, Io, Sys}
use Rattle.opc_names.specs.declared.class.Class.{Class}
use Rattle.opc_names.specs.declared.group.Group.TheVariants as group
use Rattle.opc_names.specs.declared.level.Level.{Level}
use Rattle.opc_names.specs.Authority.{enters}
use Rattle.opc_names.specs.Spellings.{
  auth_text,
  auths,
  class_text,
  classes,
  level_text,
  levels,
  lookup,
  two_digits,
}
use Rattle.opc_terms.specs.declared.mode.Mode.{Mode}
use Rattle.opc_terms.specs.Modes.{mode_text, modes}
use Rattle.opc_reader.specs.declared.verb.Verb.{Verb}
use Rattle.opc_reader.specs.Authorities.{authorities}
use Rattle.opc_reader.specs.Operands.{number}
use Rattle.opc_reader.specs.Verbs.{verbs}
use Rattle.opc_machine_laws.specs.ReportingLaws.{words_of}

-- whether a text lists a word, with commas (44 in ASCII) between its words
abbrev pub lists : List ℕ → List ℕ → Bool
lists text word = list_any (bytes_eq word) (slice_split (λ c. c == 44) text)

-- whether it lists MASTER, ALL, INFO, SYS, IO and CONS, in this order
abbrev pub words_in : List ℕ → List Bool
words_in text = map (lists text)
    (codes "MASTER" ∷ codes "ALL" ∷ codes "INFO" ∷ codes "SYS" ∷ codes "IO" ∷ codes "CONS" ∷ [])

-- whether it lists MASTER, ALL or this word
abbrev pub gives : List ℕ → List ℕ → Bool
gives text word = lists text (codes "MASTER") || (lists text (codes "ALL") || lists text word)

-- Of MASTER, INFO, SYS, IO and CONS, an authority enters INFO and what its text lists, ALL every one but MASTER, and
-- MASTER every one. It is shown by the words by which it was typed.
pub record IsSpelledBy (text : List ℕ) (a : Auth) : Type 0 where
  pub entered : map (enters a) (group.Master ∷ group.Info ∷ group.Sys ∷ group.Io ∷ group.Cons ∷ [])
      ≡ lists text (codes "MASTER") ∷ true ∷ gives text (codes "SYS") ∷ gives text (codes "IO")
      ∷ gives text (codes "CONS") ∷ []
  pub shown : words_in (auth_text a) ≡ words_in text

-- the lists of SYS, IO and CONS, in any order
abbrev pub auth_lists : List (List ℕ)
auth_lists =
    codes "SYS,IO" ∷ codes "IO,SYS" ∷ codes "SYS,CONS" ∷ codes "CONS,SYS" ∷ codes "IO,CONS" ∷ codes "CONS,IO"
    ∷ codes "SYS,IO,CONS" ∷ codes "SYS,CONS,IO" ∷ codes "IO,SYS,CONS" ∷ codes "IO,CONS,SYS" ∷ codes "CONS,SYS,IO"
    ∷ codes "CONS,IO,SYS" ∷ []

pub record AuthoritiesAreSpelledSo : Type 0 where
  pub each : (text : List ℕ) (a : Auth) → lookup auths text ≡ Some a → IsSpelledBy text a
  pub any_order : AllByRecursion (λ (text : List ℕ). is_some (lookup auths text) ≡ true) auth_lists

-- a list of groups as it is typed: in parentheses
abbrev pub as_typed : List ℕ → List ℕ
as_typed text = if list_any (λ c. c == 44) text then codes "(" ++ text ++ codes ")" else text

-- a text without its parentheses: 40 and 41 in ASCII
abbrev pub without_parentheses : List ℕ → List ℕ
without_parentheses text = filter (λ c. not (c == 40 || c == 41)) text

-- What may be typed for AUTH= is that of a policy, with a list in parentheses, or a group in them.
pub record AuthoritiesAreTypedSo : Type 0 where
  pub typed : (text : List ℕ) (a : Auth) → lookup auths text ≡ Some a → lookup authorities (as_typed text) ≡ Some a
  pub read : (text : List ℕ) (a : Auth) → lookup authorities text ≡ Some a
      → lookup auths (without_parentheses text) ≡ Some a
  pub sys : lookup authorities (codes "(SYS)") ≡ Some Sys
  pub io : lookup authorities (codes "(IO)") ≡ Some Io
  pub cons : lookup authorities (codes "(CONS)") ≡ Some Cons
  pub master : lookup authorities (codes "(MASTER)") ≡ None
  pub all : lookup authorities (codes "(ALL)") ≡ None
  pub info : lookup authorities (codes "(INFO)") ≡ None
  pub bare : AllByRecursion (λ (text : List ℕ). lookup authorities text ≡ None) auth_lists

-- A reply is answered by its number as it is, or in the two digits in which D R shows it, and by no other text.
pub record RepliesAreNumberedSo : Type 0 where
  pub plain : (id : ℕ) → id < 100 → number (decimal id) ≡ Some id
  pub shown : (id : ℕ) → id < 100 → number (two_digits id) ≡ Some id
  pub read : (text : List ℕ) (id : ℕ) → number text ≡ Some id → (text ≡ decimal id) ⊎ (text ≡ two_digits id)

-- No other text is read as a level, a class or a mode than its own, nor as a verb than its two words.
pub record SpellingsAreAlone : Type 0 where
  pub level : (text : List ℕ) (l : Level) → lookup levels text ≡ Some l → text ≡ level_text l
  pub class : (text : List ℕ) (c : Class) → lookup classes text ≡ Some c → text ≡ class_text c
  pub mode : (text : List ℕ) (m : Mode) → lookup modes text ≡ Some m → text ≡ mode_text m
  pub verb : (text : List ℕ) (v : Verb) → lookup verbs text ≡ Some v
      → (text ≡ (words_of v).0) ⊎ ((words_of v).1 ≡ Some text)
