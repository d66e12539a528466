-- Forms about which is asked alike: on one level, by commands or to show a line. A profile rules alike on them.
use Rattle.std.specs.Prelude.{ℕ, Bool, false, true, ◌&&◌, not, if◌then◌else◌, List, [], ◌∷◌, Option, Some, None}
use Rattle.opc_names.specs.declared.level.Level.TheVariants.{Control, Read, Update}
use Rattle.opc_names.specs.Authority.{includes}
use Rattle.opc_policy_deciders.specs.declared.kind.AskedKind.{AskedKind}
use Rattle.opc_policy_deciders.specs.Forms.{AskedForm}

-- commands that need READ, lines of answers, commands that need UPDATE, commands that need CONTROL
abbrev pub kinds : List AskedKind
kinds =
    record { level = Read; is_line = false } ∷ record { level = Read; is_line = true }
    ∷ record { level = Update; is_line = false } ∷ record { level = Control; is_line = false } ∷ []

abbrev pub is_of_kind : AskedKind → AskedForm → Bool
is_of_kind kind form = includes kind.level form.level && (includes form.level kind.level
    && (if kind.is_line then form.is_line else not form.is_line))

-- a form, and a resource of it
pub record Example : Type 0 where
  pub form : AskedForm
  pub resource : List ℕ

-- of some forms, those of which something is found, in order
abbrev pub if_found : (takes : AskedForm → Bool) → AskedForm → Option (List ℕ) → List Example → List Example
if_found takes form None more = more
if_found takes form (Some resource) more =
    if takes form then record { form = form; resource = resource } ∷ more else more

abbrev pub found_of : (takes : AskedForm → Bool) → List AskedForm → List (Option (List ℕ)) → List Example
found_of takes [] list = []
found_of takes (form ∷ forms) [] = []
found_of takes (form ∷ forms) (found ∷ list) = if_found takes form found (found_of takes forms list)

-- the forms of a kind
abbrev pub examples : AskedKind → List AskedForm → List (Option (List ℕ)) → List Example
examples kind forms list = found_of (is_of_kind kind) forms list
