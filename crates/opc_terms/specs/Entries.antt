-- Whom the entries of an access list are for.
use Rattle.std.specs.Prelude.{◌≡◌, ◌≢◌, ℕ, Bool, true, false, List, Option, Some, None, if◌then◌else◌, codes, refl}
use Rattle.std.proofs.Common.{Decides, ap}
use Rattle.std.specs.Str.{bytes_eq}
use Rattle.std.proofs.lemmas.Slice.Eq.{bytes_eq-Decides}
use Rattle.opc_names.specs.declared.rule.NameFault.{NameFault}
use Rattle.opc_names.specs.Names.{name_fault, user_rule}

-- the text of an id: a name, or `*` for everyone
abbrev pub entry_text : Option (List ℕ) → List ℕ
entry_text None = codes "*"
entry_text (Some name) = name

-- the name in it
abbrev pub entry_name : List ℕ → Option (List ℕ)
entry_name text = if bytes_eq text (codes "*") then None else Some text

-- The first fault of a text as an id. A group's name is a valid user id.
abbrev pub entry_fault : List ℕ → Option NameFault
entry_fault text = if bytes_eq text (codes "*") then None else name_fault user_rule text

pub entry_name-entry_text : (name : Option (List ℕ)) → name ≢ Some (codes "*") → entry_name (entry_text name) ≡ name
entry_name-entry_text None h = refl
entry_name-entry_text (Some name) h = go (bytes_eq name (codes "*")) (bytes_eq-Decides name (codes "*"))
  where
    go : (b : Bool) → Decides b (name ≡ codes "*") → (if b then None else Some name) ≡ Some name
    go true d = absurd (h (ap Some (d.0 refl)))
    go false d = refl
