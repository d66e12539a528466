-- What the keys of a JSON object mean, each by itself, or which of them is invalid.
use Rattle.std.specs.Prelude.{◌==◌, ℕ, Bool, List, Option, Some, None, Result, Ok, Err, option_and_then, is_some}
use Rattle.std.specs.Prelude.{if◌then◌else◌}
use Rattle.std.specs.Option.{ok_or, option_map}
use Rattle.serde_json.specs.Data.{Data, null, boolean, number, string, array, object}
use Rattle.serde_json.specs.Events.{members_len}
use Rattle.serde_json.specs.Find.{as_bool, as_null, as_object, as_str, get}
use Rattle.opc_names.specs.Names.{console_rule}
use Rattle.opc_names.specs.Spellings.{lookup}
use Rattle.opc_names.specs.declared.rule.NameRule.{NameRule}
use Rattle.opc_import.specs.Fields.{digest_of, entry_id_of, name_of}
use Rattle.opc_http_requests.specs.BodyKeys.{key_text}
use Rattle.opc_http_requests.specs.declared.body_key.BodyKey.{BodyKey}
use Rattle.opc_http_requests.specs.declared.refusal.InvalidPart.{InvalidPart}
use Rattle.opc_http_requests.specs.declared.refusal.InvalidPart.TheVariants.{MissingKey, Object, OtherKeys, Value}

infixl 10 ◌>>=◌
abbrev pub ◌>>=◌ : {A B : Type 0} → Result A InvalidPart → (A → Result B InvalidPart) → Result B InvalidPart
(Ok x) >>= f = f x
(Err part) >>= f = Err part

-- how many keys an object has; no other value has keys
abbrev pub members_count : Data → ℕ
members_count null = 0
members_count (boolean b) = 0
members_count (number n) = 0
members_count (string s) = 0
members_count (array ds) = 0
members_count (object ms) = members_len ms

-- it has this many keys; if as many are found by their names, it has no others
abbrev pub has_keys : ℕ → Data → Result Unit InvalidPart
has_keys n value = if members_count value == n then Ok tt else Err OtherKeys

-- an object without this key, or no object
abbrev pub missing : BodyKey → Data → InvalidPart
missing key value = if is_some (as_object value) then MissingKey key else Object

abbrev pub member_at : BodyKey → Data → Result Data InvalidPart
member_at key value = ok_or (get (key_text key) value) (missing key value)

-- the value of a key, by what reads it
abbrev pub read_at : {A : Type 0} → (Data → Option A) → BodyKey → Data → Result A InvalidPart
read_at reader key value = member_at key value >>= (λ found. ok_or (reader found) (Value key))

abbrev pub text_at : BodyKey → Data → Result (List ℕ) InvalidPart
text_at = read_at as_str

abbrev pub flag_at : BodyKey → Data → Result Bool InvalidPart
flag_at = read_at as_bool

-- a name of a kind
abbrev pub name_at : NameRule → BodyKey → Data → Result (List ℕ) InvalidPart
name_at rule key value = text_at key value >>= (λ text. ok_or (name_of rule text) (Value key))

-- the id of an entry: a user, a group or `*`
abbrev pub entry_at : BodyKey → Data → Result (List ℕ) InvalidPart
entry_at key value = text_at key value >>= (λ text. ok_or (entry_id_of text) (Value key))

-- one of some spellings
abbrev pub spelled_at : {A : Type 0} → List (List ℕ × A) → BodyKey → Data → Result A InvalidPart
spelled_at spellings key value = text_at key value >>= (λ text. ok_or (lookup spellings text) (Value key))

-- null stands for nothing
abbrev pub or_nothing : {A : Type 0} → (List ℕ → Option A) → Data → Option (Option A)
or_nothing reader value = if is_some (as_null value) then Some None else option_map Some
    (option_and_then reader (as_str value))

-- the digest that a text is, which is not empty
abbrev pub digest_in : Option (Option (List ℕ)) → Option (List ℕ)
digest_in None = None
digest_in (Some digest) = digest

-- 64 digits, or null for none
abbrev pub digest_or_none : Data → Option (Option (List ℕ))
digest_or_none = or_nothing (λ text. digest_in (digest_of text))

-- a console, or null for every console
abbrev pub console_or_every : Data → Option (Option (List ℕ))
console_or_every = or_nothing (name_of console_rule)

abbrev pub digest_at : BodyKey → Data → Result (Option (List ℕ)) InvalidPart
digest_at = read_at digest_or_none

abbrev pub when_at : BodyKey → Data → Result (Option (List ℕ)) InvalidPart
when_at = read_at console_or_every
