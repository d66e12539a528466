-- What columns make of values that may be missing.
use Rattle.std.proofs.Common.{◌≡◌, ℕ, List, Option, Some, None, refl}
use Rattle.sqlite.specs.Cast.{cast}
use Rattle.sqlite.specs.Kind.TheVariants.{Text}
use Rattle.opc_store_schema.specs.Represented.{text_or_null}
use Rattle.std.specs.Borrow.{Bor}
use Rattle.std.specs.Option.{option_copied}
use Rattle.sqlite.specs.declared.types.Value.{Value}
use Rattle.sqlite.specs.declared.types.Value.TheVariants.{Text as TextValue}
use Rattle.sqlite.specs.Values as values

pub cast_text_or_null : (text : Option (List ℕ)) → cast Text (text_or_null text) ≡ text_or_null text
cast_text_or_null None = refl
cast_text_or_null (Some text) = refl

abbrev pub text_value : Option (Bor (List ℕ)) → Value
text_value text = values.bound_value (values.or_null (λ (b : Bor (List ℕ)). TextValue b.now) text)

pub text_value_is : (t : Option (Bor (List ℕ))) → text_value t ≡ text_or_null (option_copied t)
text_value_is None = refl
text_value_is (Some b) = refl
