-- Texts that can be read are ASCII.
use Rattle.std.proofs.Common.{◌≡◌, ℕ, Bool, true, false, List, [], ◌∷◌, refl, cond, arith}
use Rattle.std.specs.Prelude.{None, ◌&&◌}
use Rattle.std.specs.List.{list_all}
use Rattle.std.specs.Str.{IsAscii, bytes_eq}
use Rattle.std.proofs.lemmas.Slice.Eq.{bytes_eq-Decides}
use Rattle.std.proofs.lemmas.Str.Ascii.{IsAscii-cons, IsAscii-nil}
use Rattle.std.proofs.lemmas.Bool.Decides.{nat_tests}
use Rattle.std.specs.Char.{is_ascii}
use Rattle.opc_names.specs.Names.{name_fault, user_rule}
use Rattle.opc_names.proofs.Faults.{name_ascii}
use Rattle.opc_terms.specs.Entries.{entry_fault}

pub both : (a b : Bool) → (a && b) ≡ true → (a ≡ true) × (b ≡ true)
both true b h = (refl, h)
both false b h = cc

pub ascii : (text : List ℕ) → list_all is_ascii text ≡ true → IsAscii text
ascii [] h = IsAscii-nil
ascii (c ∷ text) h =
    let here : is_ascii c ≡ true = (both (is_ascii c) (list_all is_ascii text) h).0 in
    IsAscii-cons c text (grind (arith, nat_tests, here)) (ascii text (both (is_ascii c) (list_all is_ascii text) h).1)

pub entry_id-ascii : (text : List ℕ) → entry_fault text ≡ None → IsAscii text
entry_id-ascii text h =
    elim (bytes_eq text (42 ∷ [])) as (λ b. bytes_eq text (42 ∷ []) ≡ b → cond b None (name_fault user_rule text) ≡ None → IsAscii text) [
      | true ↦ (λ e _. rw ((bytes_eq-Decides text (42 ∷ [])).0 e) (ascii (42 ∷ []) refl))
      | false ↦ (λ _ k. name_ascii user_rule text k)
    ] refl h
