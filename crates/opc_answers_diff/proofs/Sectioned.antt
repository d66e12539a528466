-- Texts, truth values, and lists and objects of them are not floats.
use Rattle.std.proofs.Common.{◌≡◌, refl, ℕ, Bool, true, false, ◌||◌, List, [], ◌∷◌, Option, Some, None, map}
use Rattle.std.specs.Cmp.Lexicographic.{slice_cmp}
use Rattle.std.specs.Ordering.{match_ordering, nat_cmp}
use Rattle.std.specs.declared.cmp.Ordering.{Ordering}
use Rattle.std.specs.declared.cmp.Ordering.TheVariants.{Equal, Greater, Less}
use Rattle.serde_json.specs.Data.{Members, member, no_members, put, string}
use Rattle.serde_json.specs.View.{items_of}
use Rattle.serde_json.specs.Written.{has_float, items_have_float, members_have_float}
use Rattle.opc_policy_deciders.specs.declared.kind.AskedKind.{AskedKind}
use Rattle.opc_policy_deciders.specs.Forms.{forms}
use Rattle.opc_policy_deciders.specs.Kinds.{Example}
use Rattle.opc_policy_members.specs.declared.profile.Profile.{Profile}
use Rattle.opc_answers_may.specs.declared.commands.FormsAsked.TheVariants.{OfKind}
use Rattle.opc_answers_may.specs.Commands.{shown}
use Rattle.opc_answers_may.specs.MayJson.{with_examples}
use Rattle.opc_answers_may.specs.MayTexts.{names_of}
use Rattle.opc_answers_diff.specs.DecidesShown.{profile_value}
use Rattle.opc_answers_diff.specs.Sections.{section_value}

profile_so : (profile : Option Profile) → has_float (profile_value profile) ≡ false
profile_so None = refl
profile_so (Some p) = refl

texts_so : (list : List (List ℕ)) → items_have_float (items_of (map string list)) ≡ false
texts_so [] = refl
texts_so (text ∷ list) = texts_so list

put_so : (k text : List ℕ) (ms : Members) → members_have_float ms ≡ false → members_have_float (put k (string text) ms) ≡ false
put_so k text no_members none = refl
put_so k text (member l e ms) none = go (slice_cmp nat_cmp k l) (has_float e) refl none (put_so k text ms)
  where
    go : (o : Ordering) (b : Bool) → has_float e ≡ b → (b || members_have_float ms) ≡ false
        → (members_have_float ms ≡ false → members_have_float (put k (string text) ms) ≡ false)
        → members_have_float (match_ordering o (member k (string text) (member l e ms)) (member l (string text) ms)
        (member l e (put k (string text) ms))) ≡ false
    go o true is none later = cc
    go Less false is none later = rw is none
    go Equal false is none later = none
    go Greater false is none later = rw is (later none)

examples_so : (ms : Members) (list : List Example) → members_have_float ms ≡ false → members_have_float (with_examples ms list) ≡ false
examples_so ms [] none = none
examples_so ms (e ∷ list) none = examples_so (put e.form.name (string e.resource) ms) list (put_so e.form.name e.resource ms none)

pub section_so : (kind : AskedKind) (found : List (Option (List ℕ))) (one other : Option Profile) → has_float (section_value kind found one other) ≡ false
section_so kind found one other = rw (
  profile_so other,
  profile_so one,
  texts_so (names_of (OfKind kind) found),
  examples_so no_members (shown (OfKind kind) forms found) refl,
) refl
