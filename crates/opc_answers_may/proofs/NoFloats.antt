-- Texts, truth values, and lists and objects of them are not floats.
use Rattle.std.proofs.Common.{◌≡◌, refl, ℕ, Bool, true, false, ◌||◌, List, [], ◌∷◌, Option, Some, None, map}
use Rattle.std.specs.Cmp.Lexicographic.{slice_cmp}
use Rattle.std.specs.Ordering.{match_ordering, nat_cmp}
use Rattle.std.specs.declared.cmp.Ordering.{Ordering}
use Rattle.std.specs.declared.cmp.Ordering.TheVariants.{Equal, Greater, Less}
use Rattle.serde_json.specs.Data.{Data, Members, member, no_members, put, string}
use Rattle.serde_json.specs.View.{items_of}
use Rattle.serde_json.specs.Written.{has_float, items_have_float, members_have_float}
use Rattle.opc_answers.specs.declared.members.UserWithGroups.{UserWithGroups}
use Rattle.opc_answers.specs.Json.{held_words, place_words, rule_words, source_words, text_or_null}
use Rattle.opc_policy_deciders.specs.Forms.{forms}
use Rattle.opc_policy_deciders.specs.Kinds.{Example}
use Rattle.opc_answers_may.specs.declared.commands.CommandsHead.{CommandsHead}
use Rattle.opc_answers_may.specs.declared.commands.CommandsLine.{CommandsLine}
use Rattle.opc_answers_may.specs.declared.logons.LogonAt.{LogonAt}
use Rattle.opc_answers_may.specs.Commands.{shown}
use Rattle.opc_answers_may.specs.MayJson.{
  change_value,
  forms_value,
  held_of,
  held_on,
  level_of,
  logon_value,
  pattern_of,
  pattern_on,
  rule_of,
  rule_on,
  texts,
  user_value,
  with_examples,
}
use Rattle.opc_answers_may.specs.MayTexts.{console_of, names_of}

or_null : (text : Option (List ℕ)) → has_float (text_or_null text) ≡ false
or_null None = refl
or_null (Some text) = refl

texts_so : (list : List (List ℕ)) → items_have_float (items_of (map string list)) ≡ false
texts_so [] = refl
texts_so (text ∷ list) = texts_so list

put_so : (k text : List ℕ) (ms : Members) → members_have_float ms ≡ false → members_have_float (put k (string text) ms) ≡ false
put_so k text no_members none = refl
put_so k text (member l e ms) none = go (slice_cmp nat_cmp k l) (has_float e) refl none (put_so k text ms)
  where
    go : (o : Ordering) (b : Bool) → has_float e ≡ b → (b || members_have_float ms) ≡ false
        → (members_have_float ms ≡ false → members_have_float (put k (string text) ms) ≡ false)
        → members_have_float (match_ordering o (member k (string text) (member l e ms)) (member l (string text) ms)
        (member l e (put k (string text) ms))) ≡ false
    go o true is none later = cc
    go Less false is none later = rw is none
    go Equal false is none later = none
    go Greater false is none later = rw is (later none)

examples_so : (ms : Members) (list : List Example) → members_have_float ms ≡ false → members_have_float (with_examples ms list) ≡ false
examples_so ms [] none = none
examples_so ms (e ∷ list) none = examples_so (put e.form.name (string e.resource) ms) list (put_so e.form.name e.resource ms none)

pub user_so : (m : UserWithGroups) → has_float (user_value m) ≡ false
user_so m = rw (texts_so m.groups) refl

pub logon_so : (l : LogonAt) (consoles : List LogonAt) → has_float (logon_value l consoles) ≡ false
logon_so l consoles = rw (
  or_null (place_words (held_on l.basis l.line.held)),
  texts_so (map console_of consoles),
  or_null (held_words (held_on l.basis l.line.held)),
  or_null (pattern_on l.basis),
  or_null (rule_on l.basis (rule_words l.line.ruling l.line.instead)),
  or_null (source_words (held_on l.basis l.line.held)),
) refl

pub forms_so : (h : CommandsHead) (l : CommandsLine) (found : List (Option (List ℕ))) → has_float (forms_value h l found) ≡ false
forms_so h l found = rw (
  or_null (place_words (held_of l.said)),
  texts_so (names_of l.asked found),
  examples_so no_members (shown l.asked forms found) refl,
  or_null (held_words (held_of l.said)),
  or_null (level_of l.asked),
  or_null (pattern_of h),
  or_null (rule_of l.said),
  or_null (source_words (held_of l.said)),
) refl

pub things_so : (things : List (List ℕ)) → has_float (texts things) ≡ false
things_so things = texts_so things

pub change_so : (by verdict : List ℕ) (what : Data) → has_float what ≡ false → has_float (change_value by verdict what) ≡ false
change_so by verdict what none = rw none refl
