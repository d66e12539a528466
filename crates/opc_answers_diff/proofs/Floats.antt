-- Texts and truth values are not floats.
use Rattle.std.proofs.Common.{◌≡◌, ℕ, List, Option, Some, None, false, refl}
use Rattle.serde_json.specs.Written.{has_float}
use Rattle.opc_answers.specs.Json.{held_words, place_words, rule_words, source_words, text_or_null}
use Rattle.opc_answers_diff.specs.declared.consoles.ConsoleChange.{ConsoleChange}
use Rattle.opc_answers_diff.specs.ConsolesShown.{console_value, said_words}
use Rattle.opc_policy_members.specs.declared.profile.Profile.{Profile}
use Rattle.opc_answers_diff.specs.DecidesShown.{profile_value}
use Rattle.opc_answers_diff.specs.Logons.{logon_value}
use Rattle.opc_answers_diff.specs.RowTexts.{row_value}
use Rattle.opc_answers.specs.declared.lines.UserLine.{UserLine}
use Rattle.opc_answers_diff.specs.declared.verdicts.UserChange.{UserChange}
use Rattle.opc_answers_diff.specs.UsersShown.{change_value, said_value, side_value}

or_null_so : (text : Option (List ℕ)) → has_float (text_or_null text) ≡ false
or_null_so None = refl
or_null_so (Some text) = refl

pub console_so : (change : ConsoleChange) → has_float (console_value change) ≡ false
console_so change = rw (or_null_so (said_words change.after), or_null_so (said_words change.before)) refl

pub row_so : (mark row : List ℕ) → has_float (row_value mark row) ≡ false
row_so mark row = refl

said_so : (line : UserLine) → has_float (said_value line) ≡ false
said_so line = rw (
  or_null_so (place_words line.held),
  or_null_so (held_words line.held),
  or_null_so (rule_words line.ruling line.instead),
  or_null_so (source_words line.held),
) refl

side_so : (line : Option UserLine) → has_float (side_value line) ≡ false
side_so None = refl
side_so (Some line) = said_so line

pub user_so : (change : UserChange) → has_float (change_value change) ≡ false
user_so change = rw (side_so change.after, side_so change.before) refl

profile_so : (profile : Option Profile) → has_float (profile_value profile) ≡ false
profile_so None = refl
profile_so (Some p) = refl

pub logon_so : (before after : Option Profile) (console : List ℕ) → has_float (logon_value before after console) ≡ false
logon_so before after console = rw (profile_so after, profile_so before) refl
