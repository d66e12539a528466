-- Texts and truth values are not floats.
use Rattle.std.proofs.Common.{◌≡◌, ℕ, Bool, List, [], ◌∷◌, Option, Some, None, false, refl}
use Rattle.serde_json.specs.Written.{has_float, items_have_float}
use Rattle.opc_answers.specs.declared.consoles.ConsoleLine.{ConsoleLine}
use Rattle.opc_answers.specs.declared.lines.UserLine.{UserLine}
use Rattle.opc_answers.specs.declared.wanted.Wanted.{Wanted}
use Rattle.opc_policy_members.specs.declared.profile.Profile.{Profile}
use Rattle.opc_policy_sources.specs.declared.levels.CoveringLevel.{CoveringLevel}
use Rattle.opc_answers.specs.declared.why.LineExplained.{LineExplained}
use Rattle.opc_answers.specs.declared.why.Explanation.{Explanation}
use Rattle.opc_answers.specs.WhyJson.{covering_items, levels_of, line_value, why_value}
use Rattle.opc_answers.specs.Json.{console_value, group_of, held_words, place_words, asked_value, rule_words, source_words, taken_words, text_or_null, user_value}

or_null_so : (text : Option (List ℕ)) → has_float (text_or_null text) ≡ false
or_null_so None = refl
or_null_so (Some text) = refl

pub user_so : (line : UserLine) → has_float (user_value line) ≡ false
user_so line = rw (
  or_null_so (place_words line.held),
  or_null_so (held_words line.held),
  or_null_so (rule_words line.ruling line.instead),
  or_null_so (source_words line.held),
) refl

pub console_so : (line : ConsoleLine) → has_float (console_value line) ≡ false
console_so line = refl

pub asked_so : (kind : List ℕ) (active : Bool) (w : Wanted) (decided : Option Profile) → has_float (asked_value kind active w decided) ≡ false
asked_so kind active w decided = rw (or_null_so (taken_words w), or_null_so (group_of w), or_null_so _, or_null_so _) refl

coverings_so : (levels : List CoveringLevel) → items_have_float (covering_items levels) ≡ false
coverings_so [] = refl
coverings_so (l ∷ levels) = rw (or_null_so l.held.when, coverings_so levels) refl

line_so : (line : Option LineExplained) → has_float (line_value line) ≡ false
line_so None = refl
line_so (Some line) = rw (coverings_so (levels_of line.covers)) refl

pub why_so : (w : Explanation) → has_float (why_value w) ≡ false
why_so w = rw (
  or_null_so (taken_words w.wanted),
  or_null_so w.console,
  coverings_so (levels_of w.covers),
  or_null_so (group_of w.wanted),
  line_so w.line,
  or_null_so w.actor,
) refl
