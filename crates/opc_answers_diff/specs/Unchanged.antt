-- Users of whom nothing else can be said.
use Rattle.std.specs.Prelude.{◌≡◌, ℕ, List, Option}
use Rattle.opc_policy_members.specs.declared.profile.Profile.{Profile}
use Rattle.opc_answers_diff.specs.declared.asked.Asked.{Asked}
use Rattle.opc_answers_diff.specs.declared.members.MemberChange.{MemberChange}
use Rattle.opc_answers_diff.specs.Verdicts.{changes_at}

-- Where these profiles decide, something else is said of some users at most: of all others the same.
abbrev pub AreEnough : (one other : Option Profile) → (some all : List MemberChange) → Type 0
AreEnough one other some all = (asked : Asked) (console : Option (List ℕ))
    → changes_at asked one other some console ≡ changes_at asked one other all console
