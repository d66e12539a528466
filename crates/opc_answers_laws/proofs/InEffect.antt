-- The rows in effect of a policy file are what is stored.
use Rattle.std.proofs.Common.{◌≡◌, true, false, List, [], ◌∷◌, Option, Some, None, Ok, refl, sym, ap, subst, ◌∙◌}
use Rattle.std.specs.BTreeSet.{replace_key}
use Rattle.std.specs.List.{AllByRecursion}
use Rattle.std.specs.Option.{is_some, option_or}
use Rattle.std.specs.Ordering.{match_ordering}
use Rattle.std.specs.declared.cmp.Ordering.{Ordering}
use Rattle.std.specs.declared.cmp.Ordering.TheVariants.{Less, Equal, Greater}
use Rattle.opc_names.specs.declared.class.Class.{Class}
use Rattle.opc_names.specs.declared.class.Class.TheVariants.{Console, Opercmds}
use Rattle.opc_policy_members.specs.declared.policy.Policy.{Policy}
use Rattle.opc_policy_members.specs.declared.profile.Profile.{Profile}
use Rattle.opc_policy_members.specs.declared.row.Row.{Row}
use Rattle.opc_policy_members.specs.declared.row.Row.TheVariants as rows
use Rattle.opc_policy_members.specs.Profiles.{is_of, profile_cmp, profile_of}
use Rattle.opc_policy_members.specs.Taken.{after_row, has_holder, has_user}
use Rattle.opc_rows.proofs.Orders.{all_found}
use Rattle.opc_board.specs.declared.board.BoardRows.{BoardRows}
use Rattle.opc_state.specs.State.{State, empty}
use Rattle.opc_machine.specs.Bootstrap.{bootstrapped}
use Rattle.opc_machine_laws.specs.RowLaws.{HasPattern, IsWritten}
use Rattle.opc_machine_laws.specs.TakingLaws.{AreDefined, AreTaken, with_console_of}
use Rattle.opc_machine_laws.proofs.RowEffects.{listing, row_so, rows_do}
use Rattle.opc_machine_laws.proofs.Taking.{needing_ok, rows_in_turn}
use Rattle.opc_answers_laws.specs.NoteLaws.{IsMade, RowsInEffectAreStored, StoredRowsAreInEffect}
use Rattle.opc_answers_laws.specs.Stored.{stored_for}
use Rattle.opc_answers_laws.proofs.LastRows.{as_key, in_last, last_in, last_row}
use Rattle.opc_answers_laws.proofs.Steps.{stored_after}

-- the profiles have patterns, also after a row

all_replaced : (profile : Profile) (profiles : List Profile) → HasPattern profile → AllByRecursion HasPattern profiles
    → AllByRecursion HasPattern (replace_key profile_cmp profiles profile)
all_replaced profile [] here all = (here, tt)
all_replaced profile (p ∷ ps) here all = go (profile_cmp profile p) (all_replaced profile ps here all.1)
  where
    go : (o : Ordering) → AllByRecursion HasPattern (replace_key profile_cmp ps profile)
        → AllByRecursion HasPattern (match_ordering o (profile ∷ p ∷ ps) (profile ∷ ps) (p ∷ replace_key profile_cmp ps profile))
    go Less later = (here, (all.0, all.1))
    go Equal later = (here, all.1)
    go Greater later = (all.0, later)

abbrev ArePatterns : Policy → Type 0
ArePatterns p = AllByRecursion HasPattern p.profiles

module _ (old new : Policy) (stored : ArePatterns old) where
  patterns_stay : (row : Row) → IsWritten row → after_row row old ≡ Ok new → ArePatterns new
  patterns_stay (rows.Class class on) written makes = row_so _ new ArePatterns stored makes
  patterns_stay (rows.Group name) written makes = subst ArePatterns (sym (rows_do (rows.Group name) old new stored written makes).1) stored
  patterns_stay (rows.User user) written makes = subst ArePatterns (sym (rows_do (rows.User user) old new stored written makes).1) stored
  patterns_stay (rows.Connect user group) written makes = subst ArePatterns (sym (rows_do (rows.Connect user group) old new stored written makes).1) stored
  patterns_stay (rows.Console name auth mode) written makes = row_so _ new ArePatterns stored makes
  patterns_stay (rows.Profile class pattern uacc owner warning) written makes =
      row_so _ new ArePatterns (all_replaced _ old.profiles written stored) (needing_ok (has_user old owner) owner _ new makes)
  patterns_stay (rows.Permit class pattern id level when) written makes =
      row_so _ new ArePatterns (go (profile_of old.profiles class pattern) refl)
      (needing_ok (has_holder old id) id _ new
      (needing_ok (is_some (profile_of old.profiles class pattern)) pattern _ new makes))
    where
      go : (o : Option Profile) → profile_of old.profiles class pattern ≡ o → AllByRecursion HasPattern (listing (record {
        id = id;
        when = when;
        level = level;
      }) old.profiles o)
      go None at = stored
      go (Some q) at = all_replaced _ old.profiles (all_found HasPattern (is_of class pattern) q old.profiles at stored) stored

-- the last row of a key is stored, or what was stored before

after_both : (a b c : Option Row) → option_or a (option_or b c) ≡ option_or (option_or a b) c
after_both None b c = refl
after_both (Some r) b c = refl

last_stored : (all : List Row) (old new : Policy) (b c : BoardRows) (q : Row) → ArePatterns old → AllByRecursion IsWritten all
    → AreTaken all old new → AreDefined all b c → stored_for new c q ≡ option_or (last_row q all) (stored_for old b q)
last_stored [] old new b c q stored written taken defined =
    ap (λ (p : Policy). stored_for p c q) taken ∙ ap (λ (d : BoardRows). stored_for old d q) defined
last_stored (row ∷ more) old new b c q stored written (next, takes, later) defined =
    last_stored more next new (with_console_of row b) c q (patterns_stay old next stored row written.0 takes) written.1 later defined
    ∙ ap (option_or (last_row q more)) (stored_after row q old next b (rows_do row old next stored written.0 takes))
    ∙ after_both (last_row q more) (as_key q row) (stored_for old b q)

-- a first policy

module _ (all : List Row) (s : State) (written : AllByRecursion IsWritten all) (loads : bootstrapped all empty ≡ Ok s) where
  last_loaded : (q : Row) → stored_for s.policy s.board q ≡ option_or (last_row q all) (stored_for empty.policy empty.board q)
  last_loaded q =
      let whole = (rows_in_turn all empty s).0 loads in
      last_stored all empty.policy s.policy empty.board s.board q tt written whole.policy whole.board

-- nothing is stored before, and no class is active
not_before : (q : Row) → IsMade q → stored_for empty.policy empty.board q ≡ Some q → ⊥
not_before (rows.Class class true) made is = go class is
  where
    go : (c : Class) → stored_for empty.policy empty.board (rows.Class c true) ≡ Some (rows.Class c true) → ⊥
    go Console same = (cc)
    go Opercmds same = (cc)
not_before (rows.Class class false) made is = (cc)
not_before (rows.Group name) made is = (cc)
not_before (rows.User user) made is = (cc)
not_before (rows.Connect user group) made is = (cc)
not_before (rows.Console name auth mode) made is = (cc)
not_before (rows.Profile class pattern uacc owner warning) made is = (cc)
not_before (rows.Permit class pattern id level when) made is = (cc)

from_last : (q : Row) (last before : Option Row) → (before ≡ Some q → ⊥) → option_or last before ≡ Some q → last ≡ Some q
from_last q None before never is = absurd (never is)
from_last q (Some r) before never is = is

pub in_effect_stored : RowsInEffectAreStored
in_effect_stored all s written loads row effect =
    last_loaded all s written loads row ∙ ap (λ o. option_or o (stored_for empty.policy empty.board row)) (in_last row 1 all effect)

pub stored_in_effect : StoredRowsAreInEffect
stored_in_effect all s written loads row made stored =
    last_in row 1 all (from_last row (last_row row all) (stored_for empty.policy empty.board row) (not_before row made)
    (sym (last_loaded all s written loads row) ∙ stored))
