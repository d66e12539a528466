-- Why a row is refused ends with the name that its fault has.
use Rattle.std.proofs.Common.{◌≡◌, ◌++◌, ◌∙◌, ℕ, Bool, true, false, List, ap, refl, subst, append_assoc}
use Rattle.std.specs.Prelude.{Result, Ok, Err, codes, if◌then◌else◌, is_some}
use Rattle.opc_names.specs.Spellings.{class_text}
use Rattle.opc_terms.specs.declared.fault.Fault.{Fault}
use Rattle.opc_terms.specs.declared.fault.Fault.TheVariants.{Exists, Missing}
use Rattle.opc_policy_members.specs.declared.policy.Policy.{Policy}
use Rattle.opc_policy_members.specs.declared.row.Row.{Row}
use Rattle.opc_policy_members.specs.declared.row.Row.TheVariants as rows
use Rattle.opc_policy_members.specs.Profiles.{profile_of}
use Rattle.opc_policy_members.specs.Taken.{after_row, has_group, has_holder, has_user, needing, unless}
use Rattle.opc_check.specs.Laws.{EndsWith, ObstaclesEndWithTheName}
use Rattle.opc_check.specs.Problems.{obstacle_text}

-- if there is a fault, the text ends with its name
abbrev Ends : List ℕ → Result Policy Fault → Type 0
Ends text (Ok p) = Unit {0}
Ends text (Err (Exists name)) = EndsWith text name
Ends text (Err (Missing name)) = EndsWith text name
Ends text (Err fault) = Unit {0}

one_unless : (is_there : Bool) (start name : List ℕ) (p : Policy) → Ends (start ++ name) (unless is_there name (Ok p))
one_unless true start name p = (start, refl)
one_unless false start name p = tt

one_needing : (is_there : Bool) (start name : List ℕ) (p : Policy) → Ends (start ++ name) (needing is_there name (Ok p))
one_needing true start name p = tt
one_needing false start name p = (start, refl)

both_needing : (first second : Bool) (one other : List ℕ) (start end : List ℕ) (p : Policy)
    → Ends (if first then start ++ other else end ++ one) (needing first one (needing second other (Ok p)))
both_needing true second one other start end p = one_needing second start other p
both_needing false second one other start end p = (end, refl)

longer : (a b c d : List ℕ) → (a ++ (b ++ c)) ++ d ≡ a ++ (b ++ (c ++ d))
longer a b c d = append_assoc a (b ++ c) d ∙ ap (λ (t : List ℕ). a ++ t) (append_assoc b c d)

ends : (row : Row) (p : Policy) → Ends (obstacle_text p row) (after_row row p)
ends (rows.Class class active) p = tt
ends (rows.Group name) p = one_unless (has_user p name) (codes "a user has the name ") name _
ends (rows.User user) p = one_unless (has_group p user.id) (codes "a group has the name ") user.id _
ends (rows.Connect user group) p =
    both_needing (has_user p user) (has_group p group) user group (codes "no group ") (codes "no user ") _
ends (rows.Console name auth mode) p = tt
ends (rows.Profile class pattern uacc owner warning) p = one_needing (has_user p owner) (codes "no user ") owner _
ends (rows.Permit class pattern id level when) p =
    subst
    (λ (text : List ℕ). Ends (if is_some (profile_of p.profiles class pattern) then codes "no user or group " ++ id else text)
    (after_row (rows.Permit class pattern id level when) p))
    (longer (codes "no profile ") (class_text class) (codes " ") pattern)
    (both_needing (is_some (profile_of p.profiles class pattern)) (has_holder p id) pattern id (codes "no user or group ")
    (codes "no profile " ++ (class_text class ++ codes " ")) _)

pub ends_with_name : ObstaclesEndWithTheName
ends_with_name = record {
  there = λ row p name e. subst (λ (r : Result Policy Fault). Ends (obstacle_text p row) r) e (ends row p);
  missing = λ row p name e. subst (λ (r : Result Policy Fault). Ends (obstacle_text p row) r) e (ends row p);
}
