-- What an explanation of access means, for those who ask before they type.
use Rattle.std.specs.Prelude.{◌≡◌, ◌↔◌, ℕ, true, List, [], ◌∷◌, Option, Some, None, Ok, Contains, codes, map}
use Rattle.opc_names.specs.declared.class.Class.{Class}
use Rattle.opc_names.specs.declared.class.Class.TheVariants.{Opercmds}
use Rattle.opc_names.specs.declared.level.Level.{Level}
use Rattle.opc_names.specs.Patterns.{covers_text}
use Rattle.opc_terms.specs.declared.need.Need.{Need}
use Rattle.opc_terms.specs.declared.rule.Rule.TheVariants as rule
use Rattle.opc_policy.specs.declared.explained.Explained.{Explained}
use Rattle.opc_policy.specs.declared.verdict.Verdict.TheVariants.{Allowed, Denied, Undecided}
use Rattle.opc_policy.specs.Explained.{explained_text, explanation}
use Rattle.opc_policy.specs.Rulings.{by_verdict, console_ruling}
use Rattle.opc_policy.specs.Verdicts.{verdict_text}
use Rattle.opc_policy_members.specs.declared.policy.Policy.{Policy}
use Rattle.opc_policy_members.specs.declared.profile.Profile.{Profile}
use Rattle.opc_policy_members.specs.declared.user.User.{User}
use Rattle.opc_board.specs.declared.rows.ConsoleRow.{ConsoleRow}
use Rattle.opc_state.specs.State.{State}
use Rattle.opc_machine.specs.Rulings.{acting, logon_denial, ruling}

-- What is explained to a user at a console is how the user's commands are ruled there; if it is undecided, the console's
-- authority rules.
abbrev pub ExplanationsForesee : Type 0
ExplanationsForesee =
    (s : State) (console : ConsoleRow) (user : User) (need : Need) (e : Explained)
    → logon_denial s console ≡ None → acting s console ≡ Some user
    → explanation s.policy Opercmds need.resource user.id (Some console.name) need.level ≡ Ok e
    → ruling s console need ≡ by_verdict e.verdict e.rule (console_ruling console.auth need)

-- A pattern is listed if and only if a profile of the class has it and it covers the resource.
pub record CoversIt (p : Policy) (class : Class) (resource pattern : List ℕ) : Type 0 where
  pub profile : Profile
  pub stored : Contains p.profiles profile
  pub of_class : profile.class ≡ class
  pub spelled : profile.pattern ≡ pattern
  pub covers : covers_text profile.pattern resource ≡ true

abbrev pub ExplanationsListWhatCovers : Type 0
ExplanationsListWhatCovers =
    (p : Policy) (class : Class) (resource id pattern : List ℕ) (console : Option (List ℕ)) (needed : Level)
    (e : Explained) → explanation p class resource id console needed ≡ Ok e
    → Contains e.covering pattern ↔ CoversIt p class resource pattern

-- A worked example of the text of an explanation, and the word for each verdict.
pub record ExplanationsReadSo : Type 0 where
  pub text : explained_text (record {
    covering = codes "A.*" ∷ codes "**" ∷ [];
    verdict = Undecided;
    rule = rule.NoProfile;
  }) ≡ codes "COVERS A.*\nCOVERS **\nUNDECIDED NOPROFILE\n"
  pub verdicts : map verdict_text (Allowed ∷ Undecided ∷ Denied ∷ []) ≡ codes "ALLOWED" ∷ codes "UNDECIDED"
      ∷ codes "DENIED" ∷ []
