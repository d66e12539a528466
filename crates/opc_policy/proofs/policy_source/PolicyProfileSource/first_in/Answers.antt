use Rattle.std.proofs.Common.{◌≡◌, ◌∙◌, ℕ, List, Some, filter, ap}
use Rattle.std.specs.Str.{bytes_eq}
use Rattle.opc_names.specs.Authority.{same_class}
use Rattle.opc_names.specs.declared.class.Class.{Class}
use Rattle.opc_policy.specs.Examined.{head_of, is_chosen, with_head}
use Rattle.opc_policy_members.specs.Profiles.{of_class}
use Rattle.opc_policy_members.specs.declared.profile.Profile.{Profile}
use Rattle.opc_policy.proofs.FirstCovering.{filter_both}
use Rattle.opc_policy.proofs.policy_source.PolicyProfileSource.first_in.Goals as goal

-- those of a class with a head, in two steps or in one
chosen : (class : Class) (head : List ℕ) (profiles mine : List Profile) → profiles ≡ mine
    → with_head head (of_class class profiles) ≡ filter (is_chosen class (Some head)) mine
chosen class head profiles mine are = ap (λ (ps : List Profile). with_head head (of_class class ps)) are
    ∙ filter_both (λ (p : Profile). same_class p.class class) (λ (p : Profile). bytes_eq (head_of p) head) mine

pub returns-clause-first : goal.returns-clause-first
returns-clause-first c = λ profiles are _. rw (chosen c.args.class c.args.head.now profiles c.args.self.now.profiles are) c.in_ok-first_chosen.ensures.first

pub returns-clause-rows : goal.returns-clause-rows
returns-clause-rows c = λ profiles are _. rw (chosen c.args.class c.args.head.now profiles c.args.self.now.profiles are) c.in_ok-first_chosen.ensures.rows
