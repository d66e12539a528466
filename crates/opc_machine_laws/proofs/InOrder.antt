-- In which order the members of a policy stand.
use Rattle.std.proofs.Common.{◌≡◌, Some, None, refl, ap, ◌∙◌}
use Rattle.std.specs.Option.{option_cmp}
use Rattle.std.specs.Ordering.{ordering_then}
use Rattle.std.specs.declared.cmp.Ordering.{Ordering}
use Rattle.std.specs.declared.cmp.Ordering.TheVariants.{Less}
use Rattle.opc_names.specs.declared.class.Class.TheVariants.{Console}
use Rattle.opc_policy_members.specs.Profiles.{class_cmp, pattern_cmp}
use Rattle.opc_machine_laws.specs.OrderLaws.{MembersGoByName, PatternsGoSo, by_code}
use Rattle.opc_machine_laws.proofs.Keys.{classes_tie, names_tie}

first : (o p : Ordering) → o ≡ Less → ordering_then o p ≡ Less
first o p is = ap (λ x. ordering_then x p) is

pub go_by_name : MembersGoByName
go_by_name = record {
  users = λ u v. refl;
  groups = λ g h. refl;
  connects = λ c d less. first _ _ less;
  connects_of_one = λ c d same. ap (λ o. ordering_then o (by_code c.group d.group)) (names_tie c.user d.user same);
  classes = λ p q one other. first _ _ (ap (λ c. class_cmp c q.class) one ∙ ap (class_cmp Console) other);
  profiles = λ p q same. ap (λ o. ordering_then o (pattern_cmp p.pattern q.pattern))
      (ap (λ c. class_cmp c q.class) same ∙ classes_tie q.class);
  entries = λ e f less. first _ _ less;
  entries_everywhere = λ e f console same none some. ap (λ o. ordering_then o (option_cmp by_code e.when f.when)) (names_tie e.id f.id same)
      ∙ ap (λ o. option_cmp by_code o f.when) none ∙ ap (option_cmp by_code None) some;
  entries_of_one = λ e f console other same here there.
      ap (λ o. ordering_then o (option_cmp by_code e.when f.when)) (names_tie e.id f.id same)
      ∙ ap (λ o. option_cmp by_code o f.when) here ∙ ap (option_cmp by_code (Some console)) there;
}

pub patterns_go : PatternsGoSo
patterns_go = refl
