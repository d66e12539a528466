use Rattle.std.proofs.Common.{ap, refl, is_lt}
use Rattle.std.specs.Cmp.Lexicographic.{lists_agrees}
use Rattle.std.specs.Ordering.{is_some_and, nat_cmp}
use Rattle.opc_store_profiles.specs.Lists.{pattern_in}
use Rattle.opc_store_profiles.proofs.lists.is_before.Goals as goal

pub returns : goal.returns
returns c = rw (c.lt.ensures, c.pattern_in.ensures, c.as_bytes.ensures.value)
    (ap (is_some_and is_lt) (lists_agrees {R = nat_cmp} (λ x y. refl) (pattern_in c.args.row.now) c.args.pattern.now))
