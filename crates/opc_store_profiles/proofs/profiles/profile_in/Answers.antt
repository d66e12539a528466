use Rattle.std.proofs.Common.{◌≡◌, ◌∙◌, List, ℕ, [], ◌∷◌, true, subst, rules, sym}
use Rattle.sqlite.specs.declared.types.Value.TheVariants.{Blob, Text}
use Rattle.opc_names.specs.Order.{sort_key, head}
use Rattle.opc_names.specs.Patterns.{tokens}
use Rattle.opc_store_profiles.specs.Keys.{has_keys_of}
use Rattle.opc_store_profiles.proofs.profiles.profile_in.Goals as goal

pub returns-clause-read : goal.returns-clause-read
returns-clause-read c p is = c.in_ok-profile.ensures.read p (Blob (sort_key p.pattern) ∷ Text (head (tokens p.pattern)) ∷ []) is

pub returns-clause-keys : goal.returns-clause-keys
returns-clause-keys c = (
  λ text is. (_, c.in_ok-profile.ensures.class text is),
  λ pattern is. let yes : c.has_keys_of.result ≡ true = search rules in
      subst (λ (p : List ℕ). has_keys_of p c.args.row.now ≡ true) (c.in_ok-profile.ensures.pattern pattern is)
      (sym c.has_keys_of.ensures ∙ yes),
)
