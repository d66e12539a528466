-- A write whose actions find no child is its one step.
use Rattle.std.proofs.Common.{◌≡◌, inl, inr, ℕ, zero, suc, ℤ, nat_lt, List, [], ◌∷◌, Bool, true, false, Ok, Err, Some, refl, sym, subst}
use Rattle.std.specs.Bool.{MatchBool}
use Rattle.std.specs.List.{list_any}
use Rattle.sqlite.specs.Order.{Row}
use Rattle.sqlite.specs.Tree.{Trees}
use Rattle.sqlite.specs.Schema.{Schema}
use Rattle.sqlite.specs.Edit.{Edit, Applies, taken_by}
use Rattle.sqlite_rules.specs.Lists.{Has}
use Rattle.sqlite_rules.proofs.ListLemmas.{has_left, has_right}
use Rattle.sqlite_rules.specs.declared.error.Refusal.TheVariants.{TooDeep}
use Rattle.sqlite_rules.specs.Action.{Work, End, works, is_child_of, AreChildren, ActsOn, Leads, Writes, max_depth}
use Rattle.sqlite_schema.specs.declared.schema.Keys.{Keys}

abbrev pub HasNoChild : Trees → Work → Type 0
HasNoChild db w = (r : Row) → Has (db w.child.tree) r → list_any (is_child_of w r) w.moves ≡ false

module _ (schema : Schema) (keys : Keys) where
  calm_leads : (n : ℕ) (db next : Trees) (stack : List Work) → ((w : Work) → Has stack w → HasNoChild db w) → Leads schema keys n db stack (Ok next) → next ≡ db
  calm_leads zero db next stack calm h = let e = h.1 in cc
  calm_leads (suc n) db next stack calm (below, w, is, acts) =
      go (nat_lt w.depth max_depth) acts
      (λ h. calm_leads n db next below (λ x in_below. calm x
      (subst (λ l. Has l x) (sym is) (has_left below (w ∷ []) x in_below))) h)
    where
      none : HasNoChild db w
      none = calm w (subst (λ l. Has l w) (sym is) (has_right below (w ∷ []) w (inl refl)))

      on : (ids : List ℤ) → AreChildren db w ids → ActsOn schema keys (Leads schema keys n) db w below (Ok next) ids
          → (Leads schema keys n db below (Ok next) → next ≡ db) → next ≡ db
      on [] children h more = more h
      on (id ∷ ids) children h more = absurd (let child = children.sound id (inl refl) in let no = none child.0 child.1 in let yes = child.2 in cc)

      go : (b : Bool) → MatchBool b ((ids : List ℤ) × AreChildren db w ids
          × ActsOn schema keys (Leads schema keys n) db w below (Ok next) ids)
          (◌≡◌ {A = End} (Ok next) (Err (Some TooDeep)))
          → (Leads schema keys n db below (Ok next) → next ≡ db) → next ≡ db
      go true h more = on h.0 h.1 h.2 more
      go false h more = absurd cc

  pub calm_step : (db next : Trees) (edit : Edit)
      → ((now : Trees) → Applies schema keys db edit now → (w : Work)
      → Has (works schema keys 0 edit.table.tree (taken_by db edit) edit.news) w → HasNoChild now w)
      → Writes schema keys db edit (Ok next) → Applies schema keys db edit next
  calm_step db next edit calm (inl refused) = absurd (let e = refused.2 in cc)
  calm_step db next edit calm (inr (inl big)) = absurd (let e = big.3 in cc)
  calm_step db next edit calm (inr (inr went)) =
      let same : next ≡ went.0 = calm_leads went.2.0 went.0 next
      (works schema keys 0 edit.table.tree (taken_by db edit) edit.news) (calm went.0 went.1) went.2.1 in
      subst (Applies schema keys db edit) (sym same) went.1
