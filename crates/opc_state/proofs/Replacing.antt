-- What stands at a key of a list, after rows are put, removed and left out.
use Rattle.std.proofs.Common.{
  ◌≡◌,
  Bool,
  true,
  false,
  cond,
  not,
  List,
  [],
  ◌∷◌,
  filter,
  Option,
  Some,
  None,
  is_some,
  Ordering,
  Less,
  Equal,
  Greater,
  refl,
  sym,
  ap,
  ap₂,
  ◌∙◌,
}
use Rattle.std.specs.BTreeSet.{replace_key}
use Rattle.std.specs.Cmp.{IsTotalOrder, tied_back}
use Rattle.std.specs.List.{AllByRecursion, find}
use Rattle.std.specs.Option.{is_none, option_or}
use Rattle.std.specs.Ordering.{is_lt, is_eq, match_ordering, ordering_reverse}
use Rattle.opc_rows.specs.Ordered.{Ascends}
use Rattle.opc_state.specs.Difference.{gone, as_it_was, fresh}

-- a list without all rows at the keys of these
abbrev pub without_all : {R : Type 0} → (R → R → Bool) → List R → List R → List R
without_all is_at [] rows = rows
without_all is_at (r ∷ rs) rows = without_all is_at rs (filter (λ q. not (is_at q r)) rows)

-- a list with all of these, each in the place of the one at its key
abbrev pub with_all : {R : Type 0} → (R → R → Ordering) → List R → List R → List R
with_all cmp [] rows = rows
with_all cmp (r ∷ rs) rows = with_all cmp rs (replace_key cmp rows r)

is_less : (o : Ordering) → is_lt o ≡ true → o ≡ Less
is_less Less h = refl
is_less Equal h = absurd (cc)
is_less Greater h = absurd (cc)

is_tie : (o : Ordering) → is_eq o ≡ true → o ≡ Equal
is_tie Less h = absurd (cc)
is_tie Equal h = refl
is_tie Greater h = absurd (cc)

module _ {R : Type 0} (cmp : R → R → Ordering) (total : IsTotalOrder cmp) (is_at : R → R → Bool) (ties : (q r : R) → is_at q r ≡ is_eq (cmp q r)) where
  -- one row before another
  abbrev pub before : R → R → Bool
  before q r = is_lt (cmp q r)

  -- the row at the key of another
  abbrev pub at : R → List R → Option R
  at k rows = find (λ q. is_at q k) rows

  tie : (q r : R) → is_at q r ≡ true → cmp q r ≡ Equal
  tie q r h = is_tie (cmp q r) (sym (ties q r) ∙ h)

  there : (q r : R) → cmp q r ≡ Equal → is_at q r ≡ true
  there q r e = ties q r ∙ ap is_eq e

  -- two at one key are at each other's keys
  pub met : (q r k : R) → is_at q k ≡ true → is_at r k ≡ true → cmp q r ≡ Equal
  met q r k one other = let back : cmp k r ≡ Equal = tied_back total r k (tie r k other) in total.congr q k r (tie q k one) ∙ back

  -- one that is before another is not at its key
  pub apart : (q r k : R) → before q r ≡ true → is_at q k ≡ true → is_at r k ≡ false
  apart q r k less one = go (is_at r k) refl
    where
      go : (b : Bool) → is_at r k ≡ b → b ≡ false
      go false e = refl
      go true e = let same : cmp q r ≡ Equal = met q r k one e in let other : cmp q r ≡ Less = is_less _ less in absurd (cc)

  -- what is at one key is at each key that ties with it
  pub alike : (q r k : R) → is_at r k ≡ true → is_at q r ≡ is_at q k
  alike q r k h = ties q r ∙ ap is_eq (sym turned) ∙ sym (ties q k)
    where
      turned : cmp q k ≡ cmp q r
      turned = total.antisymm q k ∙ ap ordering_reverse (total.congr k r q (tied_back total r k (tie r k h))) ∙ sym (total.antisymm q r)

  -- none of those after is at the key
  pub none_after : (r k : R) (rows : List R) → is_at r k ≡ true → AllByRecursion (λ q. before r q ≡ true) rows → at k rows ≡ None
  none_after r k [] h after = refl
  none_after r k (q ∷ rows) h after = rw (apart r q k after.0 h) (none_after r k rows h after.1)

  -- a row that is put is at its key, and the others stay
  pub at_put : (r k : R) (rows : List R) → at k (replace_key cmp rows r) ≡ cond (is_at r k) (Some r) (at k rows)
  at_put r k [] = refl
  at_put r k (q ∷ rows) = go (cmp r q) refl (at_put r k rows)
    where
      same_key : (b : Bool) → is_at r k ≡ b → cmp r q ≡ Equal → cond b (Some r) (at k rows) ≡ cond b (Some r) (cond (is_at q k) (Some q) (at k rows))
      same_key true e compares_equal = refl
      same_key false e compares_equal = rw away refl
        where
          away : is_at q k ≡ false
          away = sym (alike_left q r k (tied_back total r q compares_equal)) ∙ e
            where
              alike_left : (x y z : R) → cmp x y ≡ Equal → is_at y z ≡ is_at x z
              alike_left x y z t = ties y z ∙ ap is_eq (sym (total.congr x y z t)) ∙ sym (ties x z)

      after : (a b : Bool) → is_at q k ≡ a → is_at r k ≡ b → cmp r q ≡ Greater
          → cond a (Some q) (cond b (Some r) (at k rows)) ≡ cond b (Some r) (cond a (Some q) (at k rows))
      after false b f e more = refl
      after true false f e more = refl
      after true true f e more = let same : cmp r q ≡ Equal = met r q k e f in absurd (cc)

      go : (o : Ordering) → cmp r q ≡ o → at k (replace_key cmp rows r) ≡ cond (is_at r k) (Some r) (at k rows)
          → at k (match_ordering o (r ∷ q ∷ rows) (r ∷ rows) (q ∷ replace_key cmp rows r)) ≡ cond (is_at r k) (Some r) (at k (q ∷ rows))
      go Less e more = refl
      go Equal e more = same_key (is_at r k) refl e
      go Greater e more = rw more (after (is_at q k) (is_at r k) refl refl e)

  -- a row that is removed is gone, and the others stay
  pub at_removed : (r k : R) (rows : List R) → at k (filter (λ q. not (is_at q r)) rows) ≡ cond (is_at r k) None (at k rows)
  at_removed r k [] = either (is_at r k) None
    where
      either : (b : Bool) (found : Option R) → found ≡ cond b found found
      either true found = refl
      either false found = refl
  at_removed r k (q ∷ rows) = go (is_at q r) (is_at q k) (is_at r k) refl refl refl (at_removed r k rows)
    where
      go : (a b c : Bool) → is_at q r ≡ a → is_at q k ≡ b → is_at r k ≡ c → at k (filter (λ x. not (is_at x r)) rows) ≡ cond c None (at k rows)
          → at k (cond (not a) (q ∷ filter (λ x. not (is_at x r)) rows) (filter (λ x. not (is_at x r)) rows)) ≡ cond c None (cond b (Some q) (at k rows))
      go true true true qr qk rk more = more
      go true true false qr qk rk more = let here : is_at q k ≡ is_at r k = ties q k ∙ ap is_eq (total.congr q r k (tie q r qr)) ∙ sym (ties r k) in absurd (cc)
      go true false c qr qk rk more = more
      go false true true qr qk rk more = let same : is_at q r ≡ is_at q k = alike q r k rk in absurd (cc)
      go false true false qr qk rk more = rw qk refl
      go false false true qr qk rk more = rw qk more
      go false false false qr qk rk more = rw qk more

  -- the rows that pass a test, in order
  pub all_of : (P : R → Type 0) (p : R → Bool) (rows : List R) → AllByRecursion P rows → AllByRecursion P (filter p rows)
  all_of P p [] h = tt
  all_of P p (r ∷ rows) h = elim (p r) as (λ b. AllByRecursion P (cond b (r ∷ filter p rows) (filter p rows)))
      [ true ↦ (h.0, all_of P p rows h.1) | false ↦ all_of P p rows h.1 ]

  pub in_order_of : (p : R → Bool) (rows : List R) → Ascends before rows → Ascends before (filter p rows)
  in_order_of p [] order = tt
  in_order_of p (r ∷ rows) order = elim (p r) as (λ b. Ascends before (cond b (r ∷ filter p rows) (filter p rows))) [
    | true ↦ (all_of (λ q. before r q ≡ true) p rows order.0, in_order_of p rows order.1)
    | false ↦ in_order_of p rows order.1
  ]

  abbrev pub passing : (R → Bool) → Option R → Option R
  passing p None = None
  passing p (Some r) = cond (p r) (Some r) None

  pub at_passing : (p : R → Bool) (k : R) (rows : List R) → Ascends before rows → at k (filter p rows) ≡ passing p (at k rows)
  at_passing p k [] order = refl
  at_passing p k (r ∷ rows) order = go (p r) (is_at r k) refl refl (at_passing p k rows order.1)
    where
      go : (a b : Bool) → p r ≡ a → is_at r k ≡ b → at k (filter p rows) ≡ passing p (at k rows)
          → at k (cond a (r ∷ filter p rows) (filter p rows)) ≡ passing p (cond b (Some r) (at k rows))
      go true true pr rk more = rw (pr, rk) refl
      go true false pr rk more = rw rk more
      go false true pr rk more = let none : at k rows ≡ None = none_after r k rows rk order.0 in rw (pr, more, none) refl
      go false false pr rk more = more

  -- rows that are removed one after another
  pub at_without : (rs : List R) (k : R) (rows : List R) → at k (without_all is_at rs rows) ≡ cond (is_some (at k rs)) None (at k rows)
  at_without [] k rows = refl
  at_without (r ∷ rs) k rows = at_without rs k (filter (λ q. not (is_at q r)) rows) ∙ rw (at_removed r k rows) (go (is_at r k) (at k rs))
    where
      go : (b : Bool) (found : Option R) → cond (is_some found) None (cond b None (at k rows)) ≡ cond (is_some (cond b (Some r) found)) None (at k rows)
      go true None = refl
      go true (Some q) = refl
      go false None = refl
      go false (Some q) = refl

  -- rows in order that are put one after another
  pub at_with : (rs : List R) (k : R) (rows : List R) → Ascends before rs → at k (with_all cmp rs rows) ≡ option_or (at k rs) (at k rows)
  at_with [] k rows order = refl
  at_with (r ∷ rs) k rows order = at_with rs k (replace_key cmp rows r) order.1 ∙ rw (at_put r k rows) (go (is_at r k) refl)
    where
      go : (b : Bool) → is_at r k ≡ b → option_or (at k rs) (cond b (Some r) (at k rows)) ≡ option_or (cond b (Some r) (at k rs)) (at k rows)
      go true e = rw (none_after r k rs e order.0) refl
      go false e = refl

  -- the order stays
  pub all_put : (P : R → Type 0) (r : R) (rows : List R) → P r → AllByRecursion P rows → AllByRecursion P (replace_key cmp rows r)
  all_put P r [] p h = (p, tt)
  all_put P r (q ∷ rows) p h = go (cmp r q) (all_put P r rows p h.1)
    where
      go : (o : Ordering) → AllByRecursion P (replace_key cmp rows r)
          → AllByRecursion P (match_ordering o (r ∷ q ∷ rows) (r ∷ rows) (q ∷ replace_key cmp rows r))
      go Less more = (p, h)
      go Equal more = (p, h.1)
      go Greater more = (h.0, more)

  raised : (r q : R) (rows : List R) → cmp r q ≡ Less → AllByRecursion (λ x. before q x ≡ true) rows → AllByRecursion (λ x. before r x ≡ true) rows
  raised r q [] less h = tt
  raised r q (x ∷ rows) less h = (ap is_lt (total.trans r q x less (is_less _ h.0)), raised r q rows less h.1)

  levelled : (r q : R) (rows : List R) → cmp r q ≡ Equal → AllByRecursion (λ x. before q x ≡ true) rows → AllByRecursion (λ x. before r x ≡ true) rows
  levelled r q [] compares_equal h = tt
  levelled r q (x ∷ rows) compares_equal h = (ap is_lt (total.congr r q x compares_equal) ∙ h.0, levelled r q rows compares_equal h.1)

  pub put_in_order : (r : R) (rows : List R) → Ascends before rows → Ascends before (replace_key cmp rows r)
  put_in_order r [] order = (tt, tt)
  put_in_order r (q ∷ rows) order = go (cmp r q) refl (put_in_order r rows order.1)
    where
      go : (o : Ordering) → cmp r q ≡ o → Ascends before (replace_key cmp rows r)
          → Ascends before (match_ordering o (r ∷ q ∷ rows) (r ∷ rows) (q ∷ replace_key cmp rows r))
      go Less e more = ((ap is_lt e, raised r q rows e order.0), order)
      go Equal e more = (levelled r q rows e order.0, order.1)
      go Greater e more = (all_put (λ x. before q x ≡ true) r rows (ap is_lt (total.antisymm q r ∙ ap ordering_reverse e)) order.0, more)

  pub without_in_order : (rs rows : List R) → Ascends before rows → Ascends before (without_all is_at rs rows)
  without_in_order [] rows order = order
  without_in_order (r ∷ rs) rows order = without_in_order rs _ (in_order_of (λ q. not (is_at q r)) rows order)

  pub with_in_order : (rs rows : List R) → Ascends before rows → Ascends before (with_all cmp rs rows)
  with_in_order [] rows order = order
  with_in_order (r ∷ rs) rows order = with_in_order rs _ (put_in_order r rows order)

  here_itself : (r : R) → is_at r r ≡ true
  here_itself r = there r r (itself (cmp r r) (total.antisymm r r))
    where
      itself : (o : Ordering) → o ≡ ordering_reverse o → o ≡ Equal
      itself Less e = absurd (cc)
      itself Equal e = refl
      itself Greater e = absurd (cc)

  some_none : (r : R) → Some r ≡ None → ⊥
  some_none r e = cc

  first_is : (r : R) (rows : List R) → at r (r ∷ rows) ≡ Some r
  first_is r rows = ap (λ b. cond b (Some r) (at r rows)) (here_itself r)

  misses : (r q : R) (rows : List R) → cmp r q ≡ Less → AllByRecursion (λ x. before q x ≡ true) rows → at r (q ∷ rows) ≡ None
  misses r q rows less after = ap (λ b. cond b (Some q) (at r rows)) (apart r q r (ap is_lt less) (here_itself r))
      ∙ none_after r r rows (here_itself r) (raised r q rows less after)

  -- lists in order with the same row at each key are the same
  pub same_at_each : (xs ys : List R) → Ascends before xs → Ascends before ys → ((k : R) → at k xs ≡ at k ys) → xs ≡ ys
  same_at_each [] [] ox oy h = refl
  same_at_each [] (y ∷ ys) ox oy h = absurd (some_none y (sym (first_is y ys) ∙ sym (h y)))
  same_at_each (x ∷ xs) [] ox oy h = absurd (some_none x (sym (first_is x xs) ∙ h x))
  same_at_each (x ∷ xs) (y ∷ ys) ox oy h = go (cmp x y) refl (same_at_each xs ys ox.1 oy.1)
    where
      heads : cmp x y ≡ Equal → x ≡ y
      heads e = let s : Some x ≡ Some y = sym (first_is x xs) ∙ h x ∙ ap (λ b. cond b (Some y) (at x ys)) (there y x (tied_back total x y e)) in cc

      tails : cmp x y ≡ Equal → (k : R) (a b : Bool) → is_at x k ≡ a → is_at y k ≡ b → at k xs ≡ at k ys
      tails e k true true xk yk = none_after x k xs xk ox.0 ∙ sym (none_after y k ys yk oy.0)
      tails e k false false xk yk = sym (ap (λ b. cond b (Some x) (at k xs)) xk) ∙ h k ∙ ap (λ b. cond b (Some y) (at k ys)) yk
      tails e k true false xk yk = let same : x ≡ y = heads e in let moved : is_at x k ≡ is_at y k = ap (λ r. is_at r k) same in absurd (cc)
      tails e k false true xk yk = let same : x ≡ y = heads e in let moved : is_at x k ≡ is_at y k = ap (λ r. is_at r k) same in absurd (cc)

      go : (o : Ordering) → cmp x y ≡ o → (((k : R) → at k xs ≡ at k ys) → xs ≡ ys) → x ∷ xs ≡ y ∷ ys
      go Less e more = absurd (some_none x (sym (first_is x xs) ∙ h x ∙ misses x y ys e oy.0))
      go Equal e more = ap₂ (λ r rows. r ∷ rows) (heads e) (more (λ k. tails e k (is_at x k) (is_at y k) refl refl))
      go Greater e more = absurd (some_none y (sym (first_is y ys) ∙ sym (h y) ∙ misses y x xs (total.antisymm y x ∙ ap ordering_reverse e) ox.0))

  -- what is found at a key is at that key, and at each key that ties with it the same is found
  pub found_at : (k r : R) (rows : List R) → at k rows ≡ Some r → is_at r k ≡ true
  found_at k r [] h = absurd (some_none r (sym h))
  found_at k r (q ∷ rows) h = go (is_at q k) refl h (found_at k r rows)
    where
      go : (b : Bool) → is_at q k ≡ b → cond b (Some q) (at k rows) ≡ Some r → (at k rows ≡ Some r → is_at r k ≡ true) → is_at r k ≡ true
      go true e h more = let same : q ≡ r = cc in ap (λ x. is_at x k) (sym same) ∙ e
      go false e h more = more h

  pub at_alike : (r k : R) (rows : List R) → is_at r k ≡ true → at r rows ≡ at k rows
  at_alike r k [] h = refl
  at_alike r k (q ∷ rows) h = ap₂ (λ b found. cond b (Some q) found) (alike q r k h) (at_alike r k rows h)

  -- each row is the one at its key
  pub each_found : (rows : List R) → Ascends before rows → AllByRecursion (λ r. at r rows ≡ Some r) rows
  each_found [] order = tt
  each_found (r ∷ rows) order = (first_is r rows, all_after rows order.0 (each_found rows order.1))
    where
      all_after : (later : List R) → AllByRecursion (λ q. before r q ≡ true) later
          → AllByRecursion (λ q. at q rows ≡ Some q) later → AllByRecursion (λ q. at q (r ∷ rows) ≡ Some q) later
      all_after [] after found = tt
      all_after (q ∷ later) after found = (ap (λ b. cond b (Some r) (at q rows)) (elsewhere r q after.0) ∙ found.0, all_after later after.1 found.1)
        where
          elsewhere : (x y : R) → before x y ≡ true → is_at x y ≡ false
          elsewhere x y less = ties x y ∙ ap is_eq (is_less _ less)

none_pass : {R : Type 0} (P : R → Type 0) (p : R → Bool) → ((r : R) → P r → p r ≡ false) → (rows : List R) → AllByRecursion P rows → filter p rows ≡ []
none_pass P p fails [] all = refl
none_pass P p fails (r ∷ rows) all = rw (fails r all.0) (none_pass P p fails rows all.1)

not_false : (b : Bool) → not b ≡ false → b ≡ true
not_false true h = refl
not_false false h = absurd (cc)

in_both : {R : Type 0} (is_fresh is_gone : Bool) (new old : R) → is_gone ≡ false → (is_fresh ≡ false → old ≡ new)
    → option_or (cond is_fresh (Some new) None) (cond (is_some (cond is_gone (Some old) None)) None (Some old)) ≡ Some new
in_both true is_gone new old stays same = refl
in_both false false new old stays same = ap Some (same refl)
in_both false true new old stays same = absurd (cc)

in_old : {R : Type 0} (is_gone : Bool) (old : R) → is_gone ≡ true → option_or None (cond (is_some (cond is_gone (Some old) None)) None (Some old)) ≡ None
in_old true old goes = refl
in_old false old goes = absurd (cc)

in_new : {R : Type 0} (is_fresh : Bool) (new : R) → is_fresh ≡ true → option_or (cond is_fresh (Some new) None) None ≡ Some new
in_new true new comes = refl
in_new false new comes = absurd (cc)

-- ---- one list becomes another

module _ {R : Type 0} (cmp : R → R → Ordering) (total : IsTotalOrder cmp) (is_at is_same : R → R → Bool)
    (ties : (q r : R) → is_at q r ≡ is_eq (cmp q r)) (same : (q r : R) → is_same q r ≡ true → q ≡ r) where
  abbrev find_at : R → List R → Option R
  find_at k rows = find (λ q. is_at q k) rows

  settled : (k : R) (old new : List R) (n o : Option R) → find_at k new ≡ n → find_at k old ≡ o
      → option_or (passing cmp total is_at ties (λ r. not (as_it_was is_same (find_at r old) r)) n)
      (cond (is_some (passing cmp total is_at ties (λ r. is_none (find_at r new)) o)) None o) ≡ n
  settled k old new None None at_new at_old = refl
  settled k old new None (Some o) at_new at_old =
      let key : is_at o k ≡ true = found_at cmp total is_at ties k o old at_old in
      in_old (is_none (find_at o new)) o (ap is_none (at_alike cmp total is_at ties o k new key ∙ at_new))
  settled k old new (Some n) None at_new at_old =
      let key : is_at n k ≡ true = found_at cmp total is_at ties k n new at_new in
      in_new (not (as_it_was is_same (find_at n old) n)) n (ap (λ z. not (as_it_was is_same z n)) (at_alike cmp total is_at ties n k old key ∙ at_old))
  settled k old new (Some n) (Some o) at_new at_old =
      let new_key : is_at n k ≡ true = found_at cmp total is_at ties k n new at_new in
      let old_key : is_at o k ≡ true = found_at cmp total is_at ties k o old at_old in
      let was : not (as_it_was is_same (find_at n old) n) ≡ not (is_same o n) =
      ap (λ z. not (as_it_was is_same z n)) (at_alike cmp total is_at ties n k old new_key ∙ at_old) in
      in_both (not (as_it_was is_same (find_at n old) n)) (is_none (find_at o new)) n o
      (ap is_none (at_alike cmp total is_at ties o k new old_key ∙ at_new)) (λ stale. same o n (not_false _ (sym was ∙ stale)))

  pub becomes : (old new : List R) → Ascends (λ q r. is_lt (cmp q r)) old → Ascends (λ q r. is_lt (cmp q r)) new
      → with_all cmp (fresh is_at is_same old new) (without_all is_at (gone is_at old new) old) ≡ new
  becomes old new was now = same_at_each cmp total is_at ties _ new
      (with_in_order cmp total is_at ties (fresh is_at is_same old new) _
      (without_in_order cmp total is_at ties (gone is_at old new) old was)) now each
    where
      each : (k : R) → find_at k (with_all cmp (fresh is_at is_same old new) (without_all is_at (gone is_at old new) old)) ≡ find_at k new
      each k =
          let ordered : Ascends (λ q r. is_lt (cmp q r)) (fresh is_at is_same old new) =
          in_order_of cmp total is_at ties (λ r. not (as_it_was is_same (find_at r old) r)) new now in
          at_with cmp total is_at ties (fresh is_at is_same old new) k (without_all is_at (gone is_at old new) old) ordered
          ∙ ap₂ (λ a b. option_or a b)
          (at_passing cmp total is_at ties (λ r. not (as_it_was is_same (find_at r old) r)) k new now)
          (at_without cmp total is_at ties (gone is_at old new) k old
          ∙ ap (λ z. cond (is_some z) None (find_at k old)) (at_passing cmp total is_at ties (λ r. is_none (find_at r new)) k old was))
          ∙ settled k old new (find_at k new) (find_at k old) refl refl

  -- a list does not differ from itself
  pub none_gone : (rows : List R) → Ascends (λ q r. is_lt (cmp q r)) rows → gone is_at rows rows ≡ []
  none_gone rows order = none_pass (λ r. find_at r rows ≡ Some r) (λ r. is_none (find_at r rows))
      (λ r found. ap is_none found) rows (each_found cmp total is_at ties rows order)

  pub none_fresh : ((r : R) → is_same r r ≡ true) → (rows : List R) → Ascends (λ q r. is_lt (cmp q r)) rows → fresh is_at is_same rows rows ≡ []
  none_fresh itself rows order =
      none_pass (λ r. find_at r rows ≡ Some r) (λ r. not (as_it_was is_same (find_at r rows) r))
      (λ r found. ap (λ z. not (as_it_was is_same z r)) found ∙ ap not (itself r)) rows
      (each_found cmp total is_at ties rows order)
