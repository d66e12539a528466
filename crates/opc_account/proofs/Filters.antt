-- What a filter means, and from which row on.
use Rattle.std.proofs.Common.{◌≡◌, ◌≤◌, ◌&&◌, ℕ, Bool, true, List, Option, Some, None, IfSome, nat_le, refl, ap, ◌∙◌, arith}
use Rattle.std.specs.Borrow.{Bor}
use Rattle.std.specs.Option.{option_map_or}
use Rattle.std.proofs.lemmas.Bool.{and_parts}
use Rattle.std.proofs.lemmas.Bool.Decides.{nat_tests}
use Rattle.std.proofs.lemmas.Slice.Eq.{bytes_eq-Decides}
use Rattle.opc_state.specs.declared.account.AccountRow.{AccountRow}
use Rattle.opc_account.specs.Codes.{is_among}
use Rattle.opc_account.specs.Filters.{is_code, is_wanted, is_within, meets}
use Rattle.opc_account.specs.Laws.{CodesMeanSo, FiltersMeanSo, IsMet, RowsAreCountedSo}
use Rattle.opc_account.specs.declared.filter.Filter.{Filter}

both : (a b : Bool) → a ≡ true → b ≡ true → (a && b) ≡ true
both a b g h = ap (λ x. x && b) g ∙ h

at_most : (a b : ℕ) → nat_le a b ≡ true → a ≤ b
at_most a b h = grind (arith, nat_tests, h)

tested : (a b : ℕ) → a ≤ b → nat_le a b ≡ true
tested a b h = grind (arith, nat_tests, h)

module _ (m : ℕ) where
  since : (o : Option ℕ) → option_map_or (λ first. nat_le first m) o true ≡ true → IfSome o (λ first. first ≤ m)
  since None h = tt
  since (Some x) h = at_most x m h

  since_back : (o : Option ℕ) → IfSome o (λ first. first ≤ m) → option_map_or (λ first. nat_le first m) o true ≡ true
  since_back None h = refl
  since_back (Some x) h = tested x m h

  until : (o : Option ℕ) → option_map_or (λ last. nat_le m last) o true ≡ true → IfSome o (λ last. m ≤ last)
  until None h = tt
  until (Some x) h = at_most m x h

  until_back : (o : Option ℕ) → IfSome o (λ last. m ≤ last) → option_map_or (λ last. nat_le m last) o true ≡ true
  until_back None h = refl
  until_back (Some x) h = tested m x h

wanted : (o : Option (Bor (List ℕ))) (text : List ℕ) → is_wanted o text ≡ true → IfSome o (λ (w : Bor (List ℕ)). text ≡ w.now)
wanted None text h = tt
wanted (Some w) text h = (bytes_eq-Decides text w.now).0 h

wanted_back : (o : Option (Bor (List ℕ))) (text : List ℕ) → IfSome o (λ (w : Bor (List ℕ)). text ≡ w.now) → is_wanted o text ≡ true
wanted_back None text h = refl
wanted_back (Some w) text h = (bytes_eq-Decides text w.now).1 h

coded : (o : Option (Bor (List ℕ))) (code : List ℕ) → is_code o code ≡ true → IfSome o (λ (w : Bor (List ℕ)). is_among w.now code ≡ true)
coded None code h = tt
coded (Some w) code h = h

coded_back : (o : Option (Bor (List ℕ))) (code : List ℕ) → IfSome o (λ (w : Bor (List ℕ)). is_among w.now code ≡ true) → is_code o code ≡ true
coded_back None code h = refl
coded_back (Some w) code h = h

module _ (f : Filter) (row : AccountRow) where
  abbrev since_ok : Bool
  since_ok = option_map_or (λ first. nat_le first row.moment) f.since true

  abbrev until_ok : Bool
  until_ok = option_map_or (λ last. nat_le row.moment last) f.until true

  abbrev within_ok : Bool
  within_ok = is_within f.since f.until row.moment

  abbrev user_ok : Bool
  user_ok = is_wanted f.user row.user

  abbrev console_ok : Bool
  console_ok = is_wanted f.console row.console

  abbrev code_ok : Bool
  code_ok = is_code f.codes row.code

  met : meets f row ≡ true → IsMet f row
  met h =
      let one = and_parts (within_ok && user_ok && console_ok) code_ok h in
      let two = and_parts (within_ok && user_ok) console_ok one.0 in
      let three = and_parts within_ok user_ok two.0 in
      let four = and_parts since_ok until_ok three.0 in
      record {
        since = since row.moment f.since four.0;
        until = until row.moment f.until four.1;
        user = wanted f.user row.user three.1;
        console = wanted f.console row.console two.1;
        code = coded f.codes row.code one.1;
      }

  back : IsMet f row → meets f row ≡ true
  back m = both (within_ok && user_ok && console_ok) code_ok
      (both (within_ok && user_ok) console_ok
      (both within_ok user_ok
      (both since_ok until_ok (since_back row.moment f.since m.since) (until_back row.moment f.until m.until))
      (wanted_back f.user row.user m.user)) (wanted_back f.console row.console m.console))
      (coded_back f.codes row.code m.code)

pub filters : FiltersMeanSo
filters f row = (met f row, back f row)

pub codes_mean : CodesMeanSo
codes_mean = record {
  these = (refl, (refl, (refl, (refl, (refl, tt)))));
  not_those = (refl, (refl, (refl, (refl, (refl, (refl, tt))))));
}

pub rows_counted : RowsAreCountedSo
rows_counted account number some = record {
  last = λ n. (λ h. omega (arith, h, some), λ h. omega (arith, h, some));
  from = λ n. (λ h. omega (arith, h, some), λ h. omega (arith, h, some));
}
