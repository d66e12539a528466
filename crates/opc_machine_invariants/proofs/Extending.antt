-- Policies that have all users and groups of another, and what lists with one element more or fewer have.
use Rattle.std.proofs.Common.{
  ◌≡◌,
  ℕ,
  Bool,
  true,
  false,
  not,
  ◌||◌,
  if◌then◌else◌,
  List,
  [],
  ◌∷◌,
  Option,
  Some,
  None,
  refl,
  sym,
  ap,
  ◌∙◌,
  codes,
  filter,
  rules,
  IfSome,
  is_eq,
}
use Rattle.std.specs.BTreeSet.{insert_key, replace_key}
use Rattle.std.specs.List.{AllByRecursion, find, list_any}
use Rattle.std.specs.Option.{is_some}
use Rattle.std.specs.Ordering.{match_ordering}
use Rattle.std.specs.Str.{bytes_eq}
use Rattle.std.specs.Cmp.Lexicographic.{texts_ties}
use Rattle.std.specs.declared.cmp.Ordering.{Ordering}
use Rattle.std.specs.declared.cmp.Ordering.TheVariants.{Less, Equal, Greater}
use Rattle.std.proofs.lemmas.Slice.Eq.{bytes_eq-Decides}
use Rattle.opc_policy_members.specs.declared.connect.Connect.{Connect}
use Rattle.opc_policy_members.specs.declared.policy.Policy.{Policy}
use Rattle.opc_policy_members.specs.declared.profile.Profile.{Profile}
use Rattle.opc_policy_members.specs.Members.{name_cmp}
use Rattle.opc_policy_members.specs.Taken.{has_group, has_holder, has_user}
use Rattle.opc_rows.proofs.Orders.{all_weaker}
use Rattle.opc_board.specs.declared.board.BoardRows.{BoardRows}
use Rattle.opc_board.proofs.Names.{is_mirrored}
use Rattle.opc_state.specs.Invariants.{IsConnectOfStored, IsConsoleOfStored, IsEntryOfStored, IsProfileOfStored}
use Rattle.opc_machine_invariants.proofs.Boards.{IsKeptBoard}

-- lists with one more

pub all_inserted : {K : Type 0} (P : K → Type 0) (cmp : K → K → Ordering) (k : K) (xs : List K) → P k
    → AllByRecursion P xs → AllByRecursion P (insert_key cmp xs k)
all_inserted P cmp k [] here all = (here, tt)
all_inserted {K} P cmp k (x ∷ xs) here all = go (cmp k x) (all_inserted P cmp k xs here all.1)
  where
    go : (o : Ordering) → AllByRecursion P (insert_key cmp xs k) → AllByRecursion P (match_ordering o (k ∷ x ∷ xs) (x ∷ xs) (x ∷ insert_key cmp xs k))
    go Less later = (here, (all.0, all.1))
    go Equal later = all
    go Greater later = (all.0, later)

pub all_replaced : {K : Type 0} (P : K → Type 0) (cmp : K → K → Ordering) (k : K) (xs : List K) → P k
    → AllByRecursion P xs → AllByRecursion P (replace_key cmp xs k)
all_replaced P cmp k [] here all = (here, tt)
all_replaced {K} P cmp k (x ∷ xs) here all = go (cmp k x) (all_replaced P cmp k xs here all.1)
  where
    go : (o : Ordering) → AllByRecursion P (replace_key cmp xs k) → AllByRecursion P (match_ordering o (k ∷ x ∷ xs) (k ∷ xs) (x ∷ replace_key cmp xs k))
    go Less later = (here, (all.0, all.1))
    go Equal later = (here, all.1)
    go Greater later = (all.0, later)

pub all_both : {K : Type 0} (P Q : K → Type 0) (xs : List K) → AllByRecursion P xs → AllByRecursion Q xs → AllByRecursion (λ x. P x × Q x) xs
all_both P Q [] one other = tt
all_both P Q (x ∷ xs) one other = ((one.0, other.0), all_both P Q xs one.1 other.1)

pub or_true : (a : Bool) → (a || true) ≡ true
or_true true = refl
or_true false = refl

pub or_left : (a b : Bool) → (a || b) ≡ false → a ≡ false
or_left true b h = h
or_left false b h = refl

pub or_right : (a b : Bool) → (a || b) ≡ false → b ≡ false
or_right true b h = absurd (search (rules, h))
or_right false b h = h

-- a user that is put is found by its name, and otherwise the others are
pub some_replaced : {K : Type 0} (cmp : K → K → Ordering) (test : K → Bool) (k : K) (xs : List K)
    → ((x : K) → cmp k x ≡ Equal → test x ≡ test k)
    → is_some (find test (replace_key cmp xs k)) ≡ (test k || is_some (find test xs))
some_replaced {K} cmp test k [] ties = go (test k)
  where
    go : (a : Bool) → is_some (let o : Option K = if a then Some k else None in o) ≡ (a || false)
    go true = refl
    go false = refl
some_replaced {K} cmp test k (x ∷ xs) ties = go (cmp k x) refl (some_replaced cmp test k xs ties)
  where
    first : (a : Bool) (others : Option K) → is_some (if a then Some k else others) ≡ (a || is_some others)
    first true others = refl
    first false others = refl

    compares_equal : (a b : Bool) → b ≡ a → is_some (if a then Some k else find test xs) ≡ (a || is_some (if b then Some x else find test xs))
    compares_equal true b same = refl
    compares_equal false b same = sym (ap (λ (t : Bool). is_some (if t then Some x else find test xs)) same)

    after : (a : Bool) → is_some (find test (replace_key cmp xs k)) ≡ (test k || is_some (find test xs))
        → is_some (if a then Some x else find test (replace_key cmp xs k)) ≡ (test k
        || is_some (if a then Some x else find test xs))
    after true later = sym (or_true (test k))
    after false later = later

    go : (o : Ordering) → cmp k x ≡ o → is_some (find test (replace_key cmp xs k)) ≡ (test k || is_some (find test xs))
        → is_some (find test (match_ordering o (k ∷ x ∷ xs) (k ∷ xs) (x ∷ replace_key cmp xs k))) ≡ (test k
        || is_some (if test x then Some x else find test xs))
    go Less same later = first (test k) (if test x then Some x else find test xs)
    go Equal same later = compares_equal (test k) (test x) (ties x same)
    go Greater same later = after (test x) later

-- one that is inserted leaves the others
pub any_inserted : {K : Type 0} (cmp : K → K → Ordering) (test : K → Bool) (k : K) (xs : List K) → list_any test xs ≡ true
    → list_any test (insert_key cmp xs k) ≡ true
any_inserted cmp test k [] there = absurd (search (rules, there))
any_inserted {K} cmp test k (x ∷ xs) there = go (cmp k x) (any_inserted cmp test k xs)
  where
    after : (a : Bool) → (list_any test xs ≡ true → list_any test (insert_key cmp xs k) ≡ true)
        → (a || list_any test xs) ≡ true → (a || list_any test (insert_key cmp xs k)) ≡ true
    after true later h = refl
    after false later h = later h

    go : (o : Ordering) → (list_any test xs ≡ true → list_any test (insert_key cmp xs k) ≡ true)
        → list_any test (match_ordering o (k ∷ x ∷ xs) (x ∷ xs) (x ∷ insert_key cmp xs k)) ≡ true
    go Less later = ap (λ b. test k || b) there ∙ or_true (test k)
    go Equal later = there
    go Greater later = after (test x) later there

-- fewer are found among fewer
pub fewer_found : {K : Type 0} (test keep : K → Bool) (xs : List K) → is_some (find test xs) ≡ false → is_some (find test (filter keep xs)) ≡ false
fewer_found test keep [] none = refl
fewer_found {K} test keep (x ∷ xs) none = go (keep x) (test x) refl none (fewer_found test keep xs)
  where
    go : (b a : Bool) → test x ≡ a → is_some (if a then Some x else find test xs) ≡ false
        → (is_some (find test xs) ≡ false → is_some (find test (filter keep xs)) ≡ false)
        → is_some (find test (if b then x ∷ filter keep xs else filter keep xs)) ≡ false
    go b true so h later = absurd (search (rules, h))
    go true false so h later = ap (λ (t : Bool). is_some (if t then Some x else find test (filter keep xs))) so ∙ later h
    go false false so h later = later h

-- if no element passes a test, what holds of those that do not holds of all
pub all_unless : {K : Type 0} (test : K → Bool) (P Q : K → Type 0) → ((x : K) → test x ≡ false → P x → Q x) → (xs : List K)
    → list_any test xs ≡ false → AllByRecursion P xs → AllByRecursion Q xs
all_unless test P Q turns [] none all = tt
all_unless test P Q turns (x ∷ xs) none all = (
  turns x (or_left (test x) (list_any test xs) none) all.0,
  all_unless test P Q turns xs (or_right (test x) (list_any test xs) none) all.1,
)

-- names

pub same_name : (a b : List ℕ) → bytes_eq a b ≡ true → a ≡ b
same_name a b h = (bytes_eq-Decides a b).0 h

pub tied_names : (a b : List ℕ) → name_cmp a b ≡ Equal → a ≡ b
tied_names a b h = same_name a b (texts_ties a b ∙ ap is_eq h)

-- a name that is not among some is none of them
pub none_named : (name : List ℕ) (names : List (List ℕ)) → list_any (bytes_eq name) names ≡ false
    → AllByRecursion (λ (g : List ℕ). bytes_eq g name ≡ false) names
none_named name [] none = tt
none_named name (g ∷ names) none = (
  is_mirrored name g (or_left (bytes_eq name g) (list_any (bytes_eq name) names) none),
  none_named name names (or_right (bytes_eq name g) (list_any (bytes_eq name) names) none),
)

pub either_on : (a b c b' c' : Bool) → (b ≡ true → b' ≡ true) → (c ≡ true → c' ≡ true) → (a || b || c) ≡ true → (a || b' || c') ≡ true
either_on true b c b' c' one other h = refl
either_on false true c b' c' one other h = ap (λ x. x || c') (one refl)
either_on false false c b' c' one other h = ap (λ x. b' || x) (other h) ∙ or_true b'

-- all users and groups of one policy are another's
pub record Extends (p q : Policy) : Type 0 where
  pub users : (id : List ℕ) → has_user p id ≡ true → has_user q id ≡ true
  pub groups : (name : List ℕ) → has_group p name ≡ true → has_group q name ≡ true

pub extends_itself : (p : Policy) → Extends p p
extends_itself p = record { users = λ id h. h; groups = λ name h. h }

pub extends_on : (p q r : Policy) → Extends p q → Extends q r → Extends p r
extends_on p q r one other = record { users = λ id h. other.users id (one.users id h); groups = λ name h. other.groups name (one.groups name h) }

pub connects_on : (p q : Policy) → Extends p q → (connects : List Connect) → AllByRecursion (IsConnectOfStored p) connects
    → AllByRecursion (IsConnectOfStored q) connects
connects_on p q e connects all = all_weaker (IsConnectOfStored p) (IsConnectOfStored q) (λ c h. (e.users c.user h.0, e.groups c.group h.1)) connects all

pub holder_on : (p q : Policy) → Extends p q → (id : List ℕ) → has_holder p id ≡ true → has_holder q id ≡ true
holder_on p q e id h = either_on (bytes_eq id (codes "*")) (has_user p id) (has_group p id) (has_user q id) (has_group q id) (e.users id) (e.groups id) h

pub profiles_on : (p q : Policy) → Extends p q → (profiles : List Profile) → AllByRecursion (IsProfileOfStored p) profiles
    → AllByRecursion (IsProfileOfStored q) profiles
profiles_on p q e profiles all = all_weaker (IsProfileOfStored p) (IsProfileOfStored q)
    (λ x h. (
      e.users x.owner h.0,
      all_weaker (IsEntryOfStored p) (IsEntryOfStored q)
          (λ entry k. holder_on p q e entry.id k) x.entries h.1,
    )) profiles all

pub user_on : (p q : Policy) → Extends p q → (user : Option (List ℕ)) → IfSome user (λ id. has_user p id ≡ true) → IfSome user (λ id. has_user q id ≡ true)
user_on p q e None h = tt
user_on p q e (Some id) h = e.users id h

pub board_on : (p q : Policy) → Extends p q → (b : BoardRows) → IsKeptBoard p b → IsKeptBoard q b
board_on p q e b kept = (kept.0, all_weaker (IsConsoleOfStored p) (IsConsoleOfStored q) (λ c h. user_on p q e c.user h) b.consoles kept.1)
