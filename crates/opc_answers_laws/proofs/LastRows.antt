-- The last row of each key is the one in effect.
use Rattle.std.proofs.Common.{
  ◌≡◌,
  ◌⊎◌,
  inl,
  inr,
  ◌+◌,
  ◌||◌,
  ◌&&◌,
  ℕ,
  Bool,
  true,
  false,
  cond,
  zero,
  suc,
  List,
  [],
  ◌∷◌,
  Option,
  Some,
  None,
  refl,
  sym,
  ap,
  subst,
  ◌∙◌,
  arith,
  map,
}
use Rattle.std.specs.List.{Contains}
use Rattle.std.specs.Option.{is_some, option_or}
use Rattle.opc_policy_members.specs.declared.row.Row.{Row}
use Rattle.opc_policy_members.specs.declared.row.Row.TheVariants as rows
use Rattle.opc_machine_laws.proofs.Keys.{class_itself, name_itself, place_itself}
use Rattle.opc_check_notes.specs.declared.numbered.NumberedRow.{NumberedRow}
use Rattle.opc_check_notes.specs.Effect.{in_effect, is_replaced, key_of, same_key}

-- a row, if its key is that of another
abbrev pub as_key : Row → Row → Option Row
as_key q row = cond (same_key (key_of row) (key_of q)) (Some row) None

-- the last of them whose key that is
abbrev pub last_row : Row → List Row → Option Row
last_row q [] = None
last_row q (row ∷ more) = option_or (last_row q more) (as_key q row)

abbrev pub in_order : ℕ → List Row → List Row
in_order n all = map (λ (at : NumberedRow). at.row) (in_effect n all)

two : (a b : Bool) → a ≡ true → b ≡ true → (a && b) ≡ true
two a b one other = ap (λ x. x && b) one ∙ other

key_itself : (q : Row) → same_key (key_of q) (key_of q) ≡ true
key_itself (rows.Class class active) = class_itself class
key_itself (rows.Group name) = name_itself name
key_itself (rows.User user) = name_itself user.id
key_itself (rows.Connect user group) = two _ _ (name_itself user) (name_itself group)
key_itself (rows.Console name auth mode) = name_itself name
key_itself (rows.Profile class pattern uacc owner warning) = two _ _ (class_itself class) (name_itself pattern)
key_itself (rows.Permit class pattern id level when) =
    two _ _ (class_itself class) (two _ _ (name_itself pattern) (two _ _ (name_itself id) (place_itself when)))

split : (y x : Row) (xs : List Row) → Contains (y ∷ xs) x → (y ≡ x) ⊎ Contains xs x
split y x xs (zero, low, is) = inl is
split y x xs (suc k, low, is) = inr (k, omega (arith, low), is)

first : (y x : Row) (xs : List Row) → y ≡ x → Contains (y ∷ xs) x
first y x xs is = (zero, omega arith, is)

later : (y x : Row) (xs : List Row) → Contains xs x → Contains (y ∷ xs) x
later y x xs (k, low, is) = (suc k, omega (arith, low), is)

-- a row is replaced if one of its key comes later
any_last : (q : Row) (more : List Row) → is_some (last_row q more) ≡ is_replaced q more
any_last q [] = refl
any_last q (row ∷ more) = go (same_key (key_of row) (key_of q)) (last_row q more) (any_last q more)
  where
    go : (b : Bool) (o : Option Row) → is_some o ≡ is_replaced q more → is_some (option_or o (cond b (Some row) None)) ≡ (b || is_replaced q more)
    go true None h = refl
    go true (Some r) h = refl
    go false None h = h
    go false (Some r) h = h

nothing : (o : Option Row) (b : Bool) → is_some o ≡ b → b ≡ false → o ≡ None
nothing None b h differs = refl
nothing (Some r) b h differs = absurd (cc)

none_later : (q : Row) (more : List Row) → is_replaced q more ≡ false → last_row q more ≡ None
none_later q more differs = nothing (last_row q more) (is_replaced q more) (any_last q more) differs

itself : (q : Row) → as_key q q ≡ Some q
itself q = ap (λ b. cond b (Some q) None) (key_itself q)

here : (q row : Row) (more : List Row) → row ≡ q → is_replaced row more ≡ false → last_row q (row ∷ more) ≡ Some q
here q row more same differs =
    ap (λ o. option_or o (as_key q row)) (none_later q more (subst (λ r. is_replaced r more ≡ false) same differs))
    ∙ (ap (as_key q) same ∙ itself q)

pub in_last : (q : Row) (n : ℕ) (all : List Row) → Contains (in_order n all) q → last_row q all ≡ Some q
in_last q n [] (k, low, is) = absurd (omega (arith, low))
in_last q n (row ∷ more) h = go (is_replaced row more) refl (λ rest. ap (λ o. option_or o (as_key q row)) (in_last q (n + 1) more rest)) h
  where
    among : Bool → List Row
    among b = map (λ (at : NumberedRow). at.row) (cond b (in_effect (n + 1) more) (record { number = n; row = row } ∷ in_effect (n + 1) more))

    parts : is_replaced row more ≡ false → (Contains (in_order (n + 1) more) q → last_row q (row ∷ more) ≡ Some q)
        → (row ≡ q) ⊎ Contains (in_order (n + 1) more) q → last_row q (row ∷ more) ≡ Some q
    parts differs next (inl same) = here q row more same differs
    parts differs next (inr rest) = next rest

    go : (b : Bool) → is_replaced row more ≡ b → (Contains (in_order (n + 1) more) q → last_row q (row ∷ more) ≡ Some q)
        → Contains (among b) q → last_row q (row ∷ more) ≡ Some q
    go true is next rest = next rest
    go false is next rest = parts is next (split row q (in_order (n + 1) more) rest)

given_back : (b : Bool) (row q : Row) → ◌≡◌ {A = Option Row} (cond b (Some row) None) (Some q) → row ≡ q
given_back true row q h = let same : row ≡ q = cc in same
given_back false row q h = absurd (cc)

pub last_in : (q : Row) (n : ℕ) (all : List Row) → last_row q all ≡ Some q → Contains (in_order n all) q
last_in q n [] h = absurd (cc)
last_in q n (row ∷ more) h = go (last_row q more) refl (λ at. last_in q (n + 1) more at) h
  where
    among : Bool → List Row
    among b = map (λ (at : NumberedRow). at.row) (cond b (in_effect (n + 1) more) (record { number = n; row = row } ∷ in_effect (n + 1) more))

    rest : (b : Bool) → Contains (in_order (n + 1) more) q → Contains (among b) q
    rest true there = there
    rest false there = later row q (in_order (n + 1) more) there

    once : (b : Bool) → b ≡ false → row ≡ q → Contains (among b) q
    once true differs same = absurd (cc)
    once false differs same = first row q (in_order (n + 1) more) same

    go : (o : Option Row) → last_row q more ≡ o → (last_row q more ≡ Some q → Contains (in_order (n + 1) more) q)
        → option_or o (as_key q row) ≡ Some q → Contains (among (is_replaced row more)) q
    go (Some r) at next is = rest (is_replaced row more) (next (at ∙ is))
    go None at next is =
        let same : row ≡ q = given_back (same_key (key_of row) (key_of q)) row q is in
        let differs : is_replaced row more ≡ false = subst (λ r. is_replaced r more ≡ false) (sym same) (sym (any_last q more) ∙ ap is_some at) in
        once (is_replaced row more) differs same
