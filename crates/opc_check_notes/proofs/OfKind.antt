-- What rows of one kind alone give is found among these.
use Rattle.std.proofs.Common.{◌≡◌, ℕ, Bool, true, false, cond, ◌||◌, List, [], ◌∷◌, Option, None, filter, length, refl, sym, ap, ◌∙◌}
use Rattle.std.specs.Prelude.{count_by, filter_map, is_some}
use Rattle.std.specs.BTreeMap.{BTreeMap}
use Rattle.std.specs.List.{cons_option, list_any}
use Rattle.std.specs.Option.{option_or}
use Rattle.std.proofs.lemmas.List.Sums.{length-filter}
use Rattle.opc_policy_members.specs.declared.row.Row.{Row}
use Rattle.opc_policy_members.specs.declared.row.Row.TheVariants as rows
use Rattle.opc_check_notes.specs.declared.connects.Side.{Side}
use Rattle.opc_check_notes.specs.declared.connects.Side.TheVariants as side
use Rattle.opc_import.specs.declared.kind.Kind.TheVariants as kind
use Rattle.opc_check_notes.specs.declared.names.Given.{Given}
use Rattle.opc_check_notes.specs.declared.names.Given.TheVariants as given
use Rattle.opc_check_notes.specs.declared.numbered.NumberedRow.{NumberedRow}
use Rattle.opc_check_notes.specs.Connects.{pair, pairs}
use Rattle.opc_check_notes.specs.Digests.{HasDigests, digest_at}
use Rattle.opc_check_notes.specs.Entries.{all_placed, placed}
use Rattle.opc_check_notes.specs.First.{first_of, paired}
use Rattle.opc_check_notes.specs.Kinds.{is_of, of_kind}
use Rattle.opc_check_notes.specs.Named.{count, giving, named}

-- ---- what fails a test gives nothing

module _ {A : Type 0} (test : A → Bool) where
  pub others_give_none : {B : Type 0} (f : A → Option B) → ((x : A) → test x ≡ false → f x ≡ None) → (xs : List A)
      → filter_map f (filter test xs) ≡ filter_map f xs
  others_give_none f none [] = refl
  others_give_none f none (x ∷ xs) = go (test x) refl (others_give_none f none xs)
    where
      go : (b : Bool) → test x ≡ b → filter_map f (filter test xs) ≡ filter_map f xs
          → filter_map f (cond b (x ∷ filter test xs) (filter test xs)) ≡ cons_option (f x) (filter_map f xs)
      go true is more = ap (cons_option (f x)) more
      go false is more = more ∙ sym (ap (λ o. cons_option o (filter_map f xs)) (none x is))

  pub others_fail : (p : A → Bool) → ((x : A) → test x ≡ false → p x ≡ false) → (xs : List A)
      → list_any p (filter test xs) ≡ list_any p xs
  others_fail p fails [] = refl
  others_fail p fails (x ∷ xs) = go (test x) refl (others_fail p fails xs)
    where
      go : (b : Bool) → test x ≡ b → list_any p (filter test xs) ≡ list_any p xs
          → list_any p (cond b (x ∷ filter test xs) (filter test xs)) ≡ (p x || list_any p xs)
      go true is more = ap (λ t. p x || t) more
      go false is more = more ∙ sym (ap (λ t. t || list_any p xs) (fails x is))

  others_left_out : (p : A → Bool) → ((x : A) → test x ≡ false → p x ≡ false) → (xs : List A) → filter p (filter test xs) ≡ filter p xs
  others_left_out p fails [] = refl
  others_left_out p fails (x ∷ xs) = go (test x) refl (others_left_out p fails xs)
    where
      go : (b : Bool) → test x ≡ b → filter p (filter test xs) ≡ filter p xs
          → filter p (cond b (x ∷ filter test xs) (filter test xs)) ≡ cond (p x) (x ∷ filter p xs) (filter p xs)
      go true is more = ap (λ l. cond (p x) (x ∷ l) l) more
      go false is more = more ∙ sym (ap (λ t. cond t (x ∷ filter p xs) (filter p xs)) (fails x is))

  pub others_uncounted : (p : A → Bool) → ((x : A) → test x ≡ false → p x ≡ false) → (xs : List A)
      → count_by p (filter test xs) ≡ count_by p xs
  others_uncounted p fails xs = sym (length-filter p (filter test xs)) ∙ ap length (others_left_out p fails xs) ∙ length-filter p xs

-- ---- a row of another kind gives no such name

named_none : (given : Given) (row : Row) → is_of (giving given) row ≡ false → named given row ≡ None
named_none given.User (rows.Class class active) h = refl
named_none given.User (rows.Group name) h = refl
named_none given.User (rows.User user) h = absurd (cc)
named_none given.User (rows.Connect user group) h = refl
named_none given.User (rows.Console name auth mode) h = refl
named_none given.User (rows.Profile class pattern uacc owner warning) h = refl
named_none given.User (rows.Permit class pattern id level when) h = refl
named_none given.Revoked (rows.Class class active) h = refl
named_none given.Revoked (rows.Group name) h = refl
named_none given.Revoked (rows.User user) h = absurd (cc)
named_none given.Revoked (rows.Connect user group) h = refl
named_none given.Revoked (rows.Console name auth mode) h = refl
named_none given.Revoked (rows.Profile class pattern uacc owner warning) h = refl
named_none given.Revoked (rows.Permit class pattern id level when) h = refl
named_none given.Special (rows.Class class active) h = refl
named_none given.Special (rows.Group name) h = refl
named_none given.Special (rows.User user) h = absurd (cc)
named_none given.Special (rows.Connect user group) h = refl
named_none given.Special (rows.Console name auth mode) h = refl
named_none given.Special (rows.Profile class pattern uacc owner warning) h = refl
named_none given.Special (rows.Permit class pattern id level when) h = refl
named_none given.Auditor (rows.Class class active) h = refl
named_none given.Auditor (rows.Group name) h = refl
named_none given.Auditor (rows.User user) h = absurd (cc)
named_none given.Auditor (rows.Connect user group) h = refl
named_none given.Auditor (rows.Console name auth mode) h = refl
named_none given.Auditor (rows.Profile class pattern uacc owner warning) h = refl
named_none given.Auditor (rows.Permit class pattern id level when) h = refl
named_none given.ConnectedUser (rows.Class class active) h = refl
named_none given.ConnectedUser (rows.Group name) h = refl
named_none given.ConnectedUser (rows.User user) h = refl
named_none given.ConnectedUser (rows.Connect user group) h = absurd (cc)
named_none given.ConnectedUser (rows.Console name auth mode) h = refl
named_none given.ConnectedUser (rows.Profile class pattern uacc owner warning) h = refl
named_none given.ConnectedUser (rows.Permit class pattern id level when) h = refl
named_none given.ConnectedGroup (rows.Class class active) h = refl
named_none given.ConnectedGroup (rows.Group name) h = refl
named_none given.ConnectedGroup (rows.User user) h = refl
named_none given.ConnectedGroup (rows.Connect user group) h = absurd (cc)
named_none given.ConnectedGroup (rows.Console name auth mode) h = refl
named_none given.ConnectedGroup (rows.Profile class pattern uacc owner warning) h = refl
named_none given.ConnectedGroup (rows.Permit class pattern id level when) h = refl
named_none given.Group (rows.Class class active) h = refl
named_none given.Group (rows.Group name) h = absurd (cc)
named_none given.Group (rows.User user) h = refl
named_none given.Group (rows.Connect user group) h = refl
named_none given.Group (rows.Console name auth mode) h = refl
named_none given.Group (rows.Profile class pattern uacc owner warning) h = refl
named_none given.Group (rows.Permit class pattern id level when) h = refl
named_none given.Holder (rows.Class class active) h = refl
named_none given.Holder (rows.Group name) h = refl
named_none given.Holder (rows.User user) h = refl
named_none given.Holder (rows.Connect user group) h = refl
named_none given.Holder (rows.Console name auth mode) h = refl
named_none given.Holder (rows.Profile class pattern uacc owner warning) h = refl
named_none given.Holder (rows.Permit class pattern id level when) h = absurd (cc)
named_none given.MasterConsole (rows.Class class active) h = refl
named_none given.MasterConsole (rows.Group name) h = refl
named_none given.MasterConsole (rows.User user) h = refl
named_none given.MasterConsole (rows.Connect user group) h = refl
named_none given.MasterConsole (rows.Console name auth mode) h = absurd (cc)
named_none given.MasterConsole (rows.Profile class pattern uacc owner warning) h = refl
named_none given.MasterConsole (rows.Permit class pattern id level when) h = refl
named_none given.AutoConsole (rows.Class class active) h = refl
named_none given.AutoConsole (rows.Group name) h = refl
named_none given.AutoConsole (rows.User user) h = refl
named_none given.AutoConsole (rows.Connect user group) h = refl
named_none given.AutoConsole (rows.Console name auth mode) h = absurd (cc)
named_none given.AutoConsole (rows.Profile class pattern uacc owner warning) h = refl
named_none given.AutoConsole (rows.Permit class pattern id level when) h = refl

pub named_of : (list : List NumberedRow) (given : Given)
    → filter_map (λ (at : NumberedRow). named given at.row) (of_kind list (giving given)) ≡ filter_map (λ (at : NumberedRow). named given at.row) list
named_of list given =
    others_give_none (λ (at : NumberedRow). is_of (giving given) at.row) (λ (at : NumberedRow). named given at.row)
    (λ at. named_none given at.row) list

pub counted_of : (list : List NumberedRow) (given : Given) → count (of_kind list (giving given)) given ≡ count list given
counted_of list given =
    others_uncounted (λ (at : NumberedRow). is_of (giving given) at.row) (λ (at : NumberedRow). is_some (named given at.row))
    (λ at h. ap is_some (named_none given at.row h)) list

-- ---- nor has it another digest, two ids of a connect, or a place

pub digest_none : (row : Row) → is_of kind.User row ≡ false → digest_at row ≡ None
digest_none (rows.Class class active) h = refl
digest_none (rows.Group name) h = refl
digest_none (rows.User user) h = absurd (cc)
digest_none (rows.Connect user group) h = refl
digest_none (rows.Console name auth mode) h = refl
digest_none (rows.Profile class pattern uacc owner warning) h = refl
digest_none (rows.Permit class pattern id level when) h = refl

pub pair_none : (side : Side) (row : Row) → is_of kind.Connect row ≡ false → pair side row ≡ None
pair_none side.User (rows.Class class active) h = refl
pair_none side.User (rows.Group name) h = refl
pair_none side.User (rows.User user) h = refl
pair_none side.User (rows.Connect user group) h = absurd (cc)
pair_none side.User (rows.Console name auth mode) h = refl
pair_none side.User (rows.Profile class pattern uacc owner warning) h = refl
pair_none side.User (rows.Permit class pattern id level when) h = refl
pair_none side.Group (rows.Class class active) h = refl
pair_none side.Group (rows.Group name) h = refl
pair_none side.Group (rows.User user) h = refl
pair_none side.Group (rows.Connect user group) h = absurd (cc)
pair_none side.Group (rows.Console name auth mode) h = refl
pair_none side.Group (rows.Profile class pattern uacc owner warning) h = refl
pair_none side.Group (rows.Permit class pattern id level when) h = refl

pub placed_none : (list : List NumberedRow) (row : Row) → is_of kind.Permit row ≡ false → placed list row ≡ None
placed_none list (rows.Class class active) h = refl
placed_none list (rows.Group name) h = refl
placed_none list (rows.User user) h = refl
placed_none list (rows.Connect user group) h = refl
placed_none list (rows.Console name auth mode) h = refl
placed_none list (rows.Profile class pattern uacc owner warning) h = refl
placed_none list (rows.Permit class pattern id level when) h = absurd (cc)

-- ---- so these are found among all rows

pub pairs_of : (list : List NumberedRow) (side : Side) → filter_map (λ (at : NumberedRow). pair side at.row) (of_kind list kind.Connect) ≡ pairs list side
pairs_of list side =
    others_give_none (λ (at : NumberedRow). is_of kind.Connect at.row) (λ (at : NumberedRow). pair side at.row)
    (λ at. pair_none side at.row) list

pub placed_of : (list : List NumberedRow) → filter_map (λ (at : NumberedRow). placed list at.row) (of_kind list kind.Permit) ≡ all_placed list
placed_of list =
    others_give_none (λ (at : NumberedRow). is_of kind.Permit at.row) (λ (at : NumberedRow). placed list at.row)
    (λ at. placed_none list at.row) list

first_of_users : (f : NumberedRow → Option (List ℕ)) → ((at : NumberedRow) → is_of kind.User at.row ≡ false → f at ≡ None)
    → (list : List NumberedRow) → first_of f (of_kind list kind.User) ≡ first_of f list
first_of_users f none [] = refl
first_of_users f none (x ∷ xs) = go (is_of kind.User x.row) refl (first_of_users f none xs)
  where
    go : (b : Bool) → is_of kind.User x.row ≡ b → first_of f (of_kind xs kind.User) ≡ first_of f xs
        → first_of f (cond b (x ∷ of_kind xs kind.User) (of_kind xs kind.User)) ≡ option_or (f x) (first_of f xs)
    go true is more = ap (option_or (f x)) more
    go false is more = more ∙ sym (ap (λ o. option_or o (first_of f xs)) (none x is))

pub digests_of : (list : List NumberedRow) (digests : BTreeMap (List ℕ) (List ℕ)) → HasDigests (of_kind list kind.User) digests
    → HasDigests list digests
digests_of list digests has digest =
    has digest ∙ first_of_users (λ (at : NumberedRow). paired digest (digest_at at.row))
    (λ at h. ap (paired digest) (digest_none at.row h)) list
