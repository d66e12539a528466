-- What is known of the flags stays right.
use Rattle.std.proofs.Common.{
  ◌≡◌,
  ◌∙◌,
  Bool,
  true,
  false,
  cond,
  ◌||◌,
  IfSome,
  List,
  [],
  ◌∷◌,
  Option,
  Some,
  None,
  refl,
  sym,
  ap,
  subst,
  rules,
}
use Rattle.std.specs.List.{list_any}
use Rattle.opc_names.specs.declared.class.Class.{Class}
use Rattle.opc_names.specs.declared.class.Class.TheVariants.{Console, Opercmds}
use Rattle.opc_policy_members.specs.declared.policy.ActiveClasses.{ActiveClasses}
use Rattle.opc_policy_members.specs.Taken.{is_active}
use Rattle.opc_state.specs.declared.account.AccountRow.{AccountRow}
use Rattle.opc_state.specs.declared.change.Change.{Change}
use Rattle.opc_state.specs.declared.change.Edit.{Edit}
use Rattle.opc_state.specs.declared.change.Edit.TheVariants as edit
use Rattle.opc_state.specs.Changes.{all_edited, changed_by, edited, with_account}
use Rattle.opc_state.specs.Invariants.{IsKeyed}
use Rattle.opc_state.specs.State.{State}
use Rattle.opc_state_cache.specs.Flags.{AreFlagsOf, known_active, known_after, outdates, unknown, with_active, with_halted}
use Rattle.opc_state_cache.specs.declared.flags.Flags.{Flags}
use Rattle.opc_state_cache.specs.Redefining.{redefines}
use Rattle.opc_state_cache.proofs.Edits.{account_stays, left_false, none_stay, right_false}

pub unknown_are : (s : State) → AreFlagsOf s unknown
unknown_are s = record { halted = tt; active = go }
  where
    go : (class : Class) → IfSome (known_active unknown class) (λ active. active ≡ is_active s.policy.active class)
    go Console = tt
    go Opercmds = tt

-- ---- one more flag is known

pub halted_known : (s : State) (flags : Flags) (halted : Bool) → AreFlagsOf s flags → halted ≡ s.board.halted
    → IsKeyed s → AreFlagsOf s (with_halted halted flags)
halted_known s flags halted h is keyed = record { halted = (is, keyed); active = go }
  where
    go : (class : Class) → IfSome (known_active (with_halted halted flags) class) (λ active. active ≡ is_active s.policy.active class)
    go Console = h.active Console
    go Opercmds = h.active Opercmds

pub active_known : (s : State) (flags : Flags) (class : Class) (active : Bool) → AreFlagsOf s flags
    → active ≡ is_active s.policy.active class → AreFlagsOf s (with_active class active flags)
active_known s flags Console active h is = record { halted = h.halted; active = go }
  where
    go : (class : Class) → IfSome (known_active (with_active Console active flags) class) (λ a. a ≡ is_active s.policy.active class)
    go Console = is
    go Opercmds = h.active Opercmds
active_known s flags Opercmds active h is = record { halted = h.halted; active = go }
  where
    go : (class : Class) → IfSome (known_active (with_active Opercmds active flags) class) (λ a. a ≡ is_active s.policy.active class)
    go Console = h.active Console
    go Opercmds = is

pub known_halted : (s : State) (flags : Flags) (halted : Bool) → AreFlagsOf s flags → flags.halted ≡ Some halted
    → (halted ≡ s.board.halted) × IsKeyed s
known_halted s flags halted h is = subst (λ (o : Option Bool). IfSome o (λ b. (b ≡ s.board.halted) × IsKeyed s)) is h.halted

-- ---- a change

record HasSameFlags (s t : State) : Type 0 where
  halted : t.board.halted ≡ s.board.halted
  active : t.policy.active ≡ s.policy.active

one_edit : (e : Edit) (s : State) → outdates e ≡ false → HasSameFlags s (edited e s)
one_edit (edit.SetActive class active) s h = absurd (search (rules, h))
one_edit (edit.SetHalted halted) s h = absurd (search (rules, h))
one_edit (edit.PutProfile profile) s h = absurd (search (rules, h))
one_edit (edit.RemoveProfile class pattern) s h = absurd (search (rules, h))
one_edit (edit.PutBatch batch) s h = absurd (search (rules, h))
one_edit other s h = record { halted = refl; active = refl }

all_edits : (edits : List Edit) (s : State) → list_any outdates edits ≡ false → HasSameFlags s (all_edited edits s)
all_edits [] s h = record { halted = refl; active = refl }
all_edits (e ∷ edits) s h =
    let one : HasSameFlags s (edited e s) = one_edit e s (left_false (outdates e) (list_any outdates edits) h) in
    let more : HasSameFlags (edited e s) (all_edited edits (edited e s)) =
    all_edits edits (edited e s) (right_false (outdates e) (list_any outdates edits) h) in
    record { halted = more.halted ∙ one.halted; active = more.active ∙ one.active }

one_redefines : (e : Edit) → outdates e ≡ false → redefines e ≡ false
one_redefines (edit.SetActive class active) h = refl
one_redefines (edit.SetHalted halted) h = refl
one_redefines other h = h

none_redefine : (edits : List Edit) → list_any outdates edits ≡ false → list_any redefines edits ≡ false
none_redefine [] h = refl
none_redefine (e ∷ edits) h =
    or_false (redefines e) (list_any redefines edits)
    (one_redefines e (left_false (outdates e) (list_any outdates edits) h))
    (none_redefine edits (right_false (outdates e) (list_any outdates edits) h))
  where
    or_false : (a b : Bool) → a ≡ false → b ≡ false → (a || b) ≡ false
    or_false true b is more = is
    or_false false b is more = more

with_row : (row : Option AccountRow) (s t : State) → HasSameFlags s t → HasSameFlags s (with_account row t)
with_row None s t h = h
with_row (Some row) s t h = record { halted = h.halted; active = h.active }

if_some : {A : Type 0} {P Q : A → Type 0} (o : Option A) → ((a : A) → P a → Q a) → IfSome o P → IfSome o Q
if_some None f h = tt
if_some (Some a) f h = f a h

moved : (s t : State) (flags : Flags) → HasSameFlags s t → (IsKeyed s → IsKeyed t) → AreFlagsOf s flags → AreFlagsOf t flags
moved s t flags same keyed h = record {
  halted = if_some flags.halted (λ halted is. (is.0 ∙ sym same.halted, keyed is.1)) h.halted;
  active = λ class. if_some (known_active flags class)
      (λ active is. is ∙ ap (λ (a : ActiveClasses). is_active a class) (sym same.active)) (h.active class);
}

pub known_after_change : (c : Change) (s : State) (flags : Flags) → AreFlagsOf s flags
    → AreFlagsOf (changed_by c s) (known_after c.edits.items flags)
known_after_change c s flags h = go (list_any outdates c.edits.items) refl
  where
    go : (b : Bool) → list_any outdates c.edits.items ≡ b → AreFlagsOf (changed_by c s) (cond b unknown flags)
    go true is = unknown_are (changed_by c s)
    go false is = moved s (changed_by c s) flags (with_row c.account s (all_edited c.edits.items s) (all_edits c.edits.items s is))
        (λ k. (account_stays c.account s (all_edited c.edits.items s) (none_stay c.edits.items s k (none_redefine c.edits.items is))).keyed) h

pub known_before_change : (edits : List Edit) (s : State) (flags : Flags) → AreFlagsOf s flags → AreFlagsOf s (known_after edits flags)
known_before_change edits s flags h = go (list_any outdates edits)
  where
    go : (b : Bool) → AreFlagsOf s (cond b unknown flags)
    go true = unknown_are s
    go false = h
