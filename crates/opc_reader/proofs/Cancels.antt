-- C, FORCE and P.
use Rattle.std.proofs.Common.{◌≡◌, ℕ, List, [], ◌∷◌, ◌++◌, length, Option, Some, None, refl, sym, ap, ◌∙◌, arith, lit<, codes}
use Rattle.std.specs.List.{prefix_len}
use Rattle.std.proofs.lemmas.List.{append-nil, length-append}
use Rattle.std.proofs.lemmas.Option.{same_Some}
use Rattle.opc_names.specs.Names.{name_fault, user_rule, unit_rule}
use Rattle.opc_reader.specs.declared.verb.Verb.TheVariants as verb
use Rattle.opc_reader_commands.specs.declared.command.Operand.{Operand}
use Rattle.opc_reader_commands.specs.declared.command.Command.{Command}
use Rattle.opc_reader_commands.specs.declared.command.Command.TheVariants.{Cancel, CancelUser, Force, Stop}
use Rattle.opc_reader.specs.Forms.{Name, parts, AreTyped}
use Rattle.opc_reader.specs.Operands.{in_name}
use Rattle.opc_reader.specs.Reading.{last_name, cancel_after, cancel, force, stop}
use Rattle.opc_reader_commands.specs.Stretches.{Stretch, folded, word}
use Rattle.opc_reader.proofs.Leaves.{length_folded, word_found, word_run, name_chars}
use Rattle.opc_reader.proofs.Steps.{over_word, back_word, over_last_name, back_last_name, bind_some, Gives, gives}

-- a name alone does not begin with `U=`
name_no_user : (o : Operand (List ℕ)) (s : Stretch) → AreTyped (Name unit_rule o ∷ []) s → word (codes "U=") s ≡ None
name_no_user o s (a, b, e, (typed, value, fine), rest) = none_is_left (word (codes "U=") s) refl where
  fault : name_fault unit_rule (folded a) ≡ None
  fault = rw (← value) fine

  whole : s.text ≡ a
  whole = e ∙ ap (λ x. a ++ x) rest ∙ append-nil a

  all : prefix_len in_name s.text ≡ length s.text
  all = rw whole (name_chars unit_rule a refl fault)

  none_is_left : (read : Option Stretch) → word (codes "U=") s ≡ read → word (codes "U=") s ≡ None
  none_is_left None h = h
  none_is_left (Some r) h =
      let run : prefix_len in_name s.text ≡ 1 = word_run (codes "U=") s r h (lit< tt) in
      let found = word_found (codes "U=") s r h in
      let count : length found.0 ≡ 2 = sym (length_folded found.0) ∙ ap length found.2 in
      absurd (omega (arith, run, all, ap length found.1, length-append found.0 r.text))

pub of_unit : (name : Operand (List ℕ)) (s : Stretch) → AreTyped (parts (Cancel name)) s → cancel s ≡ Some (Cancel name)
unfolding cancel
of_unit name s t = rw (name_no_user name s t, over_last_name unit_rule name s refl t) refl

pub of_user : (user : Operand (List ℕ)) (s : Stretch) → AreTyped (parts (CancelUser user)) s → cancel s ≡ Some (CancelUser user)
unfolding cancel
of_user user s t =
    let step = over_word (codes "U=") (Name user_rule user ∷ []) s t in
    rw (step.read_is, over_last_name user_rule user step.rest refl step.typed) refl

pub cancel_found : (s : Stretch) (c : Command) → cancel s ≡ Some c → Gives verb.Cancel s c
unfolding cancel
cancel_found s c h = by_word (word (codes "U=") s) refl h where
  by_word : (read : Option Stretch) → word (codes "U=") s ≡ read → cancel_after read s ≡ Some c → Gives verb.Cancel s c
  by_word (Some rest) e k =
      let found = bind_some (last_name user_rule rest) (λ user. Some (CancelUser user)) c k in
      gives verb.Cancel s (CancelUser found.0) c (same_Some _ _ found.2) (record {
        verb = refl;
        typed = back_word (codes "U=") (Name user_rule found.0 ∷ []) s rest e (back_last_name user_rule found.0 rest found.1);
        meant = tt;
      })
  by_word None e k =
      let found = bind_some (last_name unit_rule s) (λ name. Some (Cancel name)) c k in
      gives verb.Cancel s (Cancel found.0) c (same_Some _ _ found.2) (record { verb = refl; typed = back_last_name unit_rule found.0 s found.1; meant = tt })

pub forced : (name : Operand (List ℕ)) (s : Stretch) → AreTyped (parts (Force name)) s → force s ≡ Some (Force name)
unfolding force
forced name s t = rw (over_last_name unit_rule name s refl t) refl

pub force_found : (s : Stretch) (c : Command) → force s ≡ Some c → Gives verb.Force s c
unfolding force
force_found s c h =
    let found = bind_some (last_name unit_rule s) (λ name. Some (Force name)) c h in
    gives verb.Force s (Force found.0) c (same_Some _ _ found.2) (record { verb = refl; typed = back_last_name unit_rule found.0 s found.1; meant = tt })

pub stopped : (name : Operand (List ℕ)) (s : Stretch) → AreTyped (parts (Stop name)) s → stop s ≡ Some (Stop name)
unfolding stop
stopped name s t = rw (over_last_name unit_rule name s refl t) refl

pub stop_found : (s : Stretch) (c : Command) → stop s ≡ Some c → Gives verb.Stop s c
unfolding stop
stop_found s c h =
    let found = bind_some (last_name unit_rule s) (λ name. Some (Stop name)) c h in
    gives verb.Stop s (Stop found.0) c (same_Some _ _ found.2) (record { verb = refl; typed = back_last_name unit_rule found.0 s found.1; meant = tt })
