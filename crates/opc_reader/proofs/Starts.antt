-- S.
use Rattle.std.proofs.Common.{◌≡◌, ℕ, List, [], ◌∷◌, Option, Some, None, refl, lit<, codes}
use Rattle.std.proofs.lemmas.Option.{same_Some}
use Rattle.opc_names.specs.Names.{unit_rule}
use Rattle.opc_reader.specs.declared.verb.Verb.TheVariants as verb
use Rattle.opc_reader_commands.specs.declared.command.Operand.{Operand}
use Rattle.opc_reader_commands.specs.declared.command.Command.{Command}
use Rattle.opc_reader_commands.specs.declared.command.Command.TheVariants.{Start, StartAs}
use Rattle.opc_reader.specs.Forms.{Word, Name, parts, AreTyped}
use Rattle.opc_reader.specs.Reading.{name, last_name, start_after, start}
use Rattle.opc_reader_commands.specs.Stretches.{Stretch, word}
use Rattle.opc_reader.proofs.Steps.{
  over_word,
  back_word,
  over_name,
  back_name,
  over_last_name,
  back_last_name,
  only_read,
  only_found,
  nothing_left,
  bind_some,
  Gives,
  gives,
}

pub alone : (member : Operand (List ℕ)) (s : Stretch) → AreTyped (parts (Start member)) s → start s ≡ Some (Start member)
unfolding start
alone member s t =
    let step = over_name unit_rule member [] s refl tt t in
    rw (step.read_is, nothing_left (codes ".") step.rest step.typed (lit< tt), only_read (Start member) step.rest step.typed) refl

pub named : (member id : Operand (List ℕ)) (s : Stretch) → AreTyped (parts (StartAs member id)) s → start s ≡ Some (StartAs member id)
unfolding start
named member id s t =
    let step = over_name unit_rule member (Word (codes ".") ∷ Name unit_rule id ∷ []) s refl refl t in
    let period = over_word (codes ".") (Name unit_rule id ∷ []) step.rest step.typed in
    rw (step.read_is, period.read_is, over_last_name unit_rule id period.rest refl period.typed) refl

pub start_found : (s : Stretch) (c : Command) → start s ≡ Some c → Gives verb.Start s c
unfolding start
start_found s c h =
    let member = bind_some (name unit_rule s) _ c h in
    by_word member.0.0 member.0.1 member.1 (word (codes ".") member.0.1) refl member.2 where
      by_word : (o : Operand (List ℕ)) (left : Stretch) → name unit_rule s ≡ Some (o, left) → (read : Option Stretch)
          → word (codes ".") left ≡ read → start_after o read left ≡ Some c → Gives verb.Start s c
      by_word o left found (Some r) f k =
          let id = bind_some (last_name unit_rule r) (λ x. Some (StartAs o x)) c k in
          gives verb.Start s (StartAs o id.0) c (same_Some _ _ id.2) (record {
            verb = refl;
            typed = back_name unit_rule o (Word (codes ".") ∷ Name unit_rule id.0 ∷ []) s left found
                (back_word (codes ".") (Name unit_rule id.0 ∷ []) left r f (back_last_name unit_rule id.0 r id.1));
            meant = tt;
          })
      by_word o left found None f k =
          let end = only_found (Start o) c left k in
          gives verb.Start s (Start o) c end.0 (record { verb = refl; typed = back_name unit_rule o [] s left found end.1; meant = tt })
