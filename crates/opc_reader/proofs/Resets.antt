-- E.
use Rattle.std.proofs.Common.{◌≡◌, ℕ, List, [], ◌∷◌, Some, refl, codes}
use Rattle.opc_names.specs.Names.{console_rule}
use Rattle.opc_reader.specs.declared.verb.Verb.TheVariants as verb
use Rattle.opc_reader_commands.specs.declared.command.Operand.{Operand}
use Rattle.opc_reader_commands.specs.declared.command.Command.{Command}
use Rattle.opc_reader_commands.specs.declared.command.Command.TheVariants.{ResetConsole}
use Rattle.opc_reader.specs.Forms.{Word, Name, parts, AreTyped}
use Rattle.opc_reader.specs.Reading.{name, reset}
use Rattle.opc_reader_commands.specs.Stretches.{Stretch, word}
use Rattle.opc_reader.proofs.Steps.{over_word, back_word, over_name, back_name, only_read, only_found, bind_some, Gives, gives}

pub of_console : (console : Operand (List ℕ)) (s : Stretch) → AreTyped (parts (ResetConsole console)) s → reset s ≡ Some (ResetConsole console)
unfolding reset
of_console console s t =
    let opened = over_word (codes "CN(") (Name console_rule console ∷ Word (codes ")") ∷ []) s t in
    let step = over_name console_rule console (Word (codes ")") ∷ []) opened.rest refl refl opened.typed in
    let close = over_word (codes ")") [] step.rest step.typed in
    rw (opened.read_is, step.read_is, close.read_is, only_read (ResetConsole console) close.rest close.typed) refl

pub reset_found : (s : Stretch) (c : Command) → reset s ≡ Some c → Gives verb.Reset s c
unfolding reset
reset_found s c h =
    let opened = bind_some (word (codes "CN(") s) _ c h in
    let found = bind_some (name console_rule opened.0) _ c opened.2 in
    let close = bind_some (word (codes ")") found.0.1) _ c found.2 in
    let end = only_found (ResetConsole found.0.0) c close.0 close.2 in
    gives verb.Reset s (ResetConsole found.0.0) c end.0 (record {
      verb = refl;
      typed = back_word (codes "CN(") (Name console_rule found.0.0 ∷ Word (codes ")") ∷ []) s opened.0 opened.1
          (back_name console_rule found.0.0 (Word (codes ")") ∷ []) opened.0 found.0.1 found.1
          (back_word (codes ")") [] found.0.1 close.0 close.1 end.1));
      meant = tt;
    })
