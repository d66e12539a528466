-- LOGON.
use Rattle.std.proofs.Common.{◌≡◌, ℕ, List, [], ◌∷◌, Some, refl, codes}
use Rattle.std.proofs.lemmas.Option.{same_Some}
use Rattle.opc_names.specs.Names.{user_rule}
use Rattle.opc_reader.specs.declared.verb.Verb.TheVariants as verb
use Rattle.opc_reader_commands.specs.declared.command.Operand.{Operand}
use Rattle.opc_reader_commands.specs.declared.command.Command.{Command}
use Rattle.opc_reader_commands.specs.declared.command.Command.TheVariants.{Logon}
use Rattle.opc_reader.specs.Forms.{Word, Name, parts, AreTyped}
use Rattle.opc_reader.specs.Reading.{name, last_name, logon}
use Rattle.opc_reader_commands.specs.Stretches.{Stretch, word}
use Rattle.opc_reader.proofs.Steps.{over_word, back_word, over_name, back_name, over_last_name, back_last_name, bind_some, Gives, gives}

pub logged_on : (user password : Operand (List ℕ)) (s : Stretch) → AreTyped (parts (Logon user password)) s → logon s ≡ Some (Logon user password)
unfolding logon
logged_on user password s t =
    let step = over_name user_rule user (Word (codes ",") ∷ Name user_rule password ∷ []) s refl refl t in
    let comma = over_word (codes ",") (Name user_rule password ∷ []) step.rest step.typed in
    rw (step.read_is, comma.read_is, over_last_name user_rule password comma.rest refl comma.typed) refl

pub logon_found : (s : Stretch) (c : Command) → logon s ≡ Some c → Gives verb.Logon s c
unfolding logon
logon_found s c h =
    let user = bind_some (name user_rule s) _ c h in
    let comma = bind_some (word (codes ",") user.0.1) _ c user.2 in
    let password = bind_some (last_name user_rule comma.0) _ c comma.2 in
    gives verb.Logon s (Logon user.0.0 password.0) c (same_Some _ _ password.2) (record {
      verb = refl;
      typed = back_name user_rule user.0.0 (Word (codes ",") ∷ Name user_rule password.0 ∷ []) s user.0.1 user.1
          (back_word (codes ",") (Name user_rule password.0 ∷ []) user.0.1 comma.0 comma.1
          (back_last_name user_rule password.0 comma.0 password.1));
      meant = tt;
    })
