-- F, R, SE and L: the commands with a text.
use Rattle.std.proofs.Common.{◌≡◌, ℕ, List, [], ◌∷◌, Some, refl, codes}
use Rattle.std.proofs.lemmas.Option.{same_Some}
use Rattle.opc_names.specs.Names.{user_rule, unit_rule}
use Rattle.opc_reader.specs.declared.verb.Verb.TheVariants as verb
use Rattle.opc_reader_commands.specs.declared.command.Operand.{Operand}
use Rattle.opc_reader_commands.specs.declared.command.Text.{Text}
use Rattle.opc_reader_commands.specs.declared.command.Command.{Command}
use Rattle.opc_reader_commands.specs.declared.command.Command.TheVariants.{Modify, Reply, Send, Log}
use Rattle.opc_reader.specs.Forms.{Part, Word, Name, AnyText, parts, AreTyped}
use Rattle.opc_reader.specs.Reading.{name, number_prefix, quoted_text, quoted_prefix, any_text, modify, reply, send, log}
use Rattle.opc_reader_commands.specs.Stretches.{Stretch, word}
use Rattle.opc_reader.proofs.Steps.{
  over_word,
  back_word,
  over_name,
  back_name,
  over_number,
  back_number,
  over_text,
  back_text,
  over_quoted,
  back_quoted,
  over_quoted_prefix,
  back_quoted_prefix,
  only_read,
  only_found,
  bind_some,
  Gives,
  gives,
}

pub modified : (name : Operand (List ℕ)) (text : Text) (s : Stretch) → AreTyped (parts (Modify name text)) s → modify s ≡ Some (Modify name text)
unfolding modify
modified name text s t =
    let step = over_name unit_rule name (Word (codes ",") ∷ AnyText text ∷ []) s refl refl t in
    let comma = over_word (codes ",") (AnyText text ∷ []) step.rest step.typed in
    rw (step.read_is, comma.read_is, over_text text comma.rest comma.typed) refl

pub modify_found : (s : Stretch) (c : Command) → modify s ≡ Some c → Gives verb.Modify s c
unfolding modify
modify_found s c h =
    let unit = bind_some (name unit_rule s) _ c h in
    let comma = bind_some (word (codes ",") unit.0.1) _ c unit.2 in
    let text = bind_some (any_text comma.0) _ c comma.2 in
    gives verb.Modify s (Modify unit.0.0 text.0) c (same_Some _ _ text.2) (record {
      verb = refl;
      typed = back_name unit_rule unit.0.0 (Word (codes ",") ∷ AnyText text.0 ∷ []) s unit.0.1 unit.1
          (back_word (codes ",") (AnyText text.0 ∷ []) unit.0.1 comma.0 comma.1 (back_text text.0 comma.0 text.1));
      meant = tt;
    })

pub replied : (id : Operand ℕ) (text : Text) (s : Stretch) → AreTyped (parts (Reply id text)) s → reply s ≡ Some (Reply id text)
unfolding reply
replied id text s t =
    let number = over_number id (AnyText text ∷ []) s t in
    let comma = over_word (codes ",") (AnyText text ∷ []) number.rest number.typed in
    rw (number.read_is, comma.read_is, over_text text comma.rest comma.typed) refl

pub reply_found : (s : Stretch) (c : Command) → reply s ≡ Some c → Gives verb.Reply s c
unfolding reply
reply_found s c h =
    let id = bind_some (number_prefix s) _ c h in
    let comma = bind_some (word (codes ",") id.0.1) _ c id.2 in
    let text = bind_some (any_text comma.0) _ c comma.2 in
    gives verb.Reply s (Reply id.0.0 text.0) c (same_Some _ _ text.2) (record {
      verb = refl;
      typed = back_number id.0.0 (Word (codes ",") ∷ AnyText text.0 ∷ []) s id.0.1 id.1
          (back_word (codes ",") (AnyText text.0 ∷ []) id.0.1 comma.0 comma.1 (back_text text.0 comma.0 text.1));
      meant = tt;
    })

pub sent : (text : Text) (user : Operand (List ℕ)) (s : Stretch) → AreTyped (parts (Send text user)) s → send s ≡ Some (Send text user)
unfolding send
sent text user s t =
    let quote = over_quoted_prefix text (codes "USER=(") 44 (Name user_rule user ∷ Word (codes ")") ∷ []) s refl t in
    let opened = over_word (codes ",USER=(") (Name user_rule user ∷ Word (codes ")") ∷ []) quote.rest quote.typed in
    let step = over_name user_rule user (Word (codes ")") ∷ []) opened.rest refl refl opened.typed in
    let close = over_word (codes ")") [] step.rest step.typed in
    rw (quote.read_is, opened.read_is, step.read_is, close.read_is, only_read (Send text user) close.rest close.typed) refl

pub send_found : (s : Stretch) (c : Command) → send s ≡ Some c → Gives verb.Send s c
unfolding send
send_found s c h =
    let quote = bind_some (quoted_prefix s) _ c h in
    let opened = bind_some (word (codes ",USER=(") quote.0.1) _ c quote.2 in
    let user = bind_some (name user_rule opened.0) _ c opened.2 in
    let close = bind_some (word (codes ")") user.0.1) _ c user.2 in
    let end = only_found (Send quote.0.0 user.0.0) c close.0 close.2 in
    let ps : List Part = Word (codes ")") ∷ [] in
    gives verb.Send s (Send quote.0.0 user.0.0) c end.0 (record {
      verb = refl;
      typed = back_quoted_prefix quote.0.0 (Word (codes ",USER=(") ∷ Name user_rule user.0.0 ∷ ps) s quote.0.1 quote.1
          (back_word (codes ",USER=(") (Name user_rule user.0.0 ∷ ps) quote.0.1 opened.0 opened.1
          (back_name user_rule user.0.0 ps opened.0 user.0.1 user.1
          (back_word (codes ")") [] user.0.1 close.0 close.1 end.1)));
      meant = tt;
    })

pub logged : (text : Text) (s : Stretch) → AreTyped (parts (Log text)) s → log s ≡ Some (Log text)
unfolding log
logged text s t = rw (over_quoted text s t) refl

pub log_found : (s : Stretch) (c : Command) → log s ≡ Some c → Gives verb.Log s c
unfolding log
log_found s c h =
    let text = bind_some (quoted_text s) _ c h in
    gives verb.Log s (Log text.0) c (same_Some _ _ text.2) (record { verb = refl; typed = back_quoted text.0 s text.1; meant = tt })
