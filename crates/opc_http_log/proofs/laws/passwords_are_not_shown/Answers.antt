use Rattle.std.proofs.Common.{◌≡◌, ◌∙◌, ◌++◌, ◌∷◌, sym}
use Rattle.std.specs.Prelude.{List, ℕ}
use Rattle.opc_machine.specs.declared.request.Request.TheVariants.{Command}
use Rattle.opc_http_log.specs.Laws.{HaveOneLine}
use Rattle.opc_http_log.specs.Typed.{typed}
use Rattle.opc_http_log.proofs.Passwords.{logon_shown, no_command_shown, no_verb_shown}
use Rattle.opc_http_log.proofs.laws.passwords_are_not_shown.Goals as goal

-- Commands whose words are the same have the same line.
told : (console one other : List ℕ) → typed one ≡ typed other → HaveOneLine (Command console one) (Command console other)
told console one other same entry line is = record {
  text = is.text;
  has = record { time = is.has.time; policy = is.has.policy; at = is.has.at; kept = is.has.kept; is = rw same at is.has.is };
  is = is.is;
}

pub returns : goal.returns
returns c = record {
  of_logons = λ verb user one other v u logon another console entry line is.
      let same : typed (verb ++ 32 ∷ user ++ 44 ∷ one) ≡ typed (verb ++ 32 ∷ user ++ 44 ∷ other) =
      logon_shown verb user one v u logon ∙ sym (logon_shown verb user other v u another) in
      told console _ _ same entry line is;
  of_no_commands = λ word one other end last w ends lasts none neither console entry line is.
      let same : typed (word ++ end ∷ one) ≡ typed (word ++ last ∷ other) =
      no_command_shown word end one w ends none ∙ sym (no_command_shown word last other w lasts neither) in
      told console _ _ same entry line is;
  of_no_verbs = λ before one other spaces v u none neither console entry line is.
      let same : typed (before ++ one) ≡ typed (before ++ other) =
      no_verb_shown before one spaces v none ∙ sym (no_verb_shown before other spaces u neither) in
      told console _ _ same entry line is;
}
