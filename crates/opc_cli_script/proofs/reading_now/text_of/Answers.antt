use Rattle.std.proofs.Common.{◌∙◌, IsUtf8, ap, subst}
use Rattle.std.proofs.lemmas.Str.{IsUtf8-string_bytes}
use Rattle.opc_cli_script.proofs.reading_now.text_of.Goals as goal

pub returns-in-Ok : goal.returns-in-Ok
returns-in-Ok c = (
  subst (λ v. IsUtf8 v.items) c.in-Ok.ensures.ok (IsUtf8-string_bytes c.in-Ok.text),
  c.from.ensures ∙ ap (λ v. v.items) c.in-Ok.ensures.ok,
)
