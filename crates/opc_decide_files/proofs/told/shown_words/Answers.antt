use Rattle.std.proofs.Common.{◌≡◌, ◌∙◌, IsUtf8, ap, subst, sym}
use Rattle.std.specs.Prelude.{flat_map}
use Rattle.std.proofs.lemmas.Result.{IfOk-weaker}
use Rattle.opc_http_log.specs.Escapes.{printable}
use Rattle.opc_http_log.specs.Words.{shown}
use Rattle.opc_decide_files.specs.Told.{shown_words}
use Rattle.opc_decide_files.proofs.PrintableText.{printable_utf8}
use Rattle.opc_decide_files.proofs.told.shown_words.Goals as goal

pub returns : goal.returns
returns c =
    let text : c.as_slice.result.now ≡ shown c.args.words.now = c.as_slice.ensures.value ∙ c.in_ok-text.ensures in
    let bytes : c.as_slice-2.result.now ≡ shown_words c.args.words.now =
    c.as_slice-2.ensures.value ∙ c.in_ok-bytes.ensures ∙ ap (flat_map printable) text in
    IfOk-weaker c.from_utf8_lossy.result _ _
    (λ words whole. whole (subst IsUtf8 (sym bytes) (printable_utf8 (shown c.args.words.now))) ∙ bytes) c.from_utf8_lossy.ensures.ok
