use Rattle.std.proofs.Common.{◌≡◌, ◌++◌, ◌∙◌, ap, subst, sym}
use Rattle.std.specs.Str.{IsUtf8}
use Rattle.std.proofs.lemmas.Str.{IsUtf8-from_ascii}
use Rattle.opc_names.proofs.Resources.{fine_ascii}
use Rattle.opc_policy_witness.specs.Forms.{places}
use Rattle.opc_policy_witness.specs.Pieces.{filled}
use Rattle.opc_policy_witness.specs.Witness.{joined}
use Rattle.opc_policy_witness.proofs.Joining.{joined_fine, places_long, read_back, stands_long}
use Rattle.opc_policy_witness.proofs.texts.resource_of.Goals as goal

pub push_qualifiers-requires : goal.push_qualifiers-requires
push_qualifiers-requires c =
    stands_long (places c.args.pieces.now) c.args.characters.now c.requires.stand ∙ places_long c.args.pieces.now

pub returns-in_default : goal.returns-in_default
returns-in_default c =
    let text = joined (filled c.args.pieces.now c.args.characters.now) in
    let is : c.as_slice.result.now ≡ text = c.as_slice.ensures.value ∙ c.in_ok-push_qualifiers.ensures ∙ ap (λ l. l ++ text) c.new-text.ensures.items in
    let fine = joined_fine c.args.pieces.now c.args.characters.now c.requires.text.some c.requires.text.fine c.requires.stand c.requires.text.short in
    absurd (c.in_default.ensures.cases.0 (subst (λ x. IsUtf8 x) (sym is) (IsUtf8-from_ascii text (fine_ascii text fine))))

pub returns : goal.returns
returns c =
    let text = joined (filled c.args.pieces.now c.args.characters.now) in
    let is : c.as_slice.result.now ≡ text = c.as_slice.ensures.value ∙ c.in_ok-push_qualifiers.ensures ∙ ap (λ l. l ++ text) c.new-text.ensures.items in
    let fine = joined_fine c.args.pieces.now c.args.characters.now c.requires.text.some c.requires.text.fine c.requires.stand c.requires.text.short in
    c.ok.ensures.value ∙ read_back c.read.result c.in-Ok.text.now text (c.in-Ok.ensures.cases.0 ∙ is) fine c.read.ensures
