use Rattle.std.proofs.Common.{◌≡◌, ◌++◌, ◌∙◌, ap, sym, append_assoc}
use Rattle.std.proofs.lemmas.Str.{IsUtf8-past_char}
use Rattle.opc_check.proofs.Quoting.{no_room, none_left, one_more}
use Rattle.opc_check.proofs.quoted.quoted_start.Goals as goal

pub loop-character-preserved : goal.loop-character-preserved
loop-character-preserved c =
    let held = c.loop-character.invariant in
    let parts = c.in-Some.ensures.steps.0 in
    let step = one_more _ c.in-Some.character _ _ held.0 parts c.if-room-eq0.false in
    (IsUtf8-past_char _ _ c.in-Some.character held.0 parts, rw (c.in_ok-push_quoted.ensures, append_assoc) (rw step at held.1))

pub returns-then-room-eq0 : goal.returns-then-room-eq0
returns-then-room-eq0 c =
    let held = c.loop-character.invariant in
    let full = no_room _ c.in-Some.character _ _ held.0 c.in-Some.ensures.steps.0 c.if-room-eq0.true in
    c.in_ok-push_str.ensures.bytes ∙ (rw full at held.1)

pub returns : goal.returns
returns c = c.in_ok-push_str-2.ensures.bytes ∙ (rw (none_left _ _ c.in-None.ensures.steps.0.0) at c.loop-character.invariant.1)
