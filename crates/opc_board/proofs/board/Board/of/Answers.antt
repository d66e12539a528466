use Rattle.std.proofs.Common.{refl, sym, ◌∙◌}
use Rattle.std.proofs.lemmas.Bool.{false≢true}
use Rattle.opc_board.proofs.Tested.{units_tested, devices_tested, consoles_tested, replies_tested, all_shown, all_passed}
use Rattle.opc_board.proofs.board.Board.of.Goals as goal

pub returns-then-not-units : goal.returns-then-not-units
returns-then-not-units c = (refl, λ invariants. (units_tested _ _ c.is_ascending-units.ensures).1 c.if-not-units.true invariants.units_rise)

pub returns-then-not-devices : goal.returns-then-not-devices
returns-then-not-devices c = (refl, λ invariants. (devices_tested _ _ c.is_ascending-devices.ensures).1 c.if-not-devices.true invariants.devices_rise)

pub returns-then-not-consoles : goal.returns-then-not-consoles
returns-then-not-consoles c = (refl, λ invariants. (consoles_tested _ _ c.is_ascending-consoles.ensures).1 c.if-not-consoles.true invariants.consoles_rise)

pub returns-then-not-replies : goal.returns-then-not-replies
returns-then-not-replies c = (refl, λ invariants. (replies_tested _ _ c.is_ascending-replies.ensures).1 c.if-not-replies.true invariants.replies_rise)

pub returns-then-not-holders : goal.returns-then-not-holders
returns-then-not-holders c = (refl, λ invariants. false≢true (sym c.if-not-holders.true ∙ c.all_hold_rightly-holders.ensures ∙ all_passed _ _ invariants.held))

pub invariant_of-result : goal.invariant_of-result
invariant_of-result c = record {
  units_rise = (units_tested _ _ c.is_ascending-units.ensures).0 c.if-not-units.false;
  devices_rise = (devices_tested _ _ c.is_ascending-devices.ensures).0 c.if-not-devices.false;
  consoles_rise = (consoles_tested _ _ c.is_ascending-consoles.ensures).0 c.if-not-consoles.false;
  replies_rise = (replies_tested _ _ c.is_ascending-replies.ensures).0 c.if-not-replies.false;
  held = all_shown _ _ (sym c.all_hold_rightly-holders.ensures ∙ c.if-not-holders.false);
}

pub returns : goal.returns
returns c = (
  refl,
  record {
    units_rise = (units_tested _ _ c.is_ascending-units.ensures).0 c.if-not-units.false;
    devices_rise = (devices_tested _ _ c.is_ascending-devices.ensures).0 c.if-not-devices.false;
    consoles_rise = (consoles_tested _ _ c.is_ascending-consoles.ensures).0 c.if-not-consoles.false;
    replies_rise = (replies_tested _ _ c.is_ascending-replies.ensures).0 c.if-not-replies.false;
    held = all_shown _ _ (sym c.all_hold_rightly-holders.ensures ∙ c.if-not-holders.false);
  },
)

pub all_hold_rightly-holders-requires : goal.all_hold_rightly-holders-requires
all_hold_rightly-holders-requires c = (units_tested _ _ c.is_ascending-units.ensures).0 c.if-not-units.false
