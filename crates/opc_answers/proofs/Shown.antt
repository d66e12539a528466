-- The line that a command asks for, by what is known of it.
use Rattle.std.proofs.Common.{◌≡◌, Bool, Option, Some, None, refl, ap, sym, ◌∙◌}
use Rattle.std.specs.Option.{is_some, option_map}
use Rattle.opc_names.specs.declared.class.Class.TheVariants.{Opercmds}
use Rattle.opc_terms.specs.declared.need.Need.{Need}
use Rattle.opc_policy_members.specs.declared.policy.Policy.{Policy}
use Rattle.opc_policy.specs.declared.ruling.Ruling.{Ruling}
use Rattle.opc_board.specs.declared.rows.ConsoleRow.{ConsoleRow}
use Rattle.opc_state.specs.State.{State}
use Rattle.opc_machine.specs.Rulings.{own_user, ruling}
use Rattle.opc_answers.specs.declared.shows.Shows.{Shows}
use Rattle.opc_answers.specs.Deciding.{decider}
use Rattle.opc_answers.specs.Who.{console_by, console_line, nobody_at, shows_by}

pub console_line_so : (s : State) (need : Need) (line : Option Need) (c : ConsoleRow) (own : Bool) (command : Ruling) (ruled : Option Ruling)
    → own ≡ is_some (own_user s c) → command ≡ ruling s (nobody_at c) need → ruled ≡ option_map (ruling s (nobody_at c)) line
    → console_by c.name own command ruled ≡ console_line s need line c
console_line_so s need line c own command ruled is_own is_command is_ruled =
    ap (λ o. console_by c.name o command ruled) is_own
    ∙ ap (λ r. console_by c.name (is_some (own_user s c)) r ruled) is_command
    ∙ ap (λ o. console_by c.name (is_some (own_user s c)) (ruling s (nobody_at c) need) o) is_ruled

module _ (p : Policy) where
  pub decides : (line : Option Need) (shows : Shows) → Some shows ≡ shows_by p line
      → shows.decided ≡ decider p Opercmds shows.need.resource
  decides None shows is = absurd (cc)
  decides (Some need) shows is =
      let same : shows ≡ record { need = need; decided = decider p Opercmds need.resource } = cc in
      ap (λ (x : Shows). x.decided) same ∙ sym (ap (λ (x : Shows). decider p Opercmds x.need.resource) same)

  pub rules_none : (line : Option Need) (f : Need → Ruling) → None ≡ shows_by p line → None ≡ option_map f line
  rules_none None f is = refl
  rules_none (Some need) f is = absurd (cc)

  pub rules_one : (line : Option Need) (f : Need → Ruling) (shows : Shows) (r : Ruling) → Some shows ≡ shows_by p line
      → r ≡ f shows.need → Some r ≡ option_map f line
  rules_one None f shows r is ruled = absurd (cc)
  rules_one (Some need) f shows r is ruled =
      let same : shows ≡ record { need = need; decided = decider p Opercmds need.resource } = cc in
      ap (λ x. Some x) (ruled ∙ ap (λ (x : Shows). f x.need) same)
