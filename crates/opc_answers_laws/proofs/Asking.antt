-- What the machine asks about.
use Rattle.std.proofs.Common.{◌≡◌, Result, Ok, Err, Some, codes, refl, sym, ap, inl, inr}
use Rattle.opc_names.specs.declared.group.Group.TheVariants.{Info}
use Rattle.opc_names.specs.declared.level.Level.TheVariants.{Read}
use Rattle.opc_names.specs.declared.class.Class.TheVariants.{Opercmds}
use Rattle.opc_terms.specs.declared.need.Need.{Need}
use Rattle.opc_policy_members.specs.Profiles.{of_class}
use Rattle.opc_reader_commands.specs.declared.command.Command.{Command}
use Rattle.opc_reader_commands.specs.declared.command.Command.TheVariants.{Cancel, Force, Stop, Modify}
use Rattle.opc_reader.specs.declared.line.ReadFault.{ReadFault}
use Rattle.opc_reader.specs.Reading.{reading}
use Rattle.opc_reader.proofs.Exact.{so_reads}
use Rattle.opc_table.specs.Table.{qualified}
use Rattle.opc_board.specs.declared.board.BoardRows.{BoardRows}
use Rattle.opc_board.specs.declared.line.Item.TheVariants as item
use Rattle.opc_machine.specs.declared.outcome.Refusal.{Refusal}
use Rattle.opc_machine.specs.Commands.{command_or, kind_named}
use Rattle.opc_check_reach.specs.Reach.{IsKind}
use Rattle.opc_answers_laws.specs.ReachLaws.{HasKinds, CommandsAskSo, LinesAskSo, DecidersAreMet, DecidersOfCommandsAreMet, DecidersOfLinesAreMet}
use Rattle.opc_answers_laws.proofs.Deciders.{decider_covers}

was_read : (r : Result Command ReadFault) (c : Command) → command_or r ≡ Ok c → r ≡ Ok c
was_read (Ok d) c e = let same : ◌≡◌ {A = Result Command Refusal} (Ok d) (Ok c) = e in cc
was_read (Err f) c e = cc

named_kind : (b : BoardRows) (c : Command) → HasKinds b → IsKind (kind_named b c)
named_kind b (Cancel name) h = h name.value
named_kind b (Force name) h = h name.value
named_kind b (Stop name) h = h name.value
named_kind b (Modify name text) h = h name.value
named_kind b c h = tt

pub commands_ask : CommandsAskSo
commands_ask b line c n h e k = inl (record {
  line = line;
  command = c;
  kind = kind_named b c;
  access = n;
  reads = so_reads line c (was_read (reading line) c e);
  of_kind = named_kind b c h;
  needed = k;
  on = refl;
})

some_need : (a n : Need) → Some a ≡ Some n → a.resource ≡ n.resource
some_need a n e = let same : a ≡ n = cc in ap (λ (x : Need). x.resource) same

pub lines_ask : LinesAskSo
lines_ask item.Plain n h e = cc
lines_ask (item.Unit name) n h e =
    inr (inl (name, h, sym (some_need (record { resource = qualified (codes "MVS.DISPLAY.JOB") name; level = Read; group = Info }) n e)))
lines_ask (item.Console name) n h e =
    inr (inr (name, h, sym (some_need (record { resource = qualified (codes "MVS.DISPLAY.CN") name; level = Read; group = Info }) n e)))

pub deciders_met : DecidersAreMet
deciders_met s resource p asked e = (resource, asked, decider_covers (of_class Opercmds s.policy.profiles) resource p e)

pub command_deciders_met : DecidersOfCommandsAreMet
command_deciders_met s line c n p h e k d = deciders_met s n.resource p (commands_ask s.board line c n h e k) d

pub line_deciders_met : DecidersOfLinesAreMet
line_deciders_met s about n p h k d = deciders_met s n.resource p (lines_ask about n h k) d
