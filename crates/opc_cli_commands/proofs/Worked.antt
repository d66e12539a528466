-- The lines of the table, read.
use Rattle.std.proofs.Common.{◌≡◌, ◌<◌, ℕ, codes, length, lit≤, refl, Ok}
use Rattle.std.specs.List.{Any, slice_index_or}
use Rattle.std.specs.Str.{chars}
use Rattle.opc_reader_commands.specs.declared.command.Command.{Command}
use Rattle.opc_reader_commands.specs.Stretches.{word}
use Rattle.opc_reader.specs.declared.verb.Verb.{Verb}
use Rattle.opc_reader.specs.declared.verb.Verb.TheVariants as verb
use Rattle.opc_reader.specs.Forms.{verb_of}
use Rattle.opc_reader.specs.Reading.{
  any_text,
  authority,
  cancel,
  command,
  display,
  force,
  last_name,
  log,
  logon,
  modify,
  mount,
  name,
  number_prefix,
  quoted_prefix,
  quoted_text,
  reading,
  reply,
  reset,
  send,
  start,
  stop,
  swap,
  unload,
  vary,
  vary_console,
  vary_device,
}
use Rattle.opc_cli_commands.specs.Commands.{TableForm, forms, plain, such}
use Rattle.opc_cli_commands.specs.HintLaws.{VerbsAreTheReaders}
use Rattle.opc_cli_commands.specs.Laws.{EachFormReads, EachVerbHasAForm, IsOfVerb}

pub forms_read : EachFormReads
unfolding any_text authority cancel command display force last_name log logon modify mount name number_prefix quoted_prefix
    quoted_text reply reset send start stop swap unload vary vary_console vary_device word chars
forms_read = refl

at_place : (of : Verb) (k : ℕ) (form : TableForm) → k < length forms → slice_index_or forms k form ≡ form → (read : Command)
    → reading form.line ≡ Ok read → verb_of read ≡ of → Any (IsOfVerb of) forms
at_place of k form within there read reads is = (k, form, within, there, (read, reads, is))

pub verbs_have_forms : EachVerbHasAForm
unfolding any_text authority cancel command display force last_name log logon modify mount name number_prefix quoted_prefix
    quoted_text reply reset send start stop swap unload vary vary_console vary_device word chars
verbs_have_forms verb.Display = at_place verb.Display 0 (plain (codes "D A,L")) (lit≤ tt) refl _ refl refl
verbs_have_forms verb.Cancel = at_place verb.Cancel 5 (plain (codes "C name")) (lit≤ tt) refl _ refl refl
verbs_have_forms verb.Force = at_place verb.Force 8 (plain (codes "FORCE name")) (lit≤ tt) refl _ refl refl
verbs_have_forms verb.Start = at_place verb.Start 11 (plain (codes "S member")) (lit≤ tt) refl _ refl refl
verbs_have_forms verb.Stop = at_place verb.Stop 13 (plain (codes "P name")) (lit≤ tt) refl _ refl refl
verbs_have_forms verb.Modify = at_place verb.Modify 15 (plain (codes "F name,text")) (lit≤ tt) refl _ refl refl
verbs_have_forms verb.Reply = at_place verb.Reply 17 (such (codes "R id,text") (codes "R 1,text")) (lit≤ tt) refl _ refl refl
verbs_have_forms verb.Vary = at_place verb.Vary 18 (such (codes "V dev,ONLINE") (codes "V 0A80,ONLINE")) (lit≤ tt) refl _ refl refl
verbs_have_forms verb.Mount = at_place verb.Mount 20 (such (codes "M dev,VOL=vol") (codes "M 0A80,VOL=vol")) (lit≤ tt) refl _ refl refl
verbs_have_forms verb.Unload = at_place verb.Unload 21 (such (codes "U dev") (codes "U 0A80")) (lit≤ tt) refl _ refl refl
verbs_have_forms verb.Swap = at_place verb.Swap 22 (such (codes "G dev,dev") (codes "G 0A80,0A81")) (lit≤ tt) refl _ refl refl
verbs_have_forms verb.Reset = at_place verb.Reset 26 (plain (codes "E CN(name)")) (lit≤ tt) refl _ refl refl
verbs_have_forms verb.Send = at_place verb.Send 27 (plain (codes "SE 'text',USER=(user)")) (lit≤ tt) refl _ refl refl
verbs_have_forms verb.Log = at_place verb.Log 28 (plain (codes "L 'text'")) (lit≤ tt) refl _ refl refl
verbs_have_forms verb.Monitor = at_place verb.Monitor 29 (plain (codes "MN JOBNAMES")) (lit≤ tt) refl _ refl refl
verbs_have_forms verb.StopMonitor = at_place verb.StopMonitor 30 (plain (codes "PM JOBNAMES")) (lit≤ tt) refl _ refl refl
verbs_have_forms verb.Halt = at_place verb.Halt 31 (plain (codes "Z EOD")) (lit≤ tt) refl _ refl refl
verbs_have_forms verb.Logon = at_place verb.Logon 32 (plain (codes "LOGON user,password")) (lit≤ tt) refl _ refl refl
verbs_have_forms verb.Logoff = at_place verb.Logoff 33 (plain (codes "LOGOFF")) (lit≤ tt) refl _ refl refl

pub verbs_are_the_readers : VerbsAreTheReaders
unfolding any_text authority cancel command display force last_name log logon modify mount name number_prefix quoted_prefix
    quoted_text reply reset send start stop swap unload vary vary_console vary_device word chars
verbs_are_the_readers = record { spelled = refl; paired = refl; shown = refl }
