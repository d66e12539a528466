use Rattle.std.proofs.Common.{◌∙◌, ◌++◌, ap, codes, sym}
use Rattle.opc_io.proofs.Writing.{appends-more}
use Rattle.opc_cli_words.specs.Mistakes.{mistake_text}
use Rattle.opc_cli_words.proofs.Printed.{last_piece}
use Rattle.opc_cli_words.proofs.mistake.write_mistake.Goals as goal

pub returns-in_ok-write_whole-in-Unread-clause-text : goal.returns-in_ok-write_whole-in-Unread-clause-text
returns-in_ok-write_whole-in-Unread-clause-text g c =
    last_piece c.write_whole-in-Unread.result _ _ _ _ _ _
    (ap (mistake_text c.args.command.now) c.in-Unread.is
    ∙ ap (λ name. codes "invalid value for --" ++ name) (sym (c.as_bytes.ensures.value ∙ c.name.ensures)))
    c.in_ok-write_whole-in-Unread.ensures.ok c.write_whole-in-Unread.ensures.ok

pub returns-in-LogonNowhere-clause-text : goal.returns-in-LogonNowhere-clause-text
returns-in-LogonNowhere-clause-text g c = rw c.in-LogonNowhere.is c.write_whole-in-LogonNowhere.ensures.ok

pub returns-in-NotOneAddress-clause-text : goal.returns-in-NotOneAddress-clause-text
returns-in-NotOneAddress-clause-text g c = rw c.in-NotOneAddress.is c.write_addresses.ensures.text

pub returns-in-NotOneQuestion-clause-text : goal.returns-in-NotOneQuestion-clause-text
returns-in-NotOneQuestion-clause-text g c = rw c.in-NotOneQuestion.is c.write_whole-in-NotOneQuestion.ensures.ok

pub returns-in-TwoBeginnings-clause-text : goal.returns-in-TwoBeginnings-clause-text
returns-in-TwoBeginnings-clause-text g c = rw c.in-TwoBeginnings.is c.write_whole-in-TwoBeginnings.ensures.ok

pub returns-in-TwoSources-clause-text : goal.returns-in-TwoSources-clause-text
returns-in-TwoSources-clause-text g c = rw c.in-TwoSources.is c.write_whole-in-TwoSources.ensures.ok

pub returns-in-Unquoted-clause-text : goal.returns-in-Unquoted-clause-text
returns-in-Unquoted-clause-text g c = rw c.in-Unquoted.is c.write_whole-in-Unquoted.ensures.ok

pub returns-in-NoCommand-clause-text : goal.returns-in-NoCommand-clause-text
returns-in-NoCommand-clause-text g c = rw c.in-NoCommand.is c.write_whole-in-NoCommand.ensures.ok
