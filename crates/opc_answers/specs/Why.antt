-- Why a user, or nobody, may or may not: what is needed, the profiles that cover, the verdict with its rule. And its
-- text.
use Rattle.std.specs.Prelude.{ℕ, Bool, false, true, List, [], ◌∷◌, ◌++◌, Option, Some, None, Result, Ok, Err, codes, if◌then◌else◌}
use Rattle.std.specs.List.{flat_map}
use Rattle.std.specs.Option.{is_some, option_or}
use Rattle.opc_terms.specs.declared.fault.Fault.{Fault}
use Rattle.opc_terms.specs.declared.fault.Fault.TheVariants.{NoConsole}
use Rattle.opc_terms.specs.declared.need.Need.{Need}
use Rattle.opc_terms.specs.declared.rule.Rule.{Rule}
use Rattle.opc_terms.specs.Rules.{rule_text}
use Rattle.opc_policy_members.specs.declared.policy.Policy.{Policy}
use Rattle.opc_policy.specs.declared.explained.Explained.{Explained}
use Rattle.opc_policy.specs.declared.ruling.Ruling.{Ruling}
use Rattle.opc_policy.specs.declared.ruling.Ruling.TheVariants as ruling
use Rattle.opc_policy.specs.declared.verdict.Verdict.{Verdict}
use Rattle.opc_policy.specs.declared.verdict.Verdict.TheVariants.{Allowed, Denied, Undecided}
use Rattle.opc_policy.specs.Explained.{covers_line, explanation}
use Rattle.opc_policy.specs.Verdicts.{verdict_text}
use Rattle.opc_policy_sources.specs.declared.levels.CoveringLevel.{CoveringLevel}
use Rattle.opc_policy_sources.specs.Levels.{covering_levels, levels_text}
use Rattle.opc_state.specs.State.{State}
use Rattle.opc_answers.specs.declared.explaining.CommandExplained.{CommandExplained}
use Rattle.opc_answers.specs.declared.logons.Instead.{Instead}
use Rattle.opc_answers.specs.declared.logons.Instead.TheVariants as instead
use Rattle.opc_answers.specs.declared.shows.Said.{Said}
use Rattle.opc_answers.specs.declared.shows.Said.TheVariants as said
use Rattle.opc_answers.specs.declared.wanted.Wanted.{Wanted}
use Rattle.opc_answers.specs.declared.wanted.Wanted.TheVariants as wanted
use Rattle.opc_answers.specs.declared.why.Covers.{Covers}
use Rattle.opc_answers.specs.declared.why.Covers.TheVariants as covers
use Rattle.opc_answers.specs.declared.why.LineExplained.{LineExplained}
use Rattle.opc_answers.specs.declared.why.Explanation.{Explanation}
use Rattle.opc_answers.specs.Explaining.{explained_in, logon_explained}
use Rattle.opc_answers.specs.Texts.{instead_text, instead_word, line_need_text, needs_text}
use Rattle.opc_answers.specs.Who.{class_of, line_of_wanted, line_wanted, resource_of, said_of}

-- the profiles that cover, as they are shown for the acting user: with the level that is held in each, or without
abbrev pub with_levels : Result (List CoveringLevel) Fault → Result Covers Fault
with_levels (Ok levels) = Ok (covers.Levels levels)
with_levels (Err fault) = Err fault

abbrev pub covers_of : Policy → Wanted → (levels : Bool) → (patterns : List (List ℕ)) → (id console : Option (List ℕ))
    → Result Covers Fault
covers_of p w false patterns id console = Ok (covers.Patterns patterns)
covers_of p w true patterns None console = Ok covers.Nobody
covers_of p w true patterns (Some id) console =
    with_levels (covering_levels p (class_of w) (resource_of w) id console)

-- Why a command, and why the line that it asks for, if it asks for one: the verdict and the rule are those of one of
-- them.
abbrev pub ruling_in : Verdict → Rule → Option Ruling
ruling_in Allowed rule = Some (ruling.Allowed rule)
ruling_in Denied rule = Some (ruling.Denied rule)
ruling_in Undecided rule = None

abbrev pub said_of_whys : (command line : Explanation) → Said
said_of_whys command line = if is_some command.instead then said.OfCommand else
    said_of (ruling_in command.verdict command.rule) (ruling_in line.verdict line.rule)

abbrev pub said_why : Said → (command line : Explanation) → Option LineExplained → Explanation
said_why said.OfCommand command line shown = record command { line = shown }
said_why said.OfLine command line shown =
    record command { line = shown; verdict = line.verdict; rule = line.rule; instead = None }
said_why said.Hidden command line shown =
    record command { line = shown; verdict = line.verdict; rule = line.rule; instead = Some instead.Hidden }

abbrev pub with_why : (command line : Explanation) → Need → Explanation
with_why command line need = said_why (said_of_whys command line) command line
    (Some (record { need = need; covers = line.covers }))

abbrev pub both_whys : Need → (command line : Result Explanation Fault) → Result Explanation Fault
both_whys need (Err fault) line = Err fault
both_whys need (Ok command) (Err fault) = Err fault
both_whys need (Ok command) (Ok line) = Ok (with_why command line need)

abbrev pub why_with : Wanted → (actor console : Option (List ℕ)) → Verdict → Rule → Option Instead
    → Result Covers Fault → Result Explanation Fault
why_with w actor console verdict rule instead (Ok shown) = Ok (record {
  wanted = w;
  actor = actor;
  console = console;
  covers = shown;
  verdict = verdict;
  rule = rule;
  instead = instead;
  line = None;
})
why_with w actor console verdict rule instead (Err fault) = Err fault

-- On a level of access the profiles alone decide.
abbrev pub why_access : Policy → (levels : Bool) → Wanted → (id : List ℕ) → (console : Option (List ℕ))
    → Result Explained Fault → Result Explanation Fault
why_access p levels w id console (Ok e) =
    why_with w (Some id) console e.verdict e.rule None (covers_of p w levels e.covering (Some id) console)
why_access p levels w id console (Err fault) = Err fault

-- On a command and on a LOGON, the answer is the machine's ruling. The acting user, if anybody acts, is the user, or a
-- console's own user, who has its name.
abbrev pub command_covers : Policy → Wanted → (levels : Bool) → Option (List (List ℕ))
    → (actor console : Option (List ℕ)) → Result Covers Fault
command_covers p w levels None actor console = Ok covers.Nobody
command_covers p w levels (Some patterns) actor console =
    covers_of p w levels patterns (option_or actor console) console

abbrev pub why_command : Policy → (levels : Bool) → Wanted → (actor console : Option (List ℕ))
    → Result CommandExplained Fault → Result Explanation Fault
why_command p levels w actor console (Ok e) =
    why_with w actor console e.verdict e.rule e.instead (command_covers p w levels e.covering actor console)
why_command p levels w actor console (Err fault) = Err fault

abbrev pub why_plain : State → (levels : Bool) → Wanted → (actor console : Option (List ℕ)) → Result Explanation Fault
why_plain s levels (wanted.Command entered) actor console =
    why_command s.policy levels (wanted.Command entered) actor console (explained_in s entered.need actor console)
why_plain s levels (wanted.Logon name) actor console =
    why_command s.policy levels (wanted.Logon name) actor console (logon_explained s name actor)
why_plain s levels (wanted.Access class resource level) None console = Err NoConsole
why_plain s levels (wanted.Access class resource level) (Some id) console =
    why_access s.policy levels (wanted.Access class resource level) id console
    (explanation s.policy class resource id console level)

abbrev pub why_with_line : State → (levels : Bool) → Wanted → (line : Option Need)
    → (actor console : Option (List ℕ)) → Result Explanation Fault
why_with_line s levels w None actor console = why_plain s levels w actor console
why_with_line s levels w (Some need) actor console = both_whys need (why_plain s levels w actor console)
    (why_plain s levels (line_wanted need) actor console)

-- why somebody, or nobody, may or may not, at a console if one is named
abbrev pub why_in : State → (levels : Bool) → Wanted → (actor console : Option (List ℕ)) → Result Explanation Fault
why_in s levels w actor console = why_with_line s levels w (line_of_wanted w) actor console

-- the lines of the profiles that cover
abbrev pub covers_text : Covers → List ℕ
covers_text covers.Nobody = []
covers_text (covers.Patterns patterns) = flat_map covers_line patterns
covers_text (covers.Levels levels) = levels_text levels

-- what the line needs that a command asks for, and the lines of the profiles that cover
abbrev pub line_text : Option LineExplained → List ℕ
line_text None = []
line_text (Some line) = line_need_text line.need ++ covers_text line.covers

-- the verdict and the rule, or what is said in their place
abbrev pub said_verdict : Verdict → Option Instead → List ℕ
said_verdict verdict None = verdict_text verdict
said_verdict verdict (Some instead) = instead_word instead

abbrev pub said_rule : Rule → Option Instead → List ℕ
said_rule rule None = rule_text rule
said_rule rule (Some instead) = instead_text instead (rule_text rule)

-- 10 is the line feed
abbrev pub verdict_line : Explanation → List ℕ
verdict_line w = said_verdict w.verdict w.instead ++ (codes " " ++ (said_rule w.rule w.instead ++ 10 ∷ []))

abbrev pub why_text : Explanation → List ℕ
why_text w = needs_text w.wanted ++ (covers_text w.covers ++ (line_text w.line ++ verdict_line w))
