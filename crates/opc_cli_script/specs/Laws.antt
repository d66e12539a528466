-- What reading a script means.
use Rattle.std.specs.Prelude.{◌≡◌, ◌++◌, ◌∷◌, ℕ, List, Some, false, true}
use Rattle.std.specs.List.{list_all}
use Rattle.opc_board.specs.declared.event.Event.{Event}
use Rattle.opc_cli_script.specs.Events.{IsEvent, event_text}
use Rattle.opc_cli_failures.specs.declared.bad_line.LineForm.TheVariants.{Now, Script}
use Rattle.opc_cli_failures.specs.declared.bad_line.Slip.TheVariants.{Console, NoMoment}
use Rattle.opc_cli_script.specs.Reading.{event_in, is_space}
use Rattle.opc_cli_script.specs.Slips.{is_in_word, shown_start}

-- An event reads back from its text.
abbrev pub EventsReadBack : Type 0
EventsReadBack = (e : Event) → IsEvent e → event_in (event_text e) ≡ Some e

-- A text is read as an event only if it is that event's text.
abbrev pub EventsAreSpelled : Type 0
EventsAreSpelled = (text : List ℕ) (e : Event) → event_in text ≡ Some e → IsEvent e × (text ≡ event_text e)

-- spaces or none, and a word
pub record IsWord (text : List ℕ) : Type 0 where
  pub before : List ℕ
  pub first : ℕ
  pub rest : List ℕ
  pub is : text ≡ before ++ first ∷ rest
  pub spaces : list_all is_space before ≡ true
  pub word : list_all is_in_word (first ∷ rest) ≡ true

-- Whatever stands after the word that is wrong, after a space or a comma, the same is shown: no password of a LOGON.
pub record SlipsShowNoPassword : Type 0 where
  -- of a line without a timestamp, its first word
  pub of_no_moment : (word one other : List ℕ) (end last : ℕ) → IsWord word → is_in_word end ≡ false
      → is_in_word last ≡ false
      → shown_start Script NoMoment (word ++ end ∷ one) ≡ shown_start Script NoMoment (word ++ last ∷ other)
  -- of a line whose console is invalid, its timestamp and the console
  pub of_consoles : (moment word one other : List ℕ) (end last : ℕ) → IsWord moment → IsWord word
      → is_in_word end ≡ false → is_in_word last ≡ false
      → shown_start Script Console (moment ++ 32 ∷ word ++ end ∷ one)
      ≡ shown_start Script Console (moment ++ 32 ∷ word ++ last ∷ other)
  -- and if lines have no timestamp, the console
  pub of_untimed : (word one other : List ℕ) (end last : ℕ) → IsWord word → is_in_word end ≡ false
      → is_in_word last ≡ false
      → shown_start Now Console (word ++ end ∷ one) ≡ shown_start Now Console (word ++ last ∷ other)
