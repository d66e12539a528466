-- What is typed as a command has no quoted text that is not closed.
use Rattle.std.proofs.Common.{
  ◌≡◌,
  ℕ,
  ◌+◌,
  ◌==◌,
  ◌&&◌,
  Bool,
  true,
  false,
  not,
  cond,
  List,
  [],
  ◌∷◌,
  ◌++◌,
  length,
  drop,
  Option,
  Some,
  None,
  refl,
  sym,
  ap,
  ◌∙◌,
  arith,
  suc,
  codes,
  inl,
  inr,
}
use Rattle.std.specs.Option.{option_map, is_none}
use Rattle.std.specs.List.{prefix_len, position, position_or_len}
use Rattle.std.specs.Char.{to_ascii_uppercase, is_ascii_digit}
use Rattle.std.proofs.lemmas.Bool.Decides.{nat_tests}
use Rattle.std.proofs.lemmas.List.{append_assoc, length-append}
use Rattle.std.proofs.Math.Seq.{drop-append_seam}
use Rattle.opc_names.specs.Names.{name_fault, user_rule, unit_rule}
use Rattle.opc_reader_commands.specs.declared.command.Text.{Text}
use Rattle.opc_reader_commands.specs.declared.command.Command.{Command}
use Rattle.opc_reader_commands.specs.declared.command.Command.TheVariants.{
  DisplayUnits,
  DisplayUnit,
  DisplayDevices,
  DisplayConsoles,
  DisplayReplies,
  Cancel,
  CancelUser,
  Force,
  Start,
  StartAs,
  Stop,
  Modify,
  Reply,
  VaryDeviceOnline,
  VaryDeviceOffline,
  VaryConsoleOnline,
  VaryConsoleOffline,
  VaryConsoleAuth,
  Mount,
  Unload,
  Swap,
  ResetConsole,
  Send,
  Log,
  Monitor,
  StopMonitor,
  Halt,
  Logon,
  Logoff,
}
use Rattle.opc_reader.specs.Forms.{Word, Name, QuotedText, AnyText, verb_of, parts, IsTyped, AreTyped}
use Rattle.opc_reader.specs.Lines.{open_after, open_place}
use Rattle.opc_reader.specs.Operands.{in_name}
use Rattle.opc_reader_commands.specs.Quotes.{closing_len, quoted_len, is_open}
use Rattle.opc_reader.specs.Reading.{quoted_prefix}
use Rattle.opc_reader_commands.specs.Stretches.{Stretch, folded, prefix, after}
use Rattle.opc_reader.proofs.Leaves.{name_chars}
use Rattle.opc_reader_commands.proofs.Quoted.{closed, plain_closed, not_opens}
use Rattle.opc_reader.proofs.Steps.{over_last, over_quoted_prefix, number_digits, map_some}

-- the first comma is that after a run of other characters
comma_first : (p : ℕ → Bool) (a b : List ℕ) → p 44 ≡ false → prefix_len p a ≡ length a → position_or_len (λ c. c == 44) (a ++ 44 ∷ b) ≡ length a
comma_first p [] b none h = refl
comma_first p (c ∷ a) b none h =
    elim (c == 44) as (λ v. (c == 44) ≡ v → cond (not v) (1 + position_or_len (λ d. d == 44) (a ++ 44 ∷ b)) 0 ≡ suc (length a)) [
      | true ↦ (λ e. absurd (no_comma (same c e)))
      | false ↦ (λ e. let rest = comma_first p a b none (others (p c) h) in omega (arith, rest))
    ] refl where
      same : (d : ℕ) → (d == 44) ≡ true → d ≡ 44
      same d e = grind (arith, nat_tests)

      others : (v : Bool) → cond v (1 + prefix_len p a) 0 ≡ suc (length a) → prefix_len p a ≡ length a
      others true k = omega (arith, k)
      others false k = absurd (omega (arith, k))

      passes : (v : Bool) → cond v (1 + prefix_len p a) 0 ≡ suc (length a) → v ≡ true
      passes true k = refl
      passes false k = absurd (omega (arith, k))

      no_comma : c ≡ 44 → ⊥
      no_comma e =
          let bad : false ≡ true = sym none ∙ sym (ap p e) ∙ passes (p c) h in
          true_false bad where
            true_false : false ≡ true → ⊥
            true_false b = cc

text_closed : (t : Text) (s : Stretch) → IsTyped (AnyText t) s → is_open s.text ≡ false
text_closed t s (e, inl q) = closed s.text q
text_closed t s (e, inr (plain, some)) = plain_closed s.text (not_opens s.text plain)

one_comma : (x : List ℕ) → folded x ≡ 44 ∷ [] → x ≡ 44 ∷ []
one_comma [] h = cc
one_comma (c ∷ []) h = let same : to_ascii_uppercase c ≡ 44 = cc in ap (λ v. v ∷ []) (is_comma c same) where
  is_comma : (d : ℕ) → to_ascii_uppercase d ≡ 44 → d ≡ 44
  is_comma d k = grind (arith, nat_tests)
one_comma (c ∷ (d ∷ x)) h = cc

-- the text after the first comma is closed
closed_after : (p : ℕ → Bool) (a b : List ℕ) (n : ℕ) (text : Text) (s : Stretch) → p 44 ≡ false
    → prefix_len p a ≡ length a → s.text ≡ a ++ b → AreTyped (Word (codes ",") ∷ AnyText text ∷ []) (record {
      text = b;
      from = n;
    }) → open_after (position (λ c. c == 44) s.text) s ≡ None
closed_after p a b n text s none run e (a', b', e', comma, rest) =
    let word : a' ≡ 44 ∷ [] = one_comma a' comma in
    let whole : s.text ≡ a ++ 44 ∷ b' = e ∙ ap (λ x. a ++ x) (e' ∙ ap (λ x. x ++ b') word) in
    let at : position_or_len (λ c. c == 44) s.text ≡ length a = ap (position_or_len (λ c. c == 44)) whole ∙ comma_first p a b' none run in
    let count : length s.text ≡ length a + suc (length b') = ap length whole ∙ length-append a (44 ∷ b') in
    let place : position (λ c. c == 44) s.text ≡ Some (length a) = grind (arith, nat_tests, at, count) in
    let after_it : drop (length a + 1) s.text ≡ b' =
    ap (drop (length a + 1)) (whole ∙ sym (append_assoc a (44 ∷ []) b'))
    ∙ ap (λ n. drop n ((a ++ 44 ∷ []) ++ b')) (sym (length-append a (44 ∷ [])))
    ∙ drop-append_seam (a ++ 44 ∷ []) b' in
    rw (place, after_it, text_closed text _ (over_last (AnyText text) _ rest)) refl

-- a quoted text at the start is closed
closed_prefix : (t : Text) (s r : Stretch) → quoted_prefix s ≡ Some (t, r) → is_open s.text ≡ false
unfolding quoted_prefix
closed_prefix t s r h = let found = map_some (λ n. (record { typed = prefix n s }, after n s)) (quoted_len s.text)
    (t, r) h in counted s.text found.0 found.1 where
      none_left : (o : Option ℕ) (n : ℕ) → option_map (λ m. m + 1) o ≡ Some n → is_none o ≡ false
      none_left None n k = cc
      none_left (Some m) n k = refl

      counted : (text : List ℕ) (n : ℕ) → quoted_len text ≡ Some n → is_open text ≡ false
      counted [] n k = refl
      counted (c ∷ cs) n k =
          elim (c == 39) as (λ v. cond v (option_map (λ m. m + 1) (closing_len cs)) None ≡ Some n → (v && is_none (closing_len cs)) ≡ false) [
            | true ↦ (λ g. none_left (closing_len cs) n g)
            | false ↦ (λ g. refl)
          ] k

pub no_open : (c : Command) (s : Stretch) → AreTyped (parts c) s → open_place (verb_of c) s ≡ None
no_open DisplayUnits s t = refl
no_open (DisplayUnit name) s t = refl
no_open DisplayDevices s t = refl
no_open DisplayConsoles s t = refl
no_open DisplayReplies s t = refl
no_open (Cancel name) s t = refl
no_open (CancelUser user) s t = refl
no_open (Force name) s t = refl
no_open (Start member) s t = refl
no_open (StartAs member id) s t = refl
no_open (Stop name) s t = refl
no_open (Modify name text) s (a, b, e, typed, rest) =
    let fault : name_fault unit_rule (folded a) ≡ None = rw (← typed.1) typed.2 in
    closed_after in_name a b _ text s refl (name_chars unit_rule a refl fault) e rest
no_open (Reply id text) s (a, b, e, typed, rest) = closed_after is_ascii_digit a b _ text s refl (number_digits a id.value typed.1) e rest
no_open (VaryDeviceOnline device) s t = refl
no_open (VaryDeviceOffline device) s t = refl
no_open (VaryConsoleOnline console) s t = refl
no_open (VaryConsoleOffline console) s t = refl
no_open (VaryConsoleAuth console auth) s t = refl
no_open (Mount device volume) s t = refl
no_open (Unload device) s t = refl
no_open (Swap from to) s t = refl
no_open (ResetConsole console) s t = refl
no_open (Send text user) s t =
    let quote = over_quoted_prefix text (codes "USER=(") 44 (Name user_rule user ∷ Word (codes ")") ∷ []) s refl t in
    rw (closed_prefix text s quote.rest quote.read_is) refl
no_open (Log text) s t = rw (closed s.text (over_last (QuotedText text) s t).1) refl
no_open Monitor s t = refl
no_open StopMonitor s t = refl
no_open Halt s t = refl
no_open (Logon user password) s t = refl
no_open Logoff s t = refl
