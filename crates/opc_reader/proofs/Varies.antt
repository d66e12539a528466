-- V.
use Rattle.std.proofs.Common.{
  ◌≡◌,
  ℕ,
  cond,
  true,
  false,
  List,
  [],
  ◌∷◌,
  ◌++◌,
  length,
  take,
  Option,
  Some,
  None,
  refl,
  sym,
  ap,
  ◌∙◌,
  arith,
  lit<,
  inl,
  inr,
  codes,
  ◌⊎◌,
}
use Rattle.std.specs.List.{prefix_len}
use Rattle.std.specs.Str.{bytes_eq, IsAscii}
use Rattle.std.specs.Char.{to_ascii_uppercase}
use Rattle.std.proofs.lemmas.List.{map-append, take-append-le, take-map}
use Rattle.std.proofs.lemmas.List.Folds.{prefix_len-append}
use Rattle.std.proofs.Math.Seq.{take-append_seam}
use Rattle.std.proofs.lemmas.Option.{same_Some, none-some}
use Rattle.std.proofs.lemmas.Bool.{false≢true}
use Rattle.std.proofs.lemmas.Bool.Decides.{nat_tests}
use Rattle.std.proofs.lemmas.Str.{chars-IsAscii}
use Rattle.std.proofs.lemmas.Str.Ascii.{IsAscii-cons, IsAscii-nil}
use Rattle.opc_names.specs.declared.auth.Auth.{Auth}
use Rattle.opc_names.specs.Names.{name_fault, device_rule, console_rule}
use Rattle.opc_reader.specs.declared.verb.Verb.TheVariants as verb
use Rattle.opc_reader_commands.specs.declared.command.Operand.{Operand}
use Rattle.opc_reader_commands.specs.declared.command.Command.{Command}
use Rattle.opc_reader_commands.specs.declared.command.Command.TheVariants.{
  VaryDeviceOnline,
  VaryDeviceOffline,
  VaryConsoleOnline,
  VaryConsoleOffline,
  VaryConsoleAuth,
}
use Rattle.opc_reader.specs.Forms.{Part, Word, Name, Authority, parts, AreTyped}
use Rattle.opc_reader.specs.Operands.{in_name}
use Rattle.opc_reader.specs.Reading.{◌>>=◌, name, authority, vary_device, vary_console, vary_opened, vary}
use Rattle.opc_reader_commands.specs.Stretches.{Stretch, folded, word}
use Rattle.opc_reader.proofs.Leaves.{bytes_same, length_folded, word_found, word_run, name_chars, name_long}
use Rattle.opc_reader.proofs.Steps.{
  Stops,
  stops,
  over_word,
  back_word,
  over_name,
  back_name,
  over_last,
  back_last,
  over_authority,
  back_authority,
  bind_some,
  cond_cases,
  Gives,
  gives,
}

short_device : name_fault device_rule (codes "CN") ≡ None → ⊥
short_device f =
    let long = name_long device_rule (codes "CN") f in
    let ascii : IsAscii (codes "CN") = IsAscii-cons 67 (78 ∷ []) (lit< tt) (IsAscii-cons 78 [] (lit< tt) IsAscii-nil) in
    let bad : true ≡ false = rw (chars-IsAscii (codes "CN") ascii) at long in
    true_false bad where
      true_false : true ≡ false → ⊥
      true_false e = absurd (false≢true (sym e))

-- a device does not begin with `CN(`
device_no_console : (o : Operand (List ℕ)) (ps : List Part) (s : Stretch) → Stops ps → AreTyped (Name device_rule o ∷ ps) s → word (codes "CN(") s ≡ None
device_no_console o ps s h (a, b, e, (typed, value, fine), rest) = none_is_left (word (codes "CN(") s) refl where
  fault : name_fault device_rule (folded a) ≡ None
  fault = rw (← value) fine

  none_is_left : (read : Option Stretch) → word (codes "CN(") s ≡ read → word (codes "CN(") s ≡ None
  none_is_left None k = k
  none_is_left (Some r) k =
      let run : prefix_len in_name s.text ≡ 2 = word_run (codes "CN(") s r k (lit< tt) in
      let all : prefix_len in_name a ≡ length a = name_chars device_rule a refl fault in
      let none : prefix_len in_name b ≡ 0 = stops ps _ h rest in
      let same : prefix_len in_name s.text ≡ prefix_len in_name (a ++ b) = ap (prefix_len in_name) e in
      let two : length a ≡ 2 = grind (arith, nat_tests, prefix_len-append in_name a b) in
      let found = word_found (codes "CN(") s r k in
      let seam : a ≡ take 2 found.0 =
      sym (take-append_seam a b) ∙ ap (λ n. take n (a ++ b)) two ∙ ap (take 2) (sym e ∙ found.1)
      ∙ take-append-le 2 found.0 r.text (omega (arith, sym (length_folded found.0) ∙ ap length found.2)) in
      let text : folded a ≡ codes "CN" = ap folded seam ∙ sym (take-map to_ascii_uppercase 2 found.0) ∙ ap (take 2) found.2 in
      absurd (short_device (rw text at fault))

-- what follows the name, in upper case
auth_text : (o : Operand Auth) (s : Stretch) → AreTyped (Word (codes "),AUTH=") ∷ Authority o ∷ []) s → (b : List ℕ) × (folded s.text ≡ codes "),AUTH=" ++ b)
auth_text o s (a, b, e, typed, rest) = (folded b, ap folded e ∙ map-append to_ascii_uppercase a b ∙ ap (λ x. x ++ folded b) typed)

pub device_online : (device : Operand (List ℕ)) (s : Stretch) → AreTyped (parts (VaryDeviceOnline device)) s → vary s ≡ Some (VaryDeviceOnline device)
unfolding vary vary_device
device_online device s t =
    let none = device_no_console device (Word (codes ",ONLINE") ∷ []) s refl t in
    let step = over_name device_rule device (Word (codes ",ONLINE") ∷ []) s refl refl t in
    rw (none, step.read_is, over_last (Word (codes ",ONLINE")) step.rest step.typed) refl

pub device_offline : (device : Operand (List ℕ)) (s : Stretch) → AreTyped (parts (VaryDeviceOffline device)) s → vary s ≡ Some (VaryDeviceOffline device)
unfolding vary vary_device
device_offline device s t =
    let none = device_no_console device (Word (codes ",OFFLINE") ∷ []) s refl t in
    let step = over_name device_rule device (Word (codes ",OFFLINE") ∷ []) s refl refl t in
    rw (none, step.read_is, over_last (Word (codes ",OFFLINE")) step.rest step.typed) refl

pub console_online : (console : Operand (List ℕ)) (s : Stretch) → AreTyped (parts (VaryConsoleOnline console)) s → vary s ≡ Some (VaryConsoleOnline console)
unfolding vary vary_console
console_online console s t =
    let opened = over_word (codes "CN(") (Name console_rule console ∷ Word (codes "),ONLINE") ∷ []) s t in
    let step = over_name console_rule console (Word (codes "),ONLINE") ∷ []) opened.rest refl refl opened.typed in
    rw (opened.read_is, step.read_is, over_last (Word (codes "),ONLINE")) step.rest step.typed) refl

pub console_offline : (console : Operand (List ℕ)) (s : Stretch) → AreTyped (parts (VaryConsoleOffline console)) s → vary s ≡ Some (VaryConsoleOffline console)
unfolding vary vary_console
console_offline console s t =
    let opened = over_word (codes "CN(") (Name console_rule console ∷ Word (codes "),OFFLINE") ∷ []) s t in
    let step = over_name console_rule console (Word (codes "),OFFLINE") ∷ []) opened.rest refl refl opened.typed in
    rw (opened.read_is, step.read_is, over_last (Word (codes "),OFFLINE")) step.rest step.typed) refl

pub console_auth : (console : Operand (List ℕ)) (auth : Operand Auth) (s : Stretch)
    → AreTyped (parts (VaryConsoleAuth console auth)) s → vary s ≡ Some (VaryConsoleAuth console auth)
unfolding vary vary_console
console_auth console auth s t =
    let opened = over_word (codes "CN(") (Name console_rule console ∷ Word (codes "),AUTH=") ∷ Authority auth ∷ []) s t in
    let step = over_name console_rule console (Word (codes "),AUTH=") ∷ Authority auth ∷ []) opened.rest refl refl opened.typed in
    let text = auth_text auth step.rest step.typed in
    let close = over_word (codes "),AUTH=") (Authority auth ∷ []) step.rest step.typed in
    rw (opened.read_is, step.read_is, text.1, close.read_is, over_authority auth close.rest close.typed) refl

last_word : (w : List ℕ) (s : Stretch) → bytes_eq (folded s.text) w ≡ true → AreTyped (Word w ∷ []) s
last_word w s h = back_last (Word w) s (bytes_same _ _ h)

device_found : (s : Stretch) (c : Command) → vary_device s ≡ Some c → Gives verb.Vary s c
unfolding vary_device
device_found s c h =
    let device = bind_some (name device_rule s) _ c h in
    online device.0.0 device.0.1 device.1 (cond_cases (bytes_eq (folded device.0.1.text) (codes ",ONLINE")) _ _ _ device.2) where
      offline : (o : Operand (List ℕ)) (left : Stretch) → name device_rule s ≡ Some (o, left)
          → ((bytes_eq (folded left.text) (codes ",OFFLINE") ≡ true) × (Some (VaryDeviceOffline o) ≡ Some c))
          ⊎ ((bytes_eq (folded left.text) (codes ",OFFLINE") ≡ false) × (None ≡ Some c)) → Gives verb.Vary s c
      offline o left found (inl (e, k)) = gives verb.Vary s (VaryDeviceOffline o) c (same_Some _ _ k) (record {
        verb = refl;
        typed = back_name device_rule o (Word (codes ",OFFLINE") ∷ []) s left found (last_word (codes ",OFFLINE") left e);
        meant = tt;
      })
      offline o left found (inr (e, k)) = absurd (none-some c k)

      online : (o : Operand (List ℕ)) (left : Stretch) → name device_rule s ≡ Some (o, left)
          → ((bytes_eq (folded left.text) (codes ",ONLINE") ≡ true) × (Some (VaryDeviceOnline o) ≡ Some c))
          ⊎ ((bytes_eq (folded left.text) (codes ",ONLINE") ≡ false)
          × (cond (bytes_eq (folded left.text) (codes ",OFFLINE")) (Some (VaryDeviceOffline o)) None ≡ Some c))
          → Gives verb.Vary s c
      online o left found (inl (e, k)) = gives verb.Vary s (VaryDeviceOnline o) c (same_Some _ _ k) (record {
        verb = refl;
        typed = back_name device_rule o (Word (codes ",ONLINE") ∷ []) s left found (last_word (codes ",ONLINE") left e);
        meant = tt;
      })
      online o left found (inr (e, k)) = offline o left found (cond_cases (bytes_eq (folded left.text) (codes ",OFFLINE")) _ _ _ k)

console_found : (s rest : Stretch) (c : Command) → word (codes "CN(") s ≡ Some rest → vary_console rest ≡ Some c → Gives verb.Vary s c
unfolding vary_console
console_found s rest c opened h =
    let console = bind_some (name console_rule rest) _ c h in
    online console.0.0 console.0.1 console.1 (cond_cases (bytes_eq (folded console.0.1.text) (codes "),ONLINE")) _ _ _ console.2) where
      after_name : (o : Operand (List ℕ)) (left : Stretch) (ps : List Part) → name console_rule rest ≡ Some (o, left)
          → AreTyped ps left → AreTyped (Word (codes "CN(") ∷ Name console_rule o ∷ ps) s
      after_name o left ps found t = back_word (codes "CN(") (Name console_rule o ∷ ps) s rest opened (back_name console_rule o ps rest left found t)

      auth : (o : Operand (List ℕ)) (left : Stretch) → name console_rule rest ≡ Some (o, left)
          → (word (codes "),AUTH=") left >>= λ r. authority r >>= λ x. Some (VaryConsoleAuth o x)) ≡ Some c
          → Gives verb.Vary s c
      auth o left found k =
          let close = bind_some (word (codes "),AUTH=") left) _ c k in
          let to = bind_some (authority close.0) (λ x. Some (VaryConsoleAuth o x)) c close.2 in
          gives verb.Vary s (VaryConsoleAuth o to.0) c (same_Some _ _ to.2) (record {
            verb = refl;
            typed = after_name o left (Word (codes "),AUTH=") ∷ Authority to.0 ∷ []) found
                (back_word (codes "),AUTH=") (Authority to.0 ∷ []) left close.0 close.1
                (back_authority to.0 close.0 to.1));
            meant = tt;
          })

      offline : (o : Operand (List ℕ)) (left : Stretch) → name console_rule rest ≡ Some (o, left)
          → ((bytes_eq (folded left.text) (codes "),OFFLINE") ≡ true) × (Some (VaryConsoleOffline o) ≡ Some c))
          ⊎ ((bytes_eq (folded left.text) (codes "),OFFLINE") ≡ false)
          × ((word (codes "),AUTH=") left >>= λ r. authority r >>= λ x. Some (VaryConsoleAuth o x)) ≡ Some c))
          → Gives verb.Vary s c
      offline o left found (inl (e, k)) = gives verb.Vary s (VaryConsoleOffline o) c (same_Some _ _ k) (record {
        verb = refl;
        typed = after_name o left (Word (codes "),OFFLINE") ∷ []) found (last_word (codes "),OFFLINE") left e);
        meant = tt;
      })
      offline o left found (inr (e, k)) = auth o left found k

      online : (o : Operand (List ℕ)) (left : Stretch) → name console_rule rest ≡ Some (o, left)
          → ((bytes_eq (folded left.text) (codes "),ONLINE") ≡ true) × (Some (VaryConsoleOnline o) ≡ Some c))
          ⊎ ((bytes_eq (folded left.text) (codes "),ONLINE") ≡ false)
          × (cond (bytes_eq (folded left.text) (codes "),OFFLINE")) (Some (VaryConsoleOffline o))
          (word (codes "),AUTH=") left >>= λ r. authority r >>= λ x. Some (VaryConsoleAuth o x)) ≡ Some c))
          → Gives verb.Vary s c
      online o left found (inl (e, k)) = gives verb.Vary s (VaryConsoleOnline o) c (same_Some _ _ k) (record {
        verb = refl;
        typed = after_name o left (Word (codes "),ONLINE") ∷ []) found (last_word (codes "),ONLINE") left e);
        meant = tt;
      })
      online o left found (inr (e, k)) = offline o left found (cond_cases (bytes_eq (folded left.text) (codes "),OFFLINE")) _ _ _ k)

pub vary_found : (s : Stretch) (c : Command) → vary s ≡ Some c → Gives verb.Vary s c
unfolding vary
vary_found s c h = by_word (word (codes "CN(") s) refl h where
  by_word : (read : Option Stretch) → word (codes "CN(") s ≡ read → vary_opened read s ≡ Some c → Gives verb.Vary s c
  by_word (Some rest) e k = console_found s rest c e k
  by_word None e k = device_found s c k
