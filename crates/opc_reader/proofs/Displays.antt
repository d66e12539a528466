-- D.
use Rattle.std.proofs.Common.{◌≡◌, ℕ, cond, List, [], ◌∷◌, ◌++◌, Some, true, false, refl, sym, ap, ◌∙◌, inl, inr, codes, ◌⊎◌}
use Rattle.std.specs.Str.{bytes_eq}
use Rattle.std.specs.Char.{to_ascii_uppercase}
use Rattle.std.proofs.lemmas.List.{map-append}
use Rattle.std.proofs.lemmas.Option.{same_Some}
use Rattle.std.proofs.lemmas.Bool.{false≢true}
use Rattle.opc_names.specs.Names.{unit_rule}
use Rattle.opc_reader.specs.declared.verb.Verb.TheVariants as verb
use Rattle.opc_reader_commands.specs.declared.command.Operand.{Operand}
use Rattle.opc_reader_commands.specs.declared.command.Command.{Command}
use Rattle.opc_reader_commands.specs.declared.command.Command.TheVariants.{DisplayUnits, DisplayUnit, DisplayDevices, DisplayConsoles, DisplayReplies}
use Rattle.opc_reader.specs.Forms.{Word, Name, parts, IsMeant, AreTyped}
use Rattle.opc_reader.specs.Reading.{◌>>=◌, last_name, display}
use Rattle.opc_reader_commands.specs.Stretches.{Stretch, folded, word}
use Rattle.opc_reader.proofs.Leaves.{bytes_same, bytes_refl, bytes_other, after_part}
use Rattle.opc_reader.proofs.Steps.{over_word, back_word, over_last, back_last, over_last_name, back_last_name, bind_some, cond_cases, Gives, gives}

display_text : (o : Operand (List ℕ)) (s : Stretch) → AreTyped (Word (codes "A,") ∷ Name unit_rule o ∷ []) s → folded s.text ≡ 65 ∷ 44 ∷ o.value
display_text o s (a, b, e, typed, rest) =
    let last = over_last (Name unit_rule o) (after_part a b s.from) rest in
    ap folded e ∙ map-append to_ascii_uppercase a b ∙ ap (λ x. x ++ folded b) typed ∙ ap (λ x. 65 ∷ 44 ∷ x) (sym last.1)

pub units : (s : Stretch) → AreTyped (parts DisplayUnits) s → display s ≡ Some DisplayUnits
unfolding display
units s t = rw (over_last (Word (codes "A,L")) s t) refl

pub unit : (name : Operand (List ℕ)) (s : Stretch) → AreTyped (parts (DisplayUnit name)) s → IsMeant (DisplayUnit name) → display s ≡ Some (DisplayUnit name)
unfolding display
unit name s t meant =
    let step = over_word (codes "A,") (Name unit_rule name ∷ []) s t in
    let text = display_text name s t in
    rw (text, bytes_other name.value (codes "L") meant, step.read_is, over_last_name unit_rule name step.rest refl step.typed) refl

pub devices : (s : Stretch) → AreTyped (parts DisplayDevices) s → display s ≡ Some DisplayDevices
unfolding display
devices s t = rw (over_last (Word (codes "U")) s t) refl

pub consoles : (s : Stretch) → AreTyped (parts DisplayConsoles) s → display s ≡ Some DisplayConsoles
unfolding display
consoles s t = rw (over_last (Word (codes "C")) s t) refl

pub replies : (s : Stretch) → AreTyped (parts DisplayReplies) s → display s ≡ Some DisplayReplies
unfolding display
replies s t = rw (over_last (Word (codes "R")) s t) refl

display_word : (w : List ℕ) (s : Stretch) → bytes_eq (folded s.text) w ≡ true → AreTyped (Word w ∷ []) s
display_word w s h = back_last (Word w) s (bytes_same _ _ h)

pub display_found : (s : Stretch) (c : Command) → display s ≡ Some c → Gives verb.Display s c
unfolding display
display_found s c h = first (cond_cases (bytes_eq (folded s.text) (codes "A,L")) _ _ _ h) where
  unit_found : (bytes_eq (folded s.text) (codes "A,L") ≡ false)
      → (word (codes "A,") s >>= λ rest. last_name unit_rule rest >>= λ name. Some (DisplayUnit name)) ≡ Some c
      → Gives verb.Display s c
  unit_found isnt k =
      let opened = bind_some (word (codes "A,") s) _ c k in
      let name = bind_some (last_name unit_rule opened.0) (λ x. Some (DisplayUnit x)) c opened.2 in
      let typed = back_word (codes "A,") (Name unit_rule name.0 ∷ []) s opened.0 opened.1 (back_last_name unit_rule name.0 opened.0 name.1) in
      gives verb.Display s (DisplayUnit name.0) c (same_Some _ _ name.2) (record {
        verb = refl;
        typed = typed;
        meant = λ e. absurd (false≢true (sym isnt
            ∙ ap (λ t. bytes_eq t (codes "A,L")) (display_text name.0 s typed ∙ ap (λ x. 65 ∷ 44 ∷ x) e)
            ∙ bytes_refl (codes "A,L")));
      })

  fourth : (bytes_eq (folded s.text) (codes "A,L") ≡ false)
      → ((bytes_eq (folded s.text) (codes "R") ≡ true) × (Some DisplayReplies ≡ Some c))
      ⊎ ((bytes_eq (folded s.text) (codes "R") ≡ false)
      × ((word (codes "A,") s >>= λ rest. last_name unit_rule rest >>= λ name. Some (DisplayUnit name)) ≡ Some c))
      → Gives verb.Display s c
  fourth isnt (inl (e, k)) = gives verb.Display s DisplayReplies c (same_Some _ _ k) (record { verb = refl; typed = display_word (codes "R") s e; meant = tt })
  fourth isnt (inr (e, k)) = unit_found isnt k

  third : (bytes_eq (folded s.text) (codes "A,L") ≡ false)
      → (cond (bytes_eq (folded s.text) (codes "C")) (Some DisplayConsoles)
      (cond (bytes_eq (folded s.text) (codes "R")) (Some DisplayReplies)
      (word (codes "A,") s >>= λ rest. last_name unit_rule rest >>= λ name. Some (DisplayUnit name)))) ≡ Some c
      → Gives verb.Display s c
  third isnt k = elim (cond_cases (bytes_eq (folded s.text) (codes "C")) _ _ _ k) [
    | inl e ↦ gives verb.Display s DisplayConsoles c (same_Some _ _ e.1) (record { verb = refl; typed = display_word (codes "C") s e.0; meant = tt })
    | inr e ↦ fourth isnt (cond_cases (bytes_eq (folded s.text) (codes "R")) _ _ _ e.1)
  ]

  first : ((bytes_eq (folded s.text) (codes "A,L") ≡ true) × (Some DisplayUnits ≡ Some c))
      ⊎ ((bytes_eq (folded s.text) (codes "A,L") ≡ false)
      × (cond (bytes_eq (folded s.text) (codes "U")) (Some DisplayDevices)
      (cond (bytes_eq (folded s.text) (codes "C")) (Some DisplayConsoles)
      (cond (bytes_eq (folded s.text) (codes "R")) (Some DisplayReplies)
      (word (codes "A,") s >>= λ rest. last_name unit_rule rest >>= λ name. Some (DisplayUnit name)))) ≡ Some c))
      → Gives verb.Display s c
  first (inl (e, k)) = gives verb.Display s DisplayUnits c (same_Some _ _ k) (record { verb = refl; typed = display_word (codes "A,L") s e; meant = tt })
  first (inr (isnt, k)) = elim (cond_cases (bytes_eq (folded s.text) (codes "U")) _ _ _ k) [
    | inl e ↦ gives verb.Display s DisplayDevices c (same_Some _ _ e.1) (record { verb = refl; typed = display_word (codes "U") s e.0; meant = tt })
    | inr e ↦ third isnt e.1
  ]
