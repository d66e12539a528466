-- The parts of an answer, one after another.
use Rattle.std.proofs.Common.{◌≡◌, ◌∙◌, ◌+◌, ◌<◌, ◌++◌, ◌∷◌, ℕ, Bool, List}
use Rattle.std.proofs.Common.{[], Option, Result, Ok, Err, ap, append-nil, append_assoc, get_or, length, refl, subst, sym, take}
use Rattle.std.specs.Prelude.{OnOk, count_by}
use Rattle.std.specs.Io.KnownBytes.{Appends}
use Rattle.std.specs.List.{flat_map}
use Rattle.std.proofs.KnownBytes.{Appends-trans}
use Rattle.std.proofs.lemmas.List.{length-append, take_more}
use Rattle.std.proofs.lemmas.List.Concat.{flat_map-append}
use Rattle.std.proofs.lemmas.List.Sums.{sum_by-append}
use Rattle.opc_board.specs.declared.rows.ConsoleRow.{ConsoleRow}
use Rattle.opc_answers.specs.declared.lines.UserLine.{UserLine}
use Rattle.opc_answers.specs.declared.who.Who.{Who}
use Rattle.opc_answers.specs.Who.{consoles_of, raised_of, raised_there, users_of}
use Rattle.opc_answers.specs.declared.counts.Share.{Share}
use Rattle.opc_answers.specs.Json.{beginning_json, consoles_json, user_json}
use Rattle.opc_answers.specs.Texts.{beginning_text, console_lines_text, counts_of, counts_text, may, share_of, shown_user}
use Rattle.opc_check.specs.declared.form.Form.{Form}
use Rattle.opc_check.specs.declared.form.Form.TheVariants as form
use Rattle.opc_cli_questions.specs.Questions.{who_shown}
use Rattle.opc_cli_questions.specs.WhoPrinted.{beginning, consoles_shown, ending, users_shown}

pub on_ok : {T E P Q : Type 0} (r : Result T E) → (P → Q) → OnOk r P → OnOk r Q
on_ok (Ok x) f h = f h
on_ok (Err e) f h = h

pub none_shown : (f : Form) (allowed : Bool) → users_shown f allowed [] ≡ []
none_shown form.Text allowed = refl
none_shown form.Json allowed = refl

both_shown : (f : Form) (allowed : Bool) (one more : List UserLine)
    → users_shown f allowed (one ++ more) ≡ users_shown f allowed one ++ users_shown f allowed more
both_shown form.Text allowed one more = flat_map-append (shown_user allowed) one more
both_shown form.Json allowed one more = flat_map-append (user_json allowed) one more

abbrev pub sum_of : Share → Share → Share
sum_of x y = record { may = x.may + y.may; all = x.all + y.all }

both_counted : (one more : List UserLine) → sum_of (share_of one) (share_of more) ≡ share_of (one ++ more)
both_counted one more =
    ap (λ n. let s : Share = record { may = n; all = length one + length more } in s) (sym (sum_by-append _ one more))
    ∙ ap (λ n. let s : Share = record { may = count_by may (one ++ more); all = n } in s) (sym (length-append one more))

-- the lines at one console more
module _ (f : Form) (allowed : Bool) (who : Who) (consoles : List ConsoleRow) (at : ℕ) (console : ConsoleRow) (low : at < length consoles)
    (is : console ≡ get_or consoles at console) where
  abbrev pub lines_to : ℕ → List UserLine
  lines_to n = flat_map (raised_there who) (take n consoles)

  one_more : lines_to (at + 1) ≡ lines_to at ++ raised_there who console
  one_more =
      ap (flat_map (raised_there who)) (take_more consoles at console low ∙ ap (λ x. take at consoles ++ x ∷ []) (sym is))
      ∙ flat_map-append (raised_there who) (take at consoles) (console ∷ [])
      ∙ ap (λ xs. lines_to at ++ xs) (append-nil (raised_there who console))

  pub printed_more : (a b c : Option (List ℕ)) → Appends a b (users_shown f allowed (lines_to at))
      → Appends b c (users_shown f allowed (raised_there who console)) → Appends a c (users_shown f allowed (lines_to (at + 1)))
  printed_more a b c one two =
      subst (Appends a c) (sym (ap (users_shown f allowed) one_more ∙ both_shown f allowed (lines_to at) (raised_there who console)))
      (Appends-trans a b c _ _ one two)

  pub counted_more : (x y sum : Share) → x ≡ share_of (lines_to at) → y ≡ share_of (raised_there who console) → sum ≡ sum_of x y
      → sum ≡ share_of (lines_to (at + 1))
  counted_more x y sum is_x is_y both =
      both ∙ ap (λ (s : Share). sum_of s y) is_x ∙ ap (sum_of (share_of (lines_to at))) is_y
      ∙ both_counted (lines_to at) (raised_there who console) ∙ ap share_of (sym one_more)

joined : (a b c d f : List ℕ) → a ++ (b ++ c ++ d) ++ f ≡ a ++ b ++ c ++ d ++ f
joined a b c d f = ap (λ t. t ++ f) (sym (append_assoc a (b ++ c) d) ∙ ap (λ t. t ++ d) (sym (append_assoc a b c)))

-- all parts are the whole answer
pub whole : (f : Form) (allowed : Bool) (who : Who)
    → beginning f who ++ (users_shown f allowed (users_of who) ++ users_shown f allowed (raised_of who)
    ++ consoles_shown f allowed (consoles_of who))
    ++ ending f (counts_of who) ≡ who_shown f allowed who
whole form.Text allowed who =
    joined (beginning_text who) (flat_map (shown_user allowed) (users_of who)) (flat_map (shown_user allowed) (raised_of who))
    (console_lines_text allowed (consoles_of who)) (counts_text (counts_of who))
whole form.Json allowed who =
    let a = beginning_json who in
    let b = flat_map (user_json allowed) (users_of who) in
    let c = flat_map (user_json allowed) (raised_of who) in
    let d = consoles_json allowed (consoles_of who) in
    joined a b c d [] ∙ append-nil (a ++ b ++ c ++ d)
