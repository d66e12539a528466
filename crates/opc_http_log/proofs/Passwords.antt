-- Texts that hide what follows their first word, or their second one.
use Rattle.std.proofs.Common.{
  ◌≡◌,
  ◌∙◌,
  ◌+◌,
  ◌-◌,
  ℕ,
  suc,
  List,
  [],
  ◌∷◌,
  ◌++◌,
  Bool,
  true,
  false,
  Ok,
  Err,
  ap,
  append_assoc,
  arith,
  drop,
  length,
  length-append,
  refl,
  sym,
  take,
}
use Rattle.std.specs.Prelude.{◌&&◌, ◌||◌, ◌==◌, Result, if◌then◌else◌, not}
use Rattle.std.specs.List.{list_all, prefix_len}
use Rattle.std.proofs.lemmas.Bool.Decides.{nat_tests}
use Rattle.std.proofs.Math.Seq.{drop-append_seam, take-append_seam}
use Rattle.opc_reader.specs.Lines.{Reads}
use Rattle.opc_reader.specs.declared.line.ReadFault.{ReadFault}
use Rattle.opc_reader.proofs.Exact.{reads_so, so_reads}
use Rattle.opc_reader_commands.specs.declared.command.Command.{Command}
use Rattle.opc_reader_commands.specs.declared.command.Command.TheVariants.{Logon}
use Rattle.opc_http_log.specs.Laws.{IsLogon, IsNoCommand, IsSpacedWord, IsVerbless}
use Rattle.opc_http_log.specs.Typed.{after_spaces, first_word, hidden_by, is_in_word, is_space, is_verb, past_word, read_as, stars, typed, without}

second : (one other : Bool) → (one && other) ≡ true → other ≡ true
second true other h = h
second false other h = absurd (cc)

-- how many pass a test, if all of some do and the next one does not
pass : (test : ℕ → Bool) (xs : List ℕ) (y : ℕ) (ys : List ℕ) → list_all test xs ≡ true → test y ≡ false
    → prefix_len test (xs ++ y ∷ ys) ≡ length xs
pass test [] y ys all ends = rw ends refl
pass test (x ∷ xs) y ys all ends = by (test x) refl (pass test xs y ys (second (test x) (list_all test xs) all) ends)
  where
    by : (is : Bool) → test x ≡ is → prefix_len test (xs ++ y ∷ ys) ≡ length xs → prefix_len test (x ∷ xs ++ y ∷ ys) ≡ suc (length xs)
    by true is rest = rw (is, rest) (omega arith)
    by false is rest = absurd (cc)

left_out : (xs : List ℕ) (y : ℕ) (ys : List ℕ) → list_all is_space xs ≡ true → is_space y ≡ false
    → after_spaces (xs ++ y ∷ ys) ≡ y ∷ ys
left_out xs y ys all ends = rw (pass is_space xs y ys all ends) (drop-append_seam xs (y ∷ ys))

-- what continues a word is no space
no_space : (space comma more : Bool) → (not (space || comma) && more) ≡ true → space ≡ false
no_space true comma more h = absurd (cc)
no_space false comma more h = refl

past : (before : List ℕ) (first : ℕ) (rest : List ℕ) (end : ℕ) (more : List ℕ) → list_all is_space before ≡ true
    → list_all is_in_word (first ∷ rest) ≡ true → is_in_word end ≡ false
    → past_word (before ++ (first ∷ rest ++ end ∷ more)) ≡ end ∷ more
past before first rest end more spaces word ends =
    let words : after_spaces (before ++ (first ∷ rest ++ end ∷ more)) ≡ first ∷ rest ++ end ∷ more =
    left_out before first (rest ++ end ∷ more) spaces (no_space (is_space first) _ (list_all is_in_word rest) word) in
    ap (λ t. drop (prefix_len is_in_word t) t) words
    ∙ ap (λ n. drop n (first ∷ rest ++ end ∷ more)) (pass is_in_word (first ∷ rest) end more word ends)
    ∙ drop-append_seam (first ∷ rest) (end ∷ more)

past_one : (text : List ℕ) (end : ℕ) (more : List ℕ) → IsSpacedWord text → is_in_word end ≡ false
    → past_word (text ++ end ∷ more) ≡ end ∷ more
past_one text end more w ends =
    ap (λ t. past_word (t ++ end ∷ more)) w.is
    ∙ ap past_word (append_assoc w.before (w.first ∷ w.rest) (end ∷ more))
    ∙ past w.before w.first w.rest end more w.spaces w.word ends

-- the spaces before a word
after_one : (text : List ℕ) (end : ℕ) (more : List ℕ) (w : IsSpacedWord text)
    → after_spaces (text ++ end ∷ more) ≡ w.first ∷ w.rest ++ end ∷ more
after_one text end more w =
    ap (λ t. after_spaces (t ++ end ∷ more)) w.is
    ∙ ap after_spaces (append_assoc w.before (w.first ∷ w.rest) (end ∷ more))
    ∙ left_out w.before w.first (w.rest ++ end ∷ more) w.spaces (no_space (is_space w.first) _ (list_all is_in_word w.rest) w.word)

first_one : (text : List ℕ) (end : ℕ) (more : List ℕ) (w : IsSpacedWord text) → is_in_word end ≡ false
    → first_word (text ++ end ∷ more) ≡ w.first ∷ w.rest
first_one text end more w ends =
    ap (λ t. take (prefix_len is_in_word t) t) (after_one text end more w)
    ∙ ap (λ n. take n (w.first ∷ w.rest ++ end ∷ more)) (pass is_in_word (w.first ∷ w.rest) end more w.word ends)
    ∙ take-append_seam (w.first ∷ w.rest) (end ∷ more)

past_spaced : (text : List ℕ) (end : ℕ) (more : List ℕ) → IsSpacedWord text → is_in_word end ≡ false
    → past_word (32 ∷ text ++ end ∷ more) ≡ end ∷ more
past_spaced text end more w ends =
    ap (λ t. past_word (32 ∷ t ++ end ∷ more)) w.is
    ∙ ap (λ t. past_word (32 ∷ t)) (append_assoc w.before (w.first ∷ w.rest) (end ∷ more))
    ∙ past (32 ∷ w.before) w.first w.rest end more w.spaces w.word ends

-- a text without an end that it has
cut : (text : List ℕ) (end : ℕ) (more : List ℕ) → without (end ∷ more) (text ++ end ∷ more) ≡ text ++ stars
cut text end more =
    let left : length (text ++ end ∷ more) - length (end ∷ more) ≡ length text = omega (arith, length-append text (end ∷ more)) in
    let some : (suc (length more) == 0) ≡ false = grind (arith, nat_tests) in
    ap (λ (none : Bool). if none then text ++ end ∷ more else take (length (text ++ end ∷ more) - length (end ∷ more)) (text ++ end ∷ more) ++ stars) some
    ∙ ap (λ n. take n (text ++ end ∷ more) ++ stars) left ∙ ap (λ t. t ++ stars) (take-append_seam text (end ∷ more))

shown : (text : List ℕ) (read : Result Command ReadFault) (start : List ℕ) (end : ℕ) (more : List ℕ) → read_as text ≡ read
    → text ≡ start ++ end ∷ more → hidden_by read text ≡ end ∷ more → typed text ≡ start ++ stars
unfolding typed
shown text read start end more reads is hides =
    ap (λ r. without (hidden_by r text) text) reads
    ∙ ap (λ h. without h text) hides
    ∙ ap (λ t. without (end ∷ more) t) is
    ∙ cut start end more

is_read : (text : List ℕ) (c : Command) → Reads text c → read_as text ≡ Ok c
unfolding read_as
is_read text c reads = reads_so text c reads

reads : (text : List ℕ) (c : Command) → read_as text ≡ Ok c → Reads text c
unfolding read_as
reads text c is = so_reads text c is

pub logon_shown : (verb user password : List ℕ) → IsSpacedWord verb → IsSpacedWord user → IsLogon (verb ++ 32 ∷ user ++ 44 ∷ password)
    → typed (verb ++ 32 ∷ user ++ 44 ∷ password) ≡ verb ++ 32 ∷ user ++ stars
logon_shown verb user password v u logon =
    let text : List ℕ = verb ++ 32 ∷ user ++ 44 ∷ password in
    let split : text ≡ verb ++ (32 ∷ user ++ 44 ∷ password) = append_assoc verb (32 ∷ user) (44 ∷ password) in
    shown text (Ok (Logon logon.0 logon.1)) (verb ++ 32 ∷ user) 44 password (is_read text (Logon logon.0 logon.1) logon.2) refl
    (ap (λ t. past_word (past_word t)) split ∙ ap past_word (past_one verb 32 (user ++ 44 ∷ password) v refl) ∙ past_spaced user 44 password u refl)

-- what is not shown of what is no command
hides : (text : List ℕ) (fault : ReadFault) (word : List ℕ) (verb : Bool) → first_word text ≡ word → is_verb word ≡ verb
    → hidden_by (Err fault) text ≡ (if verb then past_word text else after_spaces text)
hides text fault word verb first is =
    ap (λ w. if is_verb w then past_word text else after_spaces text) first
    ∙ ap (λ (v : Bool). if v then past_word text else after_spaces text) is

pub no_command_shown : (word : List ℕ) (end : ℕ) (more : List ℕ) (w : IsSpacedWord word) → is_in_word end ≡ false → IsNoCommand (word ++ end ∷ more)
    → typed (word ++ end ∷ more) ≡ (if is_verb (w.first ∷ w.rest) then word else w.before) ++ stars
no_command_shown word end more w ends none = by (read_as text) refl
  where
    text : List ℕ
    text = word ++ end ∷ more

    split : text ≡ w.before ++ (w.first ∷ w.rest ++ end ∷ more)
    split = ap (λ t. t ++ end ∷ more) w.is ∙ append_assoc w.before (w.first ∷ w.rest) (end ∷ more)

    by_verb : (fault : ReadFault) → read_as text ≡ Err fault → (verb : Bool) → is_verb (w.first ∷ w.rest) ≡ verb
        → typed text ≡ (if verb then word else w.before) ++ stars
    by_verb fault is true verb =
        shown text (Err fault) word end more is refl
        (hides text fault (w.first ∷ w.rest) true (first_one word end more w ends) verb ∙ past_one word end more w ends)
    by_verb fault is false verb =
        shown text (Err fault) w.before w.first (w.rest ++ end ∷ more) is split
        (hides text fault (w.first ∷ w.rest) false (first_one word end more w ends) verb ∙ after_one word end more w)

    by : (read : Result Command ReadFault) → read_as text ≡ read
        → typed text ≡ (if is_verb (w.first ∷ w.rest) then word else w.before) ++ stars
    by (Ok c) is = absurd (none c (reads text c is))
    by (Err fault) is = by_verb fault is (is_verb (w.first ∷ w.rest)) refl

pub no_verb_shown : (before text : List ℕ) → list_all is_space before ≡ true → IsVerbless text → IsNoCommand (before ++ text)
    → typed (before ++ text) ≡ before ++ stars
no_verb_shown before text spaces v none = by (read_as whole) refl
  where
    whole : List ℕ
    whole = before ++ text

    split : whole ≡ before ++ v.first ∷ v.rest
    split = ap (λ t. before ++ t) v.is

    after : after_spaces whole ≡ v.first ∷ v.rest
    after = ap after_spaces split ∙ left_out before v.first v.rest spaces v.no_space

    alone : after_spaces text ≡ v.first ∷ v.rest
    alone = ap after_spaces v.is ∙ left_out [] v.first v.rest refl v.no_space

    same : first_word whole ≡ first_word text
    same = ap (λ t. take (prefix_len is_in_word t) t) (after ∙ sym alone)

    by : (read : Result Command ReadFault) → read_as whole ≡ read → typed whole ≡ before ++ stars
    by (Ok c) is = absurd (none c (reads whole c is))
    by (Err fault) is =
        shown whole (Err fault) before v.first v.rest is split
        (hides whole fault (first_word text) false same v.no_verb ∙ after)
