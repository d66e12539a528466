-- The step over one part of a form, in both directions: what is typed like this is read, and what is read is typed like
-- this.
use Rattle.std.proofs.Common.{
  ◌≡◌,
  ◌≢◌,
  ℕ,
  ◌+◌,
  ◌<◌,
  ◌≤◌,
  ◌==◌,
  ◌&&◌,
  ◌-◌,
  ◌*◌,
  Bool,
  true,
  false,
  cond,
  List,
  [],
  ◌∷◌,
  ◌++◌,
  length,
  take,
  drop,
  Option,
  Some,
  None,
  refl,
  sym,
  ap,
  ◌∙◌,
  subst,
  arith,
  suc,
  inl,
  inr,
  codes,
  ◌⊎◌,
}
use Rattle.std.specs.Prelude.{⊤}
use Rattle.std.specs.Option.{option_map}
use Rattle.std.specs.List.{prefix_len}
use Rattle.std.specs.Str.{bytes_eq}
use Rattle.std.specs.Char.{to_ascii_uppercase, is_ascii_digit}
use Rattle.std.proofs.lemmas.List.{append-nil, append_assoc, length-append, length-take-le, take-append-drop, take_at}
use Rattle.std.proofs.lemmas.List.Sums.{prefix_len-le-length}
use Rattle.std.proofs.Math.Seq.{take-append_seam, drop-append_seam}
use Rattle.std.proofs.lemmas.Option.{cond_some, some_pair_parts, none-some}
use Rattle.std.proofs.lemmas.Bool.{false≢true}
use Rattle.std.proofs.lemmas.List.Folds.{prefix_len-append}
use Rattle.std.proofs.lemmas.Bool.Decides.{nat_tests}
use Rattle.opc_names.specs.declared.auth.Auth.{Auth}
use Rattle.opc_names.specs.declared.rule.NameRule.{NameRule}
use Rattle.opc_names.specs.Names.{is_name_character, is_plain, name_fault}
use Rattle.opc_names.specs.Spellings.{lookup}
use Rattle.opc_reader.specs.declared.verb.Verb.{Verb}
use Rattle.opc_reader_commands.specs.declared.command.Operand.{Operand}
use Rattle.opc_reader_commands.specs.declared.command.Text.{Text}
use Rattle.opc_reader_commands.specs.declared.command.Command.{Command}
use Rattle.opc_reader.specs.Authorities.{authorities}
use Rattle.opc_reader.specs.Forms.{Part, Word, Name, Number, Authority, QuotedText, AnyText, verb_of, parts, IsMeant, IsTyped, AreTyped}
use Rattle.opc_reader.specs.Operands.{in_name, number}
use Rattle.opc_reader_commands.specs.Quotes.{doubled, closing_len, quoted_len, opens_quote, is_quoted, IsQuoted, OpensQuote}
use Rattle.opc_reader.specs.Reading.{◌>>=◌, only, fixed, name, last_name, number_prefix, valued, authority, quoted_text, quoted_prefix, any_text}
use Rattle.opc_reader_commands.specs.Stretches.{Stretch, folded, prefix, after, word}
use Rattle.opc_reader.proofs.Leaves.{bytes_same, bytes_refl, joined, after_part, length_folded, word_read, word_found, name_read, name_found}
use Rattle.opc_reader_commands.proofs.Quoted.{quoted_is, is_quoted_of, quoted_opens, not_opens, opens_not, both_true, quote_prefix, prefix_found, same_code}

-- What follows a name begins with no name character.
abbrev pub Stops : List Part → Type 0
Stops [] = ⊤
Stops (Word [] ∷ ps) = ⊥
Stops (Word (c ∷ w) ∷ ps) = is_name_character c ≡ false
Stops (Name rule o ∷ ps) = ⊥
Stops (Number o ∷ ps) = ⊥
Stops (Authority o ∷ ps) = ⊥
Stops (QuotedText t ∷ ps) = ⊥
Stops (AnyText t ∷ ps) = ⊥

stops_word : (c : ℕ) (w a b : List ℕ) → is_name_character c ≡ false → folded a ≡ c ∷ w → prefix_len in_name (a ++ b) ≡ 0
stops_word c w [] b h e = cc
stops_word c w (d ∷ a) b h e = let same : to_ascii_uppercase d ≡ c = cc in rw (same, h) refl

pub stops : (ps : List Part) (s : Stretch) → Stops ps → AreTyped ps s → prefix_len in_name s.text ≡ 0
stops [] s h t = rw t refl
stops (Word [] ∷ ps) s h t = absurd h
stops (Word (c ∷ w) ∷ ps) s h (a, b, e, typed, rest) = rw e (stops_word c w a b h typed)
stops (Name rule o ∷ ps) s h t = absurd h
stops (Number o ∷ ps) s h t = absurd h
stops (Authority o ∷ ps) s h t = absurd h
stops (QuotedText t ∷ ps) s h u = absurd h
stops (AnyText t ∷ ps) s h u = absurd h

pub record Steps {A : Type 0} (read : Option (A × Stretch)) (x : A) (ps : List Part) : Type 0 where
  pub rest : Stretch
  pub read_is : read ≡ Some (x, rest)
  pub typed : AreTyped ps rest

pub record WordSteps (read : Option Stretch) (ps : List Part) : Type 0 where
  pub rest : Stretch
  pub read_is : read ≡ Some rest
  pub typed : AreTyped ps rest

pub over_word : (w : List ℕ) (ps : List Part) (s : Stretch) → AreTyped (Word w ∷ ps) s → WordSteps (word w s) ps
over_word w ps s (a, b, e, typed, rest) =
    let at_text : word (folded a) (joined a b s.from) ≡ word w s = let f : List ℕ → List ℕ → Option Stretch = λ v t. word v (record {
      text = t;
      from = s.from;
    }) in ap (λ v. f v (a ++ b)) typed ∙ ap (f w) (sym e) in
    record { rest = after_part a b s.from; read_is = sym at_text ∙ word_read a b s.from; typed = rest }

pub back_word : (w : List ℕ) (ps : List Part) (s r : Stretch) → word w s ≡ Some r → AreTyped ps r → AreTyped (Word w ∷ ps) s
back_word w ps s r h t =
    let found = word_found w s r h in
    let P : Stretch → Type 0 = AreTyped ps in
    (found.0, r.text, found.1, found.2, subst P found.3 t)

operand_is : {V : Type 0} (o : Operand V) (v : V) (s : Stretch) → o.typed ≡ s → o.value ≡ v → record { value = v; typed = s } ≡ o
operand_is {V} o v s e f =
    let make : V → Stretch → Operand V = λ x t. record { value = x; typed = t } in
    sym (ap (λ x. make x o.typed) f ∙ ap (make v) e)

pub over_name : (rule : NameRule) (o : Operand (List ℕ)) (ps : List Part) (s : Stretch) → is_plain rule.alphabet ≡ true
    → Stops ps → AreTyped (Name rule o ∷ ps) s → Steps (name rule s) o ps
over_name rule o ps s p h (a, b, e, (typed, value, fine), rest) =
    let fault : name_fault rule (folded a) ≡ None = rw (← value) fine in
    let at_text : name rule (joined a b s.from) ≡ name rule s = let f : List ℕ → Option (Operand (List ℕ) × Stretch) = λ t. name rule (record {
      text = t;
      from = s.from;
    }) in ap f (sym e) in
    let pair : Operand (List ℕ) → Option (Operand (List ℕ) × Stretch) = λ x. Some (x, after_part a b s.from) in
    record {
      rest = after_part a b s.from;
      read_is = sym at_text ∙ name_read rule a b s.from p fault (stops ps _ h rest) ∙ ap pair (operand_is o (folded a) (record {
        text = a;
        from = s.from;
      }) typed value);
      typed = rest;
    }

pub back_name : (rule : NameRule) (o : Operand (List ℕ)) (ps : List Part) (s r : Stretch) → name rule s ≡ Some (o, r)
    → AreTyped ps r → AreTyped (Name rule o ∷ ps) s
back_name rule o ps s r h t =
    let found = name_found rule s r o h in
    let P : Stretch → Type 0 = AreTyped ps in
    let fine : name_fault rule o.value ≡ None = rw (ap (λ x. x.value) found.2) found.3 in
    (found.0, r.text, found.1, (ap (λ x. x.typed) found.2, ap (λ x. x.value) found.2, fine), subst P found.4 t)

-- the last part is all that is left
pub over_last : (p : Part) (s : Stretch) → AreTyped (p ∷ []) s → IsTyped p s
over_last p s (a, b, e, typed, rest) =
    let P : List ℕ → Type 0 = λ t. IsTyped p (record { text = t; from = s.from }) in
    subst P (sym (append-nil a) ∙ ap (λ x. a ++ x) (sym rest) ∙ sym e) typed

pub back_last : (p : Part) (s : Stretch) → IsTyped p s → AreTyped (p ∷ []) s
back_last p s typed = (s.text, [], sym (append-nil s.text), typed, refl)

not_zero : (n : ℕ) → (suc n == 0) ≡ false
not_zero n = grind (arith, nat_tests)

pub only_read : {A : Type 0} (x : A) (s : Stretch) → s.text ≡ [] → only x s ≡ Some x
only_read x s e = rw e refl

pub only_found : {A : Type 0} (x y : A) (s : Stretch) → only x s ≡ Some y → (x ≡ y) × (s.text ≡ [])
only_found {A} x y s h = empty s.text h where
  none_some : None ≡ Some y → ⊥
  none_some e = cc

  empty : (t : List ℕ) → cond (length t == 0) (Some x) None ≡ Some y → (x ≡ y) × (t ≡ [])
  empty [] k = (cc, refl)
  empty (c ∷ cs) k = absurd (none_some (rw (not_zero (length cs)) at k))

pub bind_some : {A B : Type 0} (o : Option A) (f : A → Option B) (y : B) → (o >>= f) ≡ Some y → (x : A) × (o ≡ Some x) × (f x ≡ Some y)
bind_some None f y h = cc
bind_some (Some x) f y h = (x, refl, h)

pub over_last_name : (rule : NameRule) (o : Operand (List ℕ)) (s : Stretch) → is_plain rule.alphabet ≡ true
    → AreTyped (Name rule o ∷ []) s → last_name rule s ≡ Some o
unfolding last_name
over_last_name rule o s p t = let step = over_name rule o [] s p tt t in rw step.read_is (only_read o step.rest step.typed)

pub back_last_name : (rule : NameRule) (o : Operand (List ℕ)) (s : Stretch) → last_name rule s ≡ Some o → AreTyped (Name rule o ∷ []) s
unfolding last_name
back_last_name rule o s h =
    let step = bind_some (name rule s) (λ x. only x.0 x.1) o h in
    let end = only_found step.0.0 o step.0.1 step.2 in
    let P : Operand (List ℕ) → Type 0 = λ x. AreTyped (Name rule x ∷ []) s in
    subst P end.0 (back_name rule step.0.0 [] s step.0.1 step.1 end.1)

valued_is : {V : Type 0} (table : List (List ℕ × V)) (s : Stretch) (o : Operand V) → o.typed ≡ s
    → lookup table (folded s.text) ≡ Some o.value → valued s (lookup table (folded s.text)) ≡ Some o
valued_is table s o e f = rw f (ap Some (operand_is o o.value s e refl))

valued_found : {V : Type 0} (s : Stretch) (found : Option V) (o : Operand V) → valued s found ≡ Some o → (o.typed ≡ s) × (found ≡ Some o.value)
valued_found s None o h = cc
valued_found {V} s (Some v) o h =
    let e : record { value = v; typed = s } ≡ o = cc in
    (sym (ap (λ x. x.typed) e), ap (λ x. Some x.value) e)

pub over_authority : (o : Operand Auth) (s : Stretch) → AreTyped (Authority o ∷ []) s → authority s ≡ Some o
unfolding authority
over_authority o s t = let typed = over_last (Authority o) s t in valued_is authorities s o typed.0 typed.1

pub back_authority : (o : Operand Auth) (s : Stretch) → authority s ≡ Some o → AreTyped (Authority o ∷ []) s
unfolding authority
back_authority o s h = back_last (Authority o) s (valued_found s (lookup authorities (folded s.text)) o h)

text_is : (t : Text) (s : Stretch) → t.typed ≡ s → record { typed = s } ≡ t
text_is t s e = let make : Stretch → Text = λ x. record { typed = x } in sym (ap make e)

pub over_quoted : (t : Text) (s : Stretch) → AreTyped (QuotedText t ∷ []) s → quoted_text s ≡ Some t
unfolding quoted_text
over_quoted t s h = let typed = over_last (QuotedText t) s h in rw (is_quoted_of s.text typed.1) (ap Some (text_is t s typed.0))

quoted_text_found : (t : Text) (s : Stretch) → quoted_text s ≡ Some t → (t.typed ≡ s) × IsQuoted s.text
unfolding quoted_text
quoted_text_found t s h =
    let found = cond_some (is_quoted s.text) (record { typed = s }) t h in
    (sym (ap (λ x. x.typed) found.1), quoted_is s.text found.0)

pub back_quoted : (t : Text) (s : Stretch) → quoted_text s ≡ Some t → AreTyped (QuotedText t ∷ []) s
back_quoted t s h = back_last (QuotedText t) s (quoted_text_found t s h)

some_length : (t : List ℕ) → (t ≡ [] → ⊥) → (length t == 0) ≡ false
some_length [] h = absurd (h refl)
some_length (c ∷ t) h = not_zero (length t)

length_some : (t : List ℕ) → (length t == 0) ≡ false → t ≡ [] → ⊥
length_some t h e = absurd (let bad : true ≡ false = rw e at h in false_true bad) where
  false_true : true ≡ false → ⊥
  false_true b = cc

pub over_text : (t : Text) (s : Stretch) → AreTyped (AnyText t ∷ []) s → any_text s ≡ Some t
unfolding any_text quoted_text
over_text t s h = by_kind (over_last (AnyText t) s h) where
  by_kind : (t.typed ≡ s) × (IsQuoted s.text ⊎ ((OpensQuote s.text → ⊥) × (s.text ≢ []))) → any_text s ≡ Some t
  by_kind (e, inl q) = rw (quoted_opens s.text q, is_quoted_of s.text q) (ap Some (text_is t s e))
  by_kind (e, inr (plain, some)) = rw (not_opens s.text plain, some_length s.text some) (ap Some (text_is t s e))

bool_cases : (b : Bool) → (b ≡ true) ⊎ (b ≡ false)
bool_cases true = inl refl
bool_cases false = inr refl

pub back_text : (t : Text) (s : Stretch) → any_text s ≡ Some t → AreTyped (AnyText t ∷ []) s
unfolding any_text
back_text t s h = back_last (AnyText t) s (by_kind (opens_quote s.text) refl h) where
  plain : (b : Bool) → (length s.text == 0) ≡ b → cond b None (Some (record { typed = s })) ≡ Some t → (t.typed ≡ s) × (s.text ≢ [])
  plain true e k = absurd (bad k) where
    bad : None ≡ Some t → ⊥
    bad m = cc
  plain false e k = let same : record { typed = s } ≡ t = cc in (sym (ap (λ x. x.typed) same), length_some s.text e)

  by_kind : (b : Bool) → opens_quote s.text ≡ b
      → cond b (quoted_text s) (cond ((length s.text == 0)) None (Some (record { typed = s }))) ≡ Some t
      → IsTyped (AnyText t) s
  by_kind true e k = let found = quoted_text_found t s k in (found.0, inl found.1)
  by_kind false e k = let found = plain ((length s.text == 0)) refl k in (found.0, inr (opens_not s.text e, found.1))

digit_stops : (a b : List ℕ) → folded a ≡ 44 ∷ [] → prefix_len is_ascii_digit (a ++ b) ≡ 0
digit_stops [] b e = cc
digit_stops (d ∷ a) b e = let same : to_ascii_uppercase d ≡ 44 = cc in rw (no_digit d same) refl where
  no_digit : (c : ℕ) → to_ascii_uppercase c ≡ 44 → is_ascii_digit c ≡ false
  no_digit c h = grind (arith, nat_tests)

pub number_digits : (a : List ℕ) (v : ℕ) → number a ≡ Some v → prefix_len is_ascii_digit a ≡ length a
number_digits [] v h = refl
number_digits (x ∷ []) v h = let e = cond_some (is_ascii_digit x) (x - 48) v h in rw e.0 refl
number_digits (x ∷ (y ∷ [])) v h =
    let e = cond_some (is_ascii_digit x && is_ascii_digit y) (10 * (x - 48) + (y - 48)) v h in
    let both = both_true (is_ascii_digit x) (is_ascii_digit y) e.0 in
    rw (both.0, both.1) refl
number_digits (x ∷ (y ∷ (z ∷ a))) v h = cc

pub over_number : (o : Operand ℕ) (ps : List Part) (s : Stretch) → AreTyped (Number o ∷ Word (codes ",") ∷ ps) s
    → Steps (number_prefix s) o (Word (codes ",") ∷ ps)
unfolding number_prefix
over_number o ps s (a, b, e, (typed, value), rest) =
    let none : prefix_len is_ascii_digit b ≡ 0 = rw rest.2 (digit_stops rest.0 rest.1 rest.3) in
    let all = number_digits a o.value value in
    let run : prefix_len is_ascii_digit (a ++ b) ≡ length a = grind (arith, nat_tests, prefix_len-append is_ascii_digit a b) in
    let pair : Operand ℕ → Option (Operand ℕ × Stretch) = λ x. Some (x, after_part a b s.from) in
    record {
      rest = after_part a b s.from;
      read_is = rw (e, run, take-append_seam a b, drop-append_seam a b, value) (ap pair (operand_is o o.value (record { text = a; from = s.from }) typed refl));
      typed = rest;
    }

pub map_some : {A B : Type 0} (f : A → B) (o : Option A) (y : B) → option_map f o ≡ Some y → (x : A) × (o ≡ Some x) × (f x ≡ y)
map_some f None y h = cc
map_some f (Some x) y h = (x, refl, cc)

pub back_number : (o : Operand ℕ) (ps : List Part) (s r : Stretch) → number_prefix s ≡ Some (o, r) → AreTyped ps r → AreTyped (Number o ∷ ps) s
unfolding number_prefix
back_number o ps s r h t =
    let n : ℕ = prefix_len is_ascii_digit s.text in
    let found = map_some (λ v. (record { value = v; typed = prefix n s }, after n s)) (number (take n s.text)) (o, r) h in
    let both = some_pair_parts _ _ _ _ (ap Some found.2) in
    let count : n ≡ length (take n s.text) = sym (length-take-le n s.text (prefix_len-le-length is_ascii_digit s.text)) in
    let left : after n s ≡ after_part (take n s.text) (drop n s.text) s.from = ap (λ k. record { text = drop n s.text; from = s.from + k }) count in
    let P : Stretch → Type 0 = AreTyped ps in
    let same : r ≡ after_part (take n s.text) (drop n s.text) s.from = sym both.1 ∙ left in
    let value : number (take n s.text) ≡ Some o.value = found.1 ∙ ap (λ x. Some x.value) both.0 in
    (take n s.text, drop n s.text, sym (take-append-drop n s.text), (sym (ap (λ x. x.typed) both.0), value), subst P same t)

pub nothing_left : (w : List ℕ) (s : Stretch) → s.text ≡ [] → 0 < length w → word w s ≡ None
nothing_left w s e some = none_is_left (word w s) refl where
  none_is_left : (read : Option Stretch) → word w s ≡ read → word w s ≡ None
  none_is_left None k = k
  none_is_left (Some r) k =
      let found = word_found w s r k in
      absurd (omega (arith, ap length e, ap length found.1, length-append found.0 r.text, sym (length_folded found.0) ∙ ap length found.2))

-- what an operand reading of a verb gives
pub record Gives (v : Verb) (s : Stretch) (c : Command) : Type 0 where
  pub verb : verb_of c ≡ v
  pub typed : AreTyped (parts c) s
  pub meant : IsMeant c

pub gives : (v : Verb) (s : Stretch) (d c : Command) → d ≡ c → Gives v s d → Gives v s c
gives v s d c e g = let P : Command → Type 0 = Gives v s in subst P e g

pub cond_cases : {A : Type 0} (b : Bool) (x y z : A) → cond b x y ≡ z → ((b ≡ true) × (x ≡ z)) ⊎ ((b ≡ false) × (y ≡ z))
cond_cases true x y z h = inl (refl, h)
cond_cases false x y z h = inr (refl, h)

pub fixed_read : (w : List ℕ) (c : Command) (s : Stretch) → AreTyped (Word w ∷ []) s → fixed w c s ≡ Some c
fixed_read w c s t = rw (over_last (Word w) s t, bytes_refl w) refl

pub fixed_found : (w : List ℕ) (d c : Command) (s : Stretch) → fixed w d s ≡ Some c → (d ≡ c) × AreTyped (Word w ∷ []) s
fixed_found w d c s h =
    let found = cond_some (bytes_eq (folded s.text) w) d c h in
    (found.1, back_last (Word w) s (bytes_same _ _ found.0))

-- a text after a quoted text, if it begins with another character than the apostrophe
no_quote : (c : ℕ) (w a b : List ℕ) → (c == 39) ≡ false → folded a ≡ c ∷ w → opens_quote (a ++ b) ≡ false
no_quote c w [] b h e = cc
no_quote c w (d ∷ a) b h e =
    let same : to_ascii_uppercase d ≡ c = cc in
    by_test (d == 39) refl same where
      by_test : (v : Bool) → (d == 39) ≡ v → to_ascii_uppercase d ≡ c → (d == 39) ≡ false
      by_test false k f = k
      by_test true k f =
          let code : d ≡ 39 = same_code d 39 k in
          let upper : c ≡ 39 = sym f ∙ ap to_ascii_uppercase code in
          absurd (false≢true (sym h ∙ ap (λ x. x == 39) upper))

pub over_quoted_prefix : (t : Text) (w : List ℕ) (c : ℕ) (ps : List Part) (s : Stretch) → (c == 39) ≡ false
    → AreTyped (QuotedText t ∷ Word (c ∷ w) ∷ ps) s → Steps (quoted_prefix s) t (Word (c ∷ w) ∷ ps)
unfolding quoted_prefix
over_quoted_prefix t w c ps s other (a, b, e, (typed, (text, quote)), rest) =
    let stops_there : opens_quote b ≡ false = rw rest.2 (no_quote c w rest.0 rest.1 other rest.3) in
    let whole : s.text ≡ 39 ∷ (doubled text ++ 39 ∷ b) = e ∙ ap (λ x. x ++ b) quote ∙ ap (λ x. 39 ∷ x) (append_assoc (doubled text) (39 ∷ []) b) in
    let closing : closing_len (doubled text ++ 39 ∷ b) ≡ Some (length (doubled text) + 1) = quote_prefix text b stops_there in
    let count : length (doubled text) + 1 + 1 ≡ length a = omega (arith, ap length quote, length-append (doubled text) (39 ∷ [])) in
    let found : quoted_len s.text ≡ Some (length a) = rw (whole, closing) (ap Some count) in
    let pair : Text → Option (Text × Stretch) = λ x. Some (x, after_part a b s.from) in
    record {
      rest = after_part a b s.from;
      read_is = rw (found, e, take-append_seam a b, drop-append_seam a b) (ap pair (text_is t (record { text = a; from = s.from }) typed));
      typed = rest;
    }

pub back_quoted_prefix : (t : Text) (ps : List Part) (s r : Stretch) → quoted_prefix s ≡ Some (t, r) → AreTyped ps r → AreTyped (QuotedText t ∷ ps) s
unfolding quoted_prefix
back_quoted_prefix t ps s r h typed =
    let found = map_some (λ n. (record { typed = prefix n s }, after n s)) (quoted_len s.text) (t, r) h in
    let both = some_pair_parts _ _ _ _ (ap Some found.2) in
    let quote = prefix_is s.text found.0 found.1 in
    let count : found.0 ≡ length (take found.0 s.text) = sym (length-take-le found.0 s.text quote.0) in
    let left : after found.0 s ≡ after_part (take found.0 s.text) (drop found.0 s.text) s.from = ap (λ k. record {
      text = drop found.0 s.text;
      from = s.from + k;
    }) count in
    let P : Stretch → Type 0 = AreTyped ps in (
      take found.0 s.text,
      drop found.0 s.text,
      sym (take-append-drop found.0 s.text),
      (sym (ap (λ x. x.typed) both.0), quote.1),
      subst P (sym both.1 ∙ left) typed,
    ) where
      prefix_is : (text : List ℕ) (n : ℕ) → quoted_len text ≡ Some n → (n ≤ length text) × IsQuoted (take n text)
      prefix_is [] n k = cc
      prefix_is (c ∷ cs) n k =
          elim (c == 39) as (λ v. (c == 39) ≡ v → cond v (option_map (λ m. m + 1) (closing_len cs)) None ≡ Some n
          → (n ≤ suc (length cs)) × IsQuoted (take n (c ∷ cs))) [
            | true ↦ (λ f g.
                let m = map_some (λ i. i + 1) (closing_len cs) n g in
                let found = prefix_found cs m.0 m.1 in
                let typed_text : List ℕ = 39 ∷ (doubled found.text ++ 39 ∷ []) in
                let whole : c ∷ cs ≡ typed_text ++ found.rest =
                ap (λ x. x ∷ cs) (same_code c 39 f)
                ∙ ap (λ x. 39 ∷ x) (found.whole ∙ sym (append_assoc (doubled found.text) (39 ∷ []) found.rest)) in
                let count : length typed_text ≡ n = omega (arith, length-append (doubled found.text) (39 ∷ []), found.count, m.2) in (
                  omega (arith, ap length whole, length-append typed_text found.rest, count),
                  (found.text, ap (take n) whole ∙ take_at typed_text found.rest n count),
                ))
            | false ↦ (λ f g. absurd (none-some n g))
          ] refl k
