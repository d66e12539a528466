-- The lines on which records begin, one byte after another.
use Rattle.std.proofs.Common.{◌≡◌, ◌∙◌, ◌+◌, ◌<◌, ◌≤◌, ◌==◌, ℕ, Bool, true, false, cond, List, [], ◌∷◌, ◌++◌, length}
use Rattle.std.proofs.Common.{sym, ap, arith, take, drop, get_or, map, append_assoc}
use Rattle.std.specs.Prelude.{filter, if◌then◌else◌}
use Rattle.std.proofs.lemmas.List.{append-nil, at_drop_all, at_drop_more, length-append, take_all, take_at, take_more}
use Rattle.std.proofs.lemmas.List.Elements.{filter-append}
use Rattle.csv.specs.Machine.{line_feed, step}
use Rattle.csv.specs.Reading.{default_config}
use Rattle.csv.specs.declared.parser.State.{State}
use Rattle.opc_check.specs.RowLines.{begins, line_after, texts_before}

counted : (read : List ℕ) (byte : ℕ) (b : Bool)
    → length (filter (λ byte. byte == line_feed) read ++ cond b (byte ∷ []) []) + 1
    ≡ (if b then line_after read + 1 else line_after read)
counted read byte true = omega (arith, length-append (filter (λ byte. byte == line_feed) read) (byte ∷ []))
counted read byte false = omega (arith, length-append (filter (λ byte. byte == line_feed) read) [])

line_more : (read : List ℕ) (byte : ℕ) → line_after (read ++ byte ∷ []) ≡ (if byte == line_feed then line_after read + 1 else line_after read)
line_more read byte =
    ap (λ kept. length kept + 1) (filter-append (λ byte. byte == line_feed) read (byte ∷ []))
    ∙ counted read byte (byte == line_feed)

module _ (text : List ℕ) (at byte : ℕ) (low : at < length text) (is : byte ≡ get_or text at 0) where
  read_more : take (at + 1) text ≡ take at text ++ byte ∷ []
  read_more = take_more text at 0 low ∙ ap (λ b. take at text ++ b ∷ []) (sym is)

  -- the line past a byte
  pub line_past_byte : (if byte == line_feed then line_after (take at text) + 1 else line_after (take at text))
      ≡ line_after (take (at + 1) text)
  line_past_byte = sym (ap line_after read_more ∙ line_more (take at text) byte)

  module _ (all lines : List ℕ) (s : State) (so_far : all ≡ lines ++ map line_after (texts_before s (take at text) (drop at text))) where
    abbrev after : List (List ℕ)
    after = texts_before (step default_config s byte).0 (take (at + 1) text) (drop (at + 1) text)

    here : texts_before s (take at text) (drop at text) ≡ cond (begins s byte) (take at text ∷ after) after
    unfolding texts_before
    here =
        at_drop_more (texts_before s (take at text)) text at 0 low
        ∙ ap (λ b. texts_before s (take at text) (b ∷ drop (at + 1) text)) (sym is)
        ∙ ap (λ read. cond (begins s byte)
        (take at text ∷ texts_before (step default_config s byte).0 read (drop (at + 1) text))
        (texts_before (step default_config s byte).0 read (drop (at + 1) text))) (sym read_more)

    -- a record begins with a byte, or none
    pub begun : begins s byte ≡ true → all ≡ (lines ++ line_after (take at text) ∷ []) ++ map line_after after
    begun first =
        so_far ∙ ap (λ (texts : List (List ℕ)). lines ++ map line_after texts)
        (here ∙ ap (λ b. cond b (take at text ∷ after) after) first)
        ∙ sym (append_assoc lines (line_after (take at text) ∷ []) (map line_after after))

    pub not_begun : begins s byte ≡ false → all ≡ lines ++ map line_after after
    not_begun other =
        so_far ∙ ap (λ (texts : List (List ℕ)). lines ++ map line_after texts)
        (here ∙ ap (λ b. cond b (take at text ∷ after) after) other)

-- there are as many lines as have a number
pub all_numbered : (all lines more : List ℕ) (n : ℕ) → all ≡ lines ++ more → length lines ≡ n → lines ≡ take n all
all_numbered all lines more n so_far full = sym (ap (take n) so_far ∙ take_at lines more n full)

-- the text ends
pub no_more : (all lines text : List ℕ) (s : State) (at n : ℕ) → length text ≤ at → length lines ≤ n
    → all ≡ lines ++ map line_after (texts_before s (take at text) (drop at text)) → lines ≡ take n all
unfolding texts_before
no_more all lines text s at n past few so_far =
    let whole : all ≡ lines =
    so_far ∙ ap (λ (texts : List (List ℕ)). lines ++ map line_after texts)
    (at_drop_all (texts_before s (take at text)) text at past) ∙ append-nil lines in
    sym (ap (take n) whole ∙ take_all n lines few)
