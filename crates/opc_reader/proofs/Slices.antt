-- Operands are slices of the line.
use Rattle.std.proofs.Common.{◌≡◌, ℕ, ◌+◌, ◌-◌, List, [], ◌∷◌, ◌++◌, length, take, drop, sym, ap, ◌∙◌, arith, subst}
use Rattle.std.specs.List.{flat_map, AllByRecursion}
use Rattle.std.proofs.lemmas.List.{append_assoc, length-append}
use Rattle.std.proofs.Math.Seq.{take-append_seam, drop-append_seam}
use Rattle.opc_reader_commands.specs.declared.command.Command.{Command}
use Rattle.opc_reader_commands.specs.Stretches.{Stretch}
use Rattle.opc_reader.specs.Forms.{Part, Word, Name, Number, Authority, QuotedText, AnyText, parts, IsTyped, AreTyped}
use Rattle.opc_reader.specs.Lines.{Reads, typed_of, IsSliceOf, OperandsAreSlices}

slice_of : (line x t y : List ℕ) → line ≡ x ++ (t ++ y) → IsSliceOf line (record { text = t; from = length x })
slice_of line x t y e = (
  omega (arith, ap length e, length-append x (t ++ y), length-append t y),
  let count : (length x + length t) - length x ≡ length t = omega arith in
      ap (λ n. take n (drop (length x) line)) count ∙ ap (λ l. take (length t) (drop (length x) l)) e
      ∙ ap (take (length t)) (drop-append_seam x (t ++ y)) ∙ take-append_seam t y,
)

slices : (ps : List Part) (s : Stretch) (line x y : List ℕ) → line ≡ x ++ (s.text ++ y) → s.from ≡ length x
    → AreTyped ps s → AllByRecursion (IsSliceOf line) (flat_map typed_of ps)
slices [] s line x y e at t = tt
slices (p ∷ ps) s line x y e at (a, b, whole, typed, rest) =
    with_prefix p typed (slices ps (record {
      text = b;
      from = s.from + length a;
    }) line (x ++ a) y (here ∙ sym (append_assoc x a (b ++ y))) (omega (arith, at, length-append x a)) rest) where
      here : line ≡ x ++ (a ++ (b ++ y))
      here = e ∙ ap (λ t. x ++ (t ++ y)) whole ∙ ap (λ t. x ++ t) (append_assoc a b y)

      place : IsSliceOf line (record { text = a; from = s.from })
      place = let P : ℕ → Type 0 = λ n. IsSliceOf line (record { text = a; from = n }) in subst P (sym at) (slice_of line x a (b ++ y) here)

      typed_place : (o : Stretch) → o ≡ record { text = a; from = s.from } → IsSliceOf line o
      typed_place o f = subst (IsSliceOf line) (sym f) place

      with_prefix : (q : Part) → IsTyped q (record {
        text = a;
        from = s.from;
      }) → AllByRecursion (IsSliceOf line) (flat_map typed_of ps) → AllByRecursion (IsSliceOf line) (flat_map typed_of (q ∷ ps))
      with_prefix (Word w) k others = others
      with_prefix (Name rule o) k others = (typed_place o.typed k.0, others)
      with_prefix (Number o) k others = (typed_place o.typed k.0, others)
      with_prefix (Authority o) k others = (typed_place o.typed k.0, others)
      with_prefix (QuotedText t) k others = (typed_place t.typed k.0, others)
      with_prefix (AnyText t) k others = (typed_place t.typed k.0, others)

pub operands_slices : (line : List ℕ) (c : Command) → Reads line c → OperandsAreSlices line c
operands_slices line c r =
    slices (parts c) (record { text = r.operands; from = length r.before + length r.verb + length r.gap }) line (r.before ++ (r.verb ++ r.gap)) r.after
    (r.whole ∙ regroup r.before r.verb r.gap (r.operands ++ r.after))
    (omega (arith, length-append r.before (r.verb ++ r.gap), length-append r.verb r.gap)) r.typed where
      regroup : (a b d e : List ℕ) → a ++ (b ++ (d ++ e)) ≡ (a ++ (b ++ d)) ++ e
      regroup a b d e = simp append_assoc
