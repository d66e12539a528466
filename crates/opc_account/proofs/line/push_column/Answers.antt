use Rattle.std.proofs.Common.{◌≡◌, ◌≤◌, ◌-◌, ◌∙◌, ◌++◌, ◌∷◌, List, [], ℕ, ap, append_assoc, arith, length, sym, take}
use Rattle.opc_account.proofs.Padded.{padding, spaces}
use Rattle.opc_account.proofs.line.push_column.Goals as goal

pub returns : goal.returns
returns c =
    let old = c.args.line.now.items in
    let text = c.args.text.now in
    let n = c.args.width - length text in
    let one : c.extend_from_slice.new.self.items ≡ old ++ text = c.in_ok-extend_from_slice.ensures.items in
    let two : c.extend_from_slice-2.new.self.items ≡ c.extend_from_slice.new.self.items ++ take n (spaces 20) =
    rw c.saturating_sub.ensures at c.in_ok-extend_from_slice-2.ensures.items in
    let three : c.extend_from_slice-3.new.self.items ≡ c.extend_from_slice-2.new.self.items ++ 32 ∷ [] =
    c.in_ok-extend_from_slice-3.ensures.items in
    let few : n ≤ 20 = omega (arith, c.requires) in
    three
    ∙ ap (λ (t : List ℕ). t ++ 32 ∷ []) (two ∙ ap (λ (t : List ℕ). t ++ take n (spaces 20)) one
    ∙ ap (λ (t : List ℕ). (old ++ text) ++ t) (padding n few))
    ∙ append_assoc (old ++ text) (spaces n) (32 ∷ []) ∙ append_assoc old text (spaces n ++ 32 ∷ [])
    ∙ ap (λ (t : List ℕ). old ++ t) (sym (append_assoc text (spaces n) (32 ∷ [])))
