-- The names that rows have: those of the rows before one, and its own, if it has one.
use Rattle.std.proofs.Common.{◌≡◌, ◌<◌, ◌+◌, ℕ, List, [], ◌∷◌, ◌++◌, Option, Some, None, get_or, length, map, option_map, take, refl, sym, ap, ◌∙◌}
use Rattle.std.specs.List.{cons_option, filter_map}
use Rattle.std.proofs.lemmas.List.{map-append, take_more}
use Rattle.std.proofs.lemmas.List.Elements.{filter_map-append}

module _ {A B C : Type 0} (f : A → Option C) (now : B → C) where
  map_option : (o : Option B) → map now (cons_option o []) ≡ cons_option (option_map now o) []
  map_option None = refl
  map_option (Some b) = refl

  pub more_names : (xs : List A) (k : ℕ) (x : A) (o : Option B) (old : List B) → k < length xs → x ≡ get_or xs k x
      → option_map now o ≡ f x → map now old ≡ filter_map f (take k xs)
      → map now (old ++ cons_option o []) ≡ filter_map f (take (k + 1) xs)
  more_names xs k x o old low is here so_far =
      map-append now old (cons_option o [])
      ∙ ap (λ (l : List C). l ++ map now (cons_option o [])) so_far
      ∙ ap (λ (l : List C). filter_map f (take k xs) ++ l) (map_option o ∙ ap (λ (p : Option C). cons_option p []) (here ∙ ap f is))
      ∙ sym (filter_map-append f (take k xs) (get_or xs k x ∷ []))
      ∙ sym (ap (filter_map f) (take_more xs k x low))
