-- Prefixes of what is to be written.
use Rattle.std.proofs.Common.{◌≡◌, ◌<◌, ◌+◌, ℕ, List, [], ◌∷◌, ◌++◌, Option, length, take, drop, get_or, sym, ap, subst, ◌∙◌, refl}
use Rattle.std.specs.Io.KnownBytes.{Appends}
use Rattle.std.specs.List.{flat_map}
use Rattle.std.proofs.KnownBytes.{Appends-nil, Appends-trans}
use Rattle.std.proofs.lemmas.List.{append_assoc, append-nil, drop_more, take-append-drop, take_at, take_more}
use Rattle.opc_cli_script.specs.Running.{AppendsPrefix}

pub begun : (a b : Option (List ℕ)) (first rest : List ℕ) → Appends a b first → AppendsPrefix a b (first ++ rest)
begun a b first rest h = record { len = length first; prefix = subst (Appends a b) (sym (take_at first rest (length first) refl)) h }

pub nothing_yet : (a : Option (List ℕ)) (text : List ℕ) → AppendsPrefix a a text
nothing_yet a text = record { len = 0; prefix = Appends-nil a }

-- a prefix of the first of two texts
pub cut_in_first : (a b : Option (List ℕ)) (x y : List ℕ) → AppendsPrefix a b x → AppendsPrefix a b (x ++ y)
cut_in_first a b x y h =
    subst (AppendsPrefix a b) (sym (append_assoc (take h.len x) (drop h.len x) y) ∙ ap (λ t. t ++ y) (take-append-drop h.len x))
    (begun a b (take h.len x) (drop h.len x ++ y) h.prefix)

-- the first of two texts, and a prefix of the second
pub cut_in_second : (a b c : Option (List ℕ)) (x y : List ℕ) → Appends a b x → AppendsPrefix b c y → AppendsPrefix a c (x ++ y)
cut_in_second a b c x y h k =
    subst (AppendsPrefix a c) (append_assoc x (take k.len y) (drop k.len y) ∙ ap (λ t. x ++ t) (take-append-drop k.len y))
    (begun a c (x ++ take k.len y) (drop k.len y) (Appends-trans a b c x (take k.len y) h k.prefix))

-- the text of each of some elements
module _ {X : Type 0} (f : X → List ℕ) where
  flat_map-append : (xs ys : List X) → flat_map f (xs ++ ys) ≡ flat_map f xs ++ flat_map f ys
  flat_map-append [] ys = refl
  flat_map-append (x ∷ xs) ys = ap (λ t. f x ++ t) (flat_map-append xs ys) ∙ sym (append_assoc (f x) (flat_map f xs) (flat_map f ys))

  parts : (xs : List X) (i : ℕ) (d : X) → i < length xs → flat_map f xs ≡ flat_map f (take i xs) ++ (f (get_or xs i d) ++ flat_map f (drop (i + 1) xs))
  parts xs i d h =
      ap (flat_map f) (sym (take-append-drop i xs) ∙ ap (λ ys. take i xs ++ ys) (drop_more xs i d h))
      ∙ flat_map-append (take i xs) (get_or xs i d ∷ drop (i + 1) xs)

  -- those before one of them, and a prefix of that one's
  pub cut_in_one : (a b c : Option (List ℕ)) (xs : List X) (i : ℕ) (d : X) → i < length xs
      → Appends a b (flat_map f (take i xs)) → AppendsPrefix b c (f (get_or xs i d)) → AppendsPrefix a c (flat_map f xs)
  cut_in_one a b c xs i d h before k =
      let rest = flat_map f (drop (i + 1) xs) in
      subst (AppendsPrefix a c) (sym (parts xs i d h))
      (cut_in_second a b c (flat_map f (take i xs)) (f (get_or xs i d) ++ rest) before (cut_in_first b c (f (get_or xs i d)) rest k))

  -- those before one of them, and that one's
  pub one_more : (a b c : Option (List ℕ)) (xs : List X) (i : ℕ) (d : X) → i < length xs
      → Appends a b (flat_map f (take i xs)) → Appends b c (f (get_or xs i d))
      → Appends a c (flat_map f (take (i + 1) xs))
  one_more a b c xs i d h before k =
      subst (Appends a c) (sym (ap (flat_map f) (take_more xs i d h) ∙ flat_map-append (take i xs) (get_or xs i d ∷ [])
      ∙ ap (λ t. flat_map f (take i xs) ++ t) (append-nil (f (get_or xs i d)))))
      (Appends-trans a b c (flat_map f (take i xs)) (f (get_or xs i d)) before k)
