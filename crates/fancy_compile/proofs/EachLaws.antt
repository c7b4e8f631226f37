-- What is so of each in a list.
use Rattle.std.proofs.Common.{◌≡◌, ℕ, zero, suc, List, [], ◌∷◌, ◌++◌, map, take, drop, reverse, refl, sym, ap, ◌∙◌, subst}
use Rattle.std.proofs.lemmas.List.{reverse-append, map-append}
use Rattle.fancy_expr.specs.Each.{Each}

module _ {X : Type 0} (P : X → Type 0) where
  pub each_take : (n : ℕ) (l : List X) → Each P l → Each P (take n l)
  each_take zero l h = tt
  each_take (suc n) [] h = tt
  each_take (suc n) (x ∷ l) h = (h.0, each_take n l h.1)

  pub each_drop : (n : ℕ) (l : List X) → Each P l → Each P (drop n l)
  each_drop zero l h = h
  each_drop (suc n) [] h = tt
  each_drop (suc n) (x ∷ l) h = each_drop n l h.1

  pub each_append : (l : List X) (x : X) → Each P l → P x → Each P (l ++ x ∷ [])
  each_append [] x h hx = (hx, tt)
  each_append (y ∷ l) x h hx = (h.0, each_append l x h.1 hx)

  pub each_reverse : (l : List X) → Each P l → Each P (reverse l)
  each_reverse [] h = tt
  each_reverse (x ∷ l) h = subst (Each P) (sym (reverse-append (x ∷ []) l)) (each_append (reverse l) x (each_reverse l h.1) h.0)

pub each_by : {X : Type 0} (P Q : X → Type 0) → ((x : X) → P x → Q x) → (l : List X) → Each P l → Each Q l
each_by P Q f [] h = tt
each_by P Q f (x ∷ l) h = (f x h.0, each_by P Q f l h.1)

pub map-reverse : {X Y : Type 0} (f : X → Y) (l : List X) → map f (reverse l) ≡ reverse (map f l)
map-reverse f [] = refl
map-reverse f (x ∷ l) =
    ap (map f) (reverse-append (x ∷ []) l) ∙ map-append f (reverse l) (x ∷ [])
    ∙ ap (λ m. m ++ f x ∷ []) (map-reverse f l) ∙ sym (reverse-append (f x ∷ []) (map f l))
