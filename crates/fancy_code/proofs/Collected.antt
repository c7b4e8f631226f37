-- The characters of literal nodes, one behind the other.
use Rattle.std.proofs.Common.{◌≡◌, ℕ, ◌+◌, ◌<◌, ◌≤◌, Bool, true, false, List, [], ◌∷◌, ◌++◌, length, map, take, drop, get_or, Option, Some, None, option_map, encode_utf8, encode_utf8_all, true≢false, refl, sym, ap, ◌∙◌, subst, append_assoc, append-nil}
use Rattle.std.proofs.lemmas.List.{drop_all, take_more}
use Rattle.std.proofs.lemmas.Str.{encodes-append}
use Rattle.std.proofs.lemmas.List.{map-append}
use Rattle.fancy_meaning.specs.Tree.{Tree, trees}
use Rattle.fancy_meaning.specs.Batches.{all_joined, each_literal, literal_chars}
use Rattle.fancy_info.specs.declared.info.Info.{Info}
use Rattle.fancy_info.specs.Infos.{info_tree}
use Rattle.fancy_headline.proofs.Literals.{Chars}
use Rattle.fancy_code.specs.Batches.{Collects}
use Rattle.fancy_info.proofs.Children.{rest_at}

-- those of neighbours
abbrev pub chars_of : List Info → Option Chars
chars_of is = all_joined (map literal_chars (map info_tree is))

pub each_literal_of : (es : List Tree) → each_literal (trees es) ≡ map literal_chars es
each_literal_of [] = refl
each_literal_of (e ∷ es) = ap (λ l. literal_chars e ∷ l) (each_literal_of es)

joined_more : (o : Option Chars) (os : List (Option Chars)) (s t u : Chars) (is_other : Bool) → Collects o s t false
    → Collects (all_joined os) t u is_other → Collects (all_joined (o ∷ os)) s u is_other
joined_more None os s t u is_other h g = absurd (true≢false (sym h))
joined_more (Some cs) os s t u is_other h g = by_rest (all_joined os) g
  where
    by_rest : (r : Option Chars) → Collects r t u is_other → Collects (option_map (λ ds. cs ++ ds) r) s u is_other
    by_rest None g = g
    by_rest (Some ds) g = (g.0, g.1 ∙ ap (λ l. l ++ ds) h.1 ∙ append_assoc s cs ds)

joined_stop : (o : Option Chars) (os : List (Option Chars)) (s t : Chars) → Collects o s t true → Collects (all_joined (o ∷ os)) s t true
joined_stop None os s t h = refl
joined_stop (Some cs) os s t h = absurd (true≢false h.0)

module _ (l : List Info) (i : ℕ) (x : Info) (lt : i < length l) (at : x ≡ get_or l i x) (s t : Chars) where
  pub more_chars : Collects (literal_chars (info_tree x)) s t false → (u : Chars) (is_other : Bool) → Collects (chars_of (drop (i + 1) l)) t u is_other
      → Collects (chars_of (drop i l)) s u is_other
  more_chars h u is_other g =
      subst (λ m. Collects (chars_of m) s u is_other) (sym (rest_at l i x lt at))
      (joined_more (literal_chars (info_tree x)) (map literal_chars (map info_tree (drop (i + 1) l))) s t u is_other h g)

  pub other_found : Collects (literal_chars (info_tree x)) s t true → Collects (chars_of (drop i l)) s t true
  other_found h =
      subst (λ m. Collects (chars_of m) s t true) (sym (rest_at l i x lt at))
      (joined_stop (literal_chars (info_tree x)) (map literal_chars (map info_tree (drop (i + 1) l))) s t h)

pub no_more_chars : (l : List Info) (i : ℕ) (s : Chars) → length l ≤ i → Collects (chars_of (drop i l)) s s false
no_more_chars l i s end = subst (λ m. Collects (chars_of m) s s false) (sym (drop_all i l end)) (refl, sym (append-nil s))

-- the text of characters
pub text_more : (l : Chars) (i : ℕ) (c d : ℕ × Bool) → i < length l → c ≡ get_or l i d
    → encode_utf8_all (map (λ x. x.0) (take (i + 1) l)) ≡ encode_utf8_all (map (λ x. x.0) (take i l)) ++ encode_utf8 c.0
text_more l i c d h at =
    ap (λ m. encode_utf8_all (map (λ x. x.0) m)) (take_more l i d h ∙ ap (λ x. take i l ++ x ∷ []) (sym at))
    ∙ ap encode_utf8_all (map-append (λ x. x.0) (take i l) (c ∷ []))
    ∙ encodes-append (map (λ x. x.0) (take i l)) (c.0 ∷ [])
    ∙ ap (λ x. encode_utf8_all (map (λ y. y.0) (take i l)) ++ x) (append-nil (encode_utf8 c.0))
