-- The pattern text of neighbouring nodes, one more at a time.
use Rattle.std.proofs.Common.{◌≡◌, ◌==◌, ℕ, ◌+◌, ◌<◌, ◌≤◌, Bool, true, List, [], ◌∷◌, ◌++◌, length, map, take, get_or, refl, sym, ap, ap₂, ◌∙◌, append_assoc, arith, eqb-true}
use Rattle.std.proofs.lemmas.List.{map-append, take_all}
use Rattle.fancy_meaning.specs.Batches.{pattern_of}
use Rattle.fancy_meaning.specs.Options.{Analysis}
use Rattle.fancy_meaning.specs.PatternText.{Text, text_of, joined}
use Rattle.fancy_expr.specs.Each.{Each}
use Rattle.fancy_expr.proofs.Texts.{text-numbered}
use Rattle.fancy_expr.proofs.Walks.{taken}
use Rattle.fancy_info.specs.declared.info.Info.{Info}
use Rattle.fancy_info.specs.Infos.{info_tree, info_within, IsAnalysed}
use Rattle.fancy_fragments.specs.Nodes.{plain_tree, start_of}
use Rattle.fancy_fragments.proofs.Numbered.{is_numbered}

-- the text of a node before its groups are numbered
abbrev pub plain_text : Info → Text
plain_text i = text_of (plain_tree i) 1

join_last : (ts : List Text) (t : Text) → joined [] (ts ++ t ∷ []) ≡ joined [] ts ++ t
join_last [] t = refl
join_last (s ∷ []) t = refl
join_last (s ∷ r ∷ ts) t = ap (λ x. s ++ x) (join_last (r ∷ ts) t) ∙ sym (append_assoc s (joined [] (r ∷ ts)) t)

-- behind an empty text there is the other alone
pub first_text : (old part : Text) (n : ℕ) → n ≡ length old → (n == 0) ≡ true → part ≡ old ++ part
first_text [] part n len none = refl
first_text (c ∷ old) part n len none = absurd (omega (arith, len, eqb-true n 0 none))

pub one_more_text : (is : List Info) (k : ℕ) (i : Info) (old new part : Text) → k < length is → i ≡ get_or is k i →
    old ≡ joined [] (map plain_text (take k is)) → part ≡ plain_text i → new ≡ old ++ part →
    new ≡ joined [] (map plain_text (take (k + 1) is))
one_more_text is k i old new part lt at before spelled made =
    made
    ∙ ap₂ ◌++◌ before spelled
    ∙ sym (join_last (map plain_text (take k is)) (plain_text i))
    ∙ ap (joined []) (sym (map-append plain_text (take k is) (i ∷ [])))
    ∙ ap (λ l. joined [] (map plain_text l)) (sym (taken is k i lt at))

module _ (a : Analysis) where
  texts_numbered : (is : List Info) → Each (IsAnalysed a) is → map plain_text is ≡ map (λ e. text_of e 1) (map info_tree is)
  texts_numbered [] h = refl
  texts_numbered (i ∷ is) h =
      ap₂ ◌∷◌
      (sym (ap (λ e. text_of e 1) (is_numbered a i h.0) ∙ text-numbered (info_within i) (start_of i) (plain_tree i) 1))
      (texts_numbered is h.1)

  pub all_texts : (is : List Info) (k : ℕ) (text : Text) → Each (IsAnalysed a) is → length is ≤ k → text ≡ joined [] (map plain_text (take k is)) →
      (unicode : Bool) → text ≡ pattern_of unicode (map info_tree is)
  all_texts is k text h past made unicode =
      made ∙ ap (λ l. joined [] (map plain_text l)) (take_all k is past) ∙ ap (joined []) (texts_numbered is h)
