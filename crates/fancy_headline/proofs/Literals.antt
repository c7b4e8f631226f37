-- Literal nodes, as characters one after the other.
use Rattle.std.proofs.Common.{◌≡◌, ℕ, ◌+◌, Bool, true, false, nat_eq, List, [], ◌∷◌, ◌++◌, map, Option, Some, None, option_and_then, option_map, encode_utf8, encode_utf8_all, refl, sym, ap, ◌∙◌, arith}
use Rattle.std.specs.List.{list_any}
use Rattle.std.specs.Char.{IsScalar}
use Rattle.regex_hir.proofs.TextLemmas.{has_bytes_at_from}
use Rattle.fancy_meaning.specs.Tree.{Tree, trees}
use Rattle.fancy_meaning.specs.Chars.{literal_takes}
use Rattle.fancy_meaning.specs.Moves.{past_char, past_chars, past_bytes}
use Rattle.fancy_meaning.specs.MatchState.{MatchState, Ways, in_order}
use Rattle.fancy_meaning.specs.Ways.{Setting, ways_with, each_ways}
use Rattle.fancy_meaning.specs.Batches.{all_joined, literal_chars, each_literal}
use Rattle.fancy_composed.proofs.Parts.{at_place, moves_at}
use Rattle.fancy_composed.proofs.Texts.{bytes_append, char_by_bytes, bytes_stand}
use Rattle.fancy_laws.proofs.Every.{Every, no_item, item}
use Rattle.fancy_delegation.proofs.Literals.{each_literal_way}

-- characters with whether they are folded
abbrev pub Chars : Type 0
Chars = List (ℕ × Bool)

module _ (unicode : Bool) (text : List ℕ) where
  abbrev pub test_of : ℕ × Bool → ℕ → Bool
  test_of d = literal_takes unicode d.0 d.1

  -- past all of them
  abbrev pub skip_all : Chars → ℕ → Option ℕ
  skip_all cs i = past_chars text (map test_of cs) i

  same_onward : (f g : ℕ → Option ℕ) → ((i : ℕ) → f i ≡ g i) → (o : Option ℕ) → option_and_then f o ≡ option_and_then g o
  same_onward f g e None = refl
  same_onward f g e (Some i) = e i

  -- unfolded ones by their bytes
  pub bytes_of_all : (cs : Chars) (i : ℕ) → list_any (λ c. c.1) cs ≡ false → Every (λ c. IsScalar c.0) cs →
      past_bytes text (encode_utf8_all (map (λ c. c.0) cs)) i ≡ skip_all cs i
  bytes_of_all [] i e no_item =
      bytes_stand text [] i (has_bytes_at_from text i [] _ refl) ∙ ap Some (let z : i + 0 ≡ i = omega arith in z)
  bytes_of_all ((c, true) ∷ cs) i e (item k ks) = cc
  bytes_of_all ((c, false) ∷ cs) i e (item k ks) =
      bytes_append text (encode_utf8 c) (encode_utf8_all (map (λ d. d.0) cs)) i
      ∙ ap (option_and_then (past_bytes text (encode_utf8_all (map (λ d. d.0) cs)))) (char_by_bytes text c i k)
      ∙ same_onward (past_bytes text (encode_utf8_all (map (λ d. d.0) cs))) (skip_all cs) (λ j. bytes_of_all cs j e ks)
      (past_char text (nat_eq c) i)

-- ---- the characters of nodes

-- what joins in a whole
pub joined_parts : (o : Option Chars) (os : List (Option Chars)) (cs : Chars) → all_joined (o ∷ os) ≡ Some cs →
    (ds : Chars) × (rest : Chars) × (o ≡ Some ds) × (all_joined os ≡ Some rest) × (cs ≡ ds ++ rest)
joined_parts None os cs e = cc
joined_parts (Some ds) os cs e = here (all_joined os) refl e
  where
    here : (o : Option Chars) → all_joined os ≡ o → option_map (λ r. ds ++ r) o ≡ Some cs →
        (fs : Chars) × (rest : Chars) × (Some ds ≡ Some fs) × (all_joined os ≡ Some rest) × (cs ≡ fs ++ rest)
    here None q f = cc
    here (Some rest) q f = (ds, rest, refl, q, (let same : cs ≡ ds ++ rest = cc in same))

each_literal_of : (es : List Tree) → each_literal (trees es) ≡ map literal_chars es
each_literal_of [] = refl
each_literal_of (e ∷ es) = ap (λ l. literal_chars e ∷ l) (each_literal_of es)

module _ (q : Setting) (call : ℕ → Ways) where
  each_ways_of : (es : List Tree) → each_ways q call (trees es) ≡ map (ways_with q call) es
  each_ways_of [] = refl
  each_ways_of (e ∷ es) = ap (λ l. ways_with q call e ∷ l) (each_ways_of es)

  -- neighbours that are literal take their characters
  pub list_takes_chars : (es : List Tree) (cs : Chars) → all_joined (map literal_chars es) ≡ Some cs → (s : MatchState) →
      in_order (map (ways_with q call) es) s ≡ at_place s (skip_all q.unicode q.text cs s.place)
  list_takes_chars es cs e s =
      ap (λ fs. in_order fs s) (sym (each_ways_of es))
      ∙ each_literal_way q call (trees es) cs (ap all_joined (each_literal_of es) ∙ e) s
      ∙ moves_at q (skip_all q.unicode q.text cs) s (skip_all q.unicode q.text cs s.place) refl
