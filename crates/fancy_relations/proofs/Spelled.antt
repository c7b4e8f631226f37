-- A pattern that spells a text finds the first place of its bytes.
use Rattle.std.proofs.Common.{◌≡◌, ◌≢◌, ℕ, ◌+◌, ◌<◌, Bool, true, false, List, [], ◌∷◌, ◌++◌, length, Option, Some, None, option_map, chars, encode_utf8_all, IsUtf8, if◌then◌else◌, refl, sym, ap, ◌∙◌, subst, arith}
use Rattle.std.specs.Prelude.{filter, slice_get}
use Rattle.std.specs.Char.{IsScalar}
use Rattle.std.proofs.Math.Utf8.{scalars}
use Rattle.std.proofs.lemmas.Bool.{and_from, and_parts}
use Rattle.std.proofs.lemmas.Str.{chars-encodes, encodes-chars, scalars-chars}
use Rattle.regex_hir.specs.Text.{has_bytes_at}
use Rattle.fancy_meaning.specs.Answer.{Search, answer, search_of}
use Rattle.fancy_meaning.specs.Nodes.{group_count}
use Rattle.fancy_meaning.specs.Numbering.{each_numbered, numbered}
use Rattle.fancy_meaning.specs.Places.{is_place, places_from}
use Rattle.fancy_meaning.specs.Premises.{plan}
use Rattle.fancy_meaning.specs.Tree.{trees}
use Rattle.fancy_meaning.specs.Tree as tree
use Rattle.fancy_expr.specs.Views.{tree_of}
use Rattle.fancy_laws.proofs.Every.{Every, no_item, item}
use Rattle.fancy_matches.specs.Listing.{begun_at}
use Rattle.fancy_matches.specs.Matchers.{shown_match, span_of, with_span}
use Rattle.fancy_matches.specs.declared.found.Match.{Match}
use Rattle.fancy_pattern.specs.Escape.{SpellsText, escaped, is_special, literals}
use Rattle.fancy_pattern.proofs.EscapedTokens.{spells_text}
use Rattle.fancy_pattern.proofs.OnePattern.{one_tree}
use Rattle.fancy_regex.specs.Builders.{IsBuilt}
use Rattle.fancy_regex.specs.Options.{input, running}
use Rattle.fancy_regex.specs.declared.options.RegexOptions.{RegexOptions}
use Rattle.fancy_regex.specs.declared.regexes.Regex.{Regex}
use Rattle.fancy_relations.specs.Calls.{ReturnsMatch}
use Rattle.fancy_relations.specs.Escaped.{FindsBytes, first_place, first_span}
use Rattle.fancy_relations.proofs.FirstPlace.{first_at_places}
use Rattle.fancy_relations.proofs.Literals.{answer_is_first, spelled}

-- ---- the tree

numbered_each : (n : ℕ) (casei : Bool) (cs : List ℕ) → each_numbered tree.NoLook n (trees (literals casei cs)) ≡ trees (literals casei cs)
numbered_each n casei [] = refl
numbered_each n casei (c ∷ cs) =
    ap (tree.more (tree.Literal c casei)) (numbered_each (n + group_count (tree.Literal c casei)) casei cs)

pub numbered_same : (n : ℕ) (casei : Bool) (cs : List ℕ) → numbered n (spelled casei cs) ≡ spelled casei cs
unfolding numbered
numbered_same n casei [] = refl
numbered_same n casei (c ∷ []) = refl
numbered_same n casei (c ∷ d ∷ cs) = ap tree.Concat (numbered_each n casei (c ∷ d ∷ cs))

-- a regex of a pattern that spells a text is one of its literals
pub tree_spelled : (pattern s : List ℕ) (o : RegexOptions) (r : Regex) → SpellsText (chars pattern) (chars s) →
    (is : IsBuilt pattern o r) → tree_of is.tree.expr ≡ spelled (o.parsing).case_insensitive (chars s)
tree_spelled pattern s o r spells is =
    one_tree o.parsing (chars pattern) (tree_of is.tree.expr) (spelled (o.parsing).case_insensitive (chars s))
    is.spelled.spelled.spells (spells o.parsing)

every_scalar : (cs : List ℕ) → scalars cs ≡ true → Every IsScalar cs
every_scalar [] e = no_item
every_scalar (c ∷ cs) e = let p = and_parts _ _ e in item p.0 (every_scalar cs p.1)

escaped_scalars : (cs : List ℕ) → scalars cs ≡ true → scalars (escaped cs) ≡ true
escaped_scalars [] e = refl
escaped_scalars (c ∷ cs) e =
    let p = and_parts _ _ e in
    by_test (is_special c) (escaped cs) (and_from _ _ p.0 refl) (escaped_scalars cs p.1)
  where
    by_test : (b : Bool) (rest : List ℕ) → scalars (c ∷ []) ≡ true → scalars rest ≡ true →
        scalars ((if b then 92 ∷ c ∷ [] else c ∷ []) ++ rest) ≡ true
    by_test true rest one more = and_from _ _ (and_parts _ _ one).0 more
    by_test false rest one more = and_from _ _ (and_parts _ _ one).0 more

-- ---- what is seen of an answer

span_seen : (text : List ℕ) (n : ℕ) (found : Option Match) (first : Option ℕ) →
    option_map shown_match found ≡ option_map (with_span text) (option_map (λ i. i ∷ (i + n) ∷ []) first) →
    option_map span_of found ≡ option_map (λ i. (i, i + n)) first
span_seen text n None None e = refl
span_seen text n None (Some i) e = cc
span_seen text n (Some m) None e = cc
span_seen text n (Some m) (Some i) e = ap (option_map (λ p. p.1)) e

some_bytes : (s : List ℕ) → s ≢ [] → 0 < length s
some_bytes [] h = absurd (h refl)
some_bytes (b ∷ bs) h = omega arith

module _ (s pattern : List ℕ) (o : RegexOptions) (r : Regex) (text : List ℕ) (pos : ℕ) (found : Option Match) (utf8 : IsUtf8 s) where
  pub spelled_found : SpellsText (chars pattern) (chars s) → FindsBytes o s → IsBuilt pattern o r → is_place text pos ≡ true →
      ReturnsMatch r text pos found → option_map span_of found ≡ first_span text s pos
  spelled_found spells finds is at returns =
      let i = input is.tree o in
      let q : Search = search_of (plan i) text (begun_at (running o text) pos) in
      let same : encode_utf8_all (chars s) ≡ s = encodes-chars s utf8 in
      let parsed : tree_of is.tree.expr ≡ spelled false (chars s) =
      tree_spelled pattern s o r spells is ∙ ap (λ b. spelled b (chars s)) finds.unfolded in
      let whole : q.tree ≡ spelled false (chars s) = ap (numbered 1) parsed ∙ numbered_same 1 false (chars s) in
      let answered = answer_is_first q (chars s) whole (every_scalar (chars s) (scalars-chars s utf8)) refl refl
      (λ e. subst (λ l. 0 < length l) (sym same) (some_bytes s (finds.allowed e))) in
      let known : answer q ≡ option_map (λ i. i ∷ (i + length s) ∷ []) (first_place text s pos)
      =
      subst
      (λ l. answer q ≡ option_map (λ i. i ∷ (i + length l) ∷ []) (slice_get (filter (λ i. has_bytes_at text i l) (places_from text pos)) 0))
      same answered
      ∙ ap (option_map (λ i. i ∷ (i + length s) ∷ [])) (first_at_places text s pos utf8 at) in
      span_seen text (length s) found (first_place text s pos)
      ((returns i (running o text) (is.compiled text)).1 ∙ ap (option_map (with_span text)) known)

  -- ---- what `escape` returns

  pub escaped_found : pattern ≡ encode_utf8_all (escaped (chars s)) → FindsBytes o s → IsBuilt pattern o r → is_place text pos ≡ true →
      ReturnsMatch r text pos found → option_map span_of found ≡ first_span text s pos
  escaped_found e finds is at returns =
      let read : chars pattern ≡ escaped (chars s) =
      ap chars e ∙ chars-encodes (escaped (chars s)) (escaped_scalars (chars s) (scalars-chars s utf8)) in
      spelled_found (subst (λ t. SpellsText t (chars s)) (sym read) (spells_text (chars s))) finds is at returns
