-- What is searched for does not go by limits.
use Rattle.std.proofs.Common.{◌≡◌, ℕ, Bool, true, false, List, Option, option_map, chars, sym, ap, ◌∙◌, subst}
use Rattle.fancy_meaning.specs.Answer.{Search, answer, search_of}
use Rattle.fancy_meaning.specs.Numbering.{numbered}
use Rattle.fancy_meaning.specs.Premises.{plan}
use Rattle.fancy_meaning.specs.Tree.{Tree}
use Rattle.fancy_expr.specs.Views.{tree_of}
use Rattle.fancy_expr.specs.declared.expr.ExprTree.{ExprTree}
use Rattle.fancy_matches.specs.Listing.{begun_at}
use Rattle.fancy_matches.specs.Matchers.{shown_match, with_numbers, with_span}
use Rattle.fancy_matches.specs.declared.found.Match.{Match}
use Rattle.fancy_pattern.specs.Spelling.{Spells}
use Rattle.fancy_pattern.proofs.OnePattern.{one_tree}
use Rattle.fancy_regex.specs.Builders.{IsBuilt}
use Rattle.fancy_regex.specs.Found.{shown_captures}
use Rattle.fancy_regex.specs.Options.{input, running}
use Rattle.fancy_regex.specs.declared.found.Captures.{Captures}
use Rattle.fancy_regex.specs.declared.options.RegexOptions.{RegexOptions}
use Rattle.fancy_regex.specs.declared.regexes.Regex.{Regex}
use Rattle.fancy_relations.specs.Calls.{ReturnsCaptures, ReturnsMatch}
use Rattle.fancy_relations.specs.Limited.{AreButForLimits}

-- what a call searches for from here
abbrev searched : ExprTree → RegexOptions → List ℕ → ℕ → Search
searched t o text pos = search_of (plan (input t o)) text (begun_at (running o text) pos)

-- by the tree and what it goes by of the options
abbrev pub searched_by : Tree → List ℕ → ℕ → (unicode not_empty longest : Bool) → Search
searched_by e text pos unicode not_empty longest = record {
  tree = numbered 1 e;
  setting = record { text = text; pos = pos; continued = true; unicode = unicode };
  anchored = false;
  not_empty = not_empty;
  end_text = false;
  leftmost_longest = longest;
}

same_search : (pattern : List ℕ) (a b : RegexOptions) (r q : Regex) (text : List ℕ) (pos : ℕ) → AreButForLimits a b →
    (is : IsBuilt pattern a r) (same : IsBuilt pattern b q) → searched is.tree a text pos ≡ searched same.tree b text pos
same_search pattern a b r q text pos but is same =
    let tree : tree_of is.tree.expr ≡ tree_of same.tree.expr =
    one_tree a.parsing (chars pattern) (tree_of is.tree.expr) (tree_of same.tree.expr) is.spelled.spelled.spells
    (subst (λ parsing. Spells parsing (chars pattern) (tree_of same.tree.expr)) (sym but.parsing) same.spelled.spelled.spells) in
    ap (λ e. searched_by e text pos (a.parsing).unicode a.not_empty a.longest) tree
    ∙ ap (λ parsing. searched_by (tree_of same.tree.expr) text pos parsing.unicode a.not_empty a.longest) but.parsing
    ∙ ap (λ v. searched_by (tree_of same.tree.expr) text pos (b.parsing).unicode v a.longest) but.not_empty
    ∙ ap (λ v. searched_by (tree_of same.tree.expr) text pos (b.parsing).unicode b.not_empty v) but.longest

module _ (pattern : List ℕ) (a b : RegexOptions) (r q : Regex) (text : List ℕ) (pos : ℕ) (but : AreButForLimits a b)
    (is : IsBuilt pattern a r) (same : IsBuilt pattern b q) where
  same_answer : answer (searched is.tree a text pos) ≡ answer (searched same.tree b text pos)
  same_answer = ap answer (same_search pattern a b r q text pos but is same)

  pub same_match : (found other : Option Match) → ReturnsMatch r text pos found → ReturnsMatch q text pos other →
      option_map shown_match found ≡ option_map shown_match other
  same_match found other one two =
      (one (input is.tree a) (running a text) (is.compiled text)).1
      ∙ ap (option_map (with_span text)) same_answer
      ∙ sym (two (input same.tree b) (running b text) (same.compiled text)).1

  pub same_captures : (found other : Option Captures) → ReturnsCaptures r text pos found → ReturnsCaptures q text pos other →
      option_map shown_captures found ≡ option_map shown_captures other
  same_captures found other one two =
      (one (input is.tree a) (running a text) (is.compiled text)).1
      ∙ ap (option_map (with_numbers text)) same_answer
      ∙ sym (two (input same.tree b) (running b text) (same.compiled text)).1
