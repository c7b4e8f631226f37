-- Pattern texts: the names of fragments.
use Rattle.std.specs.Prelude.{◌≡◌, ℕ, ◌+◌, true, false, List, [], ◌∷◌, codes, refl, ◌++◌}
use Rattle.std.proofs.Common.{ap, arith, ◌∙◌, ◌<◌}
use Rattle.std.specs.Fmt.{decimal}
use Rattle.std.proofs.lemmas.Fmt.{decimal_digit}
use Rattle.fancy_meaning.specs.Tree.{AbsentRepeater, Conditional, ContinueFromPreviousMatchEnd, Control, DefineGroup, Empty, EndLine, EndText, EndTextIgnoreTrailingNewlines, Fail, GeneralNewline, KeepOut, LeftWordBoundary, LeftWordHalfBoundary, NotWordBoundary, RightWordBoundary, RightWordHalfBoundary, StartLine, StartLineOniguruma, StartText, WordBoundary}
use Rattle.fancy_meaning.specs.PatternText.{text_of}
use Rattle.fancy_meaning.specs.Batches.{pattern_of}
use Rattle.fancy_examples.proofs.Notation.{utf8, lit, ilit, cat, alt, grp, rep, star, lazy, lazy_star, dot, dot_crlf, any, assert, set, iset, ref, call, ahead, row}

of_the_first_path : text_of (cat (lit "a" ∷ grp (alt (lit "b" ∷ lit "bc" ∷ [])) ∷ lit "d" ∷ [])) 1 ≡ codes "a(b|bc)d"
unfolding row
of_the_first_path = refl

of_branches : text_of (alt (lit "a" ∷ lit "ab" ∷ [])) 1 ≡ codes "(?:a|ab)"
unfolding row
of_branches = refl

of_branches_alone : text_of (alt (lit "a" ∷ lit "ab" ∷ [])) 0 ≡ codes "a|ab"
unfolding row
of_branches_alone = refl

of_a_loop_of_a_sequence : text_of (star 0 (lit "ab")) 0 ≡ codes "(?:ab)*"
unfolding row
of_a_loop_of_a_sequence = refl

of_a_loop_of_branches : text_of (star 1 (alt (lit "a" ∷ lit "b" ∷ []))) 1 ≡ codes "(?:a|b)+"
unfolding row
of_a_loop_of_branches = refl

of_a_loop_of_a_loop : text_of (rep 0 1 (star 0 (lit "a"))) 1 ≡ codes "(?:a*)?"
unfolding row
of_a_loop_of_a_loop = refl

of_a_lazy_loop : text_of (lazy_star 0 (lit "a")) 1 ≡ codes "a*?"
unfolding row
of_a_lazy_loop = refl

of_a_lazy_option : text_of (lazy 0 1 (lit "a")) 1 ≡ codes "a??"
unfolding row
of_a_lazy_option = refl

of_a_loop_in_a_loop : text_of (star 1 (lit "a")) 3 ≡ codes "(?:a+)"
unfolding row
of_a_loop_in_a_loop = refl

of_a_sequence_in_a_sequence : text_of (cat (lit "a" ∷ lit "bc" ∷ [])) 1 ≡ codes "a(?:bc)"
unfolding row
of_a_sequence_in_a_sequence = refl

of_no_sequence : text_of (cat []) 1 ≡ []
unfolding row
of_no_sequence = refl

of_nothing : text_of Empty 3 ≡ []
unfolding row
of_nothing = refl

of_definitions : text_of (DefineGroup (lit "a")) 1 ≡ []
unfolding row
of_definitions = refl

of_any : text_of any 1 ≡ codes "(?s:.)"
unfolding row
of_any = refl

of_dot_crlf : text_of dot_crlf 1 ≡ codes "(?R:.)"
unfolding row
of_dot_crlf = refl

of_dot : text_of dot 1 ≡ codes "."
unfolding row
of_dot = refl

of_a_dot_character : text_of (lit ".") 1 ≡ codes "\\."
unfolding row
of_a_dot_character = refl

of_brackets : text_of (lit "(a]") 1 ≡ codes "\\(a\\]"
unfolding row
of_brackets = refl

of_a_hyphen : text_of (lit "-&~") 1 ≡ codes "-&~"
unfolding row
of_a_hyphen = refl

of_a_folded_letter : text_of (ilit "a") 1 ≡ codes "(?i:a)"
unfolding row
of_a_folded_letter = refl

of_a_folded_dollar : text_of (ilit "$") 1 ≡ codes "(?i:\\$)"
unfolding row
of_a_folded_dollar = refl

of_a_class : text_of (set "[a-c]") 3 ≡ codes "[a-c]"
unfolding row
of_a_class = refl

of_a_folded_class : text_of (iset "[a-c]") 3 ≡ codes "(?i:[a-c])"
unfolding row
of_a_folded_class = refl

of_text_edges : text_of
    (cat
    (assert StartText ∷ assert EndText ∷ assert (EndTextIgnoreTrailingNewlines false)
    ∷ assert (EndTextIgnoreTrailingNewlines true) ∷ [])) 1 ≡ codes "^$\\Z\\Z"
unfolding row
of_text_edges = refl

of_line_edges : text_of
    (cat (assert (StartLine false) ∷ assert (StartLineOniguruma false) ∷ assert (EndLine false) ∷ [])) 1
    ≡ codes "(?m:^)(?m:^)(?m:$)"
unfolding row
of_line_edges = refl

of_line_edges_with_crlf : text_of
    (cat (assert (StartLine true) ∷ assert (StartLineOniguruma true) ∷ assert (EndLine true) ∷ [])) 1
    ≡ codes "(?Rm:^)(?Rm:^)(?Rm:$)"
unfolding row
of_line_edges_with_crlf = refl

of_word_edges : text_of (cat (assert WordBoundary ∷ assert NotWordBoundary ∷ [])) 1 ≡ codes "\\b\\B"
unfolding row
of_word_edges = refl

of_word_starts : text_of (cat (assert LeftWordBoundary ∷ assert LeftWordHalfBoundary ∷ [])) 1 ≡ codes "\\b{start}\\b{start-half}"
unfolding row
of_word_starts = refl

of_word_ends : text_of (cat (assert RightWordBoundary ∷ assert RightWordHalfBoundary ∷ [])) 1 ≡ codes "\\b{end}\\b{end-half}"
unfolding row
of_word_ends = refl

of_hard_nodes : text_of
    (cat
    (KeepOut ∷ ContinueFromPreviousMatchEnd ∷ ahead (lit "a") ∷ ref 1 ∷ call 1 ∷ GeneralNewline true ∷ Control Fail
    ∷ Conditional (lit "a") (lit "b") (lit "c") ∷ AbsentRepeater (lit "a") ∷ [])) 1 ≡ []
unfolding row
of_hard_nodes = refl

of_a_group_of_branches : text_of (grp (alt (lit "a" ∷ lit "b" ∷ []))) 3 ≡ codes "(a|b)"
unfolding row
of_a_group_of_branches = refl

of_two_bytes : text_of (lit "é") 1 ≡ utf8 "é"
unfolding row
of_two_bytes = refl

of_neighbours : pattern_of true (lit "ab" ∷ alt (lit "a" ∷ lit "b" ∷ []) ∷ []) ≡ codes "ab(?:a|b)"
unfolding row
of_neighbours = refl

digit : (n : ℕ) → n < 10 → decimal n ≡ (48 + n) ∷ []
digit = decimal_digit

of_exactly_two : text_of (rep 2 2 (lit "a")) 1 ≡ codes "a{2}"
unfolding row
of_exactly_two = ap (λ d. codes "a{" ++ ((d ++ codes "}") ++ [])) (digit 2 (omega arith))

of_exactly_none : text_of (rep 0 0 (lit "a")) 1 ≡ codes "a{0}"
unfolding row
of_exactly_none = ap (λ d. codes "a{" ++ ((d ++ codes "}") ++ [])) (digit 0 (omega arith))

of_exactly_one : text_of (rep 1 1 (lit "ab")) 1 ≡ codes "(?:ab){1}"
unfolding row
of_exactly_one = ap (λ d. codes "(?:ab){" ++ ((d ++ codes "}") ++ [])) (digit 1 (omega arith))

of_two_or_more_lazy : text_of (lazy_star 2 (lit "a")) 1 ≡ codes "a{2,}?"
unfolding row
of_two_or_more_lazy = ap (λ d. codes "a{" ++ ((d ++ codes ",}") ++ codes "?")) (digit 2 (omega arith))

abbrev bounded : List ℕ → List ℕ → List ℕ
bounded lo hi = codes "a{" ++ ((((lo ++ codes ",") ++ hi) ++ codes "}") ++ [])

of_two_to_three : text_of (rep 2 3 (lit "a")) 1 ≡ codes "a{2,3}"
unfolding row
of_two_to_three = ap (λ lo. bounded lo (decimal 3)) (digit 2 (omega arith)) ∙ ap (bounded (50 ∷ [])) (digit 3 (omega arith))
