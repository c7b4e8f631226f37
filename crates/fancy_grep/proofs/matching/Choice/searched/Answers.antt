use Rattle.std.proofs.Common.{◌≡◌, ◌≢◌, ◌∷◌, ◌++◌, [], ℕ, List, MatchOption, subst, arith}
use Rattle.std.proofs.lemmas.Str.Pattern.{strip_suffix_char}
use Rattle.fancy_grep.proofs.MatchingLaws.{return_kept, searched_whole}
use Rattle.fancy_grep.proofs.matching.Choice.searched.Goals as goal

pub returns-in-None-clause-text : goal.returns-in-None-clause-text
returns-in-None-clause-text c =
    let text = c.args.line.text.now in
    let none = subst (λ r. MatchOption r ((front : List ℕ) → text ≢ front ++ 13 ∷ []) (λ x. text ≡ x.now ++ 13 ∷ [])) c.in-None.is
    (strip_suffix_char 13 text c.strip_suffix.result c.strip_suffix.ensures.cases (omega arith)) in
    searched_whole c.args.self.has_returns text (return_kept text none)
