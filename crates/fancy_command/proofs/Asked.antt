-- What the calls of the program need of each other.
use Rattle.std.proofs.Common.{◌≡◌, ℕ, Bool, true, false, List, ◌∷◌, map, string_bytes, Option, Some, None, Result, IsTrue, refl, sym, ap, ◌∙◌, subst, leb-true}
use Rattle.std.specs.Str.{IsCharBoundary}
use Rattle.std.specs.declared.string.String.{String}
use Rattle.std.specs.declared.alloc.Global.{Global}
use Rattle.std.specs.declared.vec.Vec.{Vec}
use Rattle.std.proofs.lemmas.Bool.{and_parts}
use Rattle.regex.proofs.Utf8Lemmas.{IsCharBoundary-of_test}
use Rattle.fancy_meaning.specs.Options as plain
use Rattle.fancy_meaning.specs.Places.{is_place}
use Rattle.fancy_steps.specs.Tasks.{options_of as run_options_of}
use Rattle.fancy_notation.specs.Words.{when}
use Rattle.fancy_notation.proofs.WordFacts.{by_test}
use Rattle.fancy_expr.specs.declared.error.Error.{Error}
use Rattle.fancy_expr.specs.declared.expr.ExprTree.{ExprTree}
use Rattle.fancy_info.specs.declared.context.AnalyzeContext.{AnalyzeContext}
use Rattle.fancy_compile.specs.declared.options.CompileOptions.{CompileOptions}
use Rattle.fancy_command.specs.declared.arguments.Arguments.{Arguments}
use Rattle.fancy_search.specs.declared.search.SearchOptions.{SearchOptions}
use Rattle.fancy_command.specs.Arguments as line
use Rattle.fancy_command.specs.Arguments.{Text, Question, arguments_of, question_of}
use Rattle.fancy_command.specs.Commands.{AnswersTo, searched, IsRead}
use Rattle.fancy_search.proofs.Searched.{place_of}
use Rattle.fancy_search.specs.Searches.{PromisesWithin, input_of}

boundary_of : (text : List ℕ) (i : ℕ) → is_place text i ≡ true → IsCharBoundary text i
boundary_of text i e = let p = and_parts _ _ e in IsCharBoundary-of_test text i (leb-true _ _ p.0) p.1

-- a test for a boundary is the test for a place
pub tells_place : (text : List ℕ) (i : ℕ) (b : Bool) → (IsTrue b → IsCharBoundary text i) × (IsCharBoundary text i → IsTrue b) → is_place text i ≡ b
tells_place text i true h = place_of text i (h.0 refl)
tells_place text i false h = by_test (is_place text i) (λ e. absurd (let f = h.1 (boundary_of text i e) in cc)) (λ e. e)

-- what TREE and TEXT ask with what the other words say
asked_with : Text → Text → Option Arguments → Option Question
asked_with tree text o = elim o [ Some a ↦ line.asks tree text a | None ↦ None ]

asks_split : (tree text : Text) (ws : List Text) (a : Arguments) → Some a ≡ arguments_of ws → line.asks tree text a ≡ question_of (tree ∷ text ∷ ws)
unfolding asked_with
asks_split tree text ws a said = ap (asked_with tree text) said

-- what the words ask: a search that begins at a place, and no other
pub asks : (words : List (String Global)) (tree text : String Global) (rest : List (String Global)) (tree' text' : Text)
    (a : Arguments) (b : Bool) → words ≡ tree ∷ text ∷ rest → tree' ≡ string_bytes tree → text' ≡ string_bytes text →
    Some a ≡ arguments_of (map string_bytes rest) → is_place text' a.pos ≡ b →
    when b (record { tree = tree'; text = text'; arguments = a }) ≡ question_of (map string_bytes words)
asks words tree text rest tree' text' a b split of_tree of_text said at =
    ap (λ x. when x (record { tree = tree'; text = text'; arguments = a })) (sym at)
    ∙ subst (λ x. line.asks tree' text' a ≡ question_of (x ∷ string_bytes text ∷ map string_bytes rest)) of_tree
    (subst (λ x. line.asks tree' text' a ≡ question_of (tree' ∷ x ∷ map string_bytes rest)) of_text (asks_split tree' text' (map string_bytes rest) a said))
    ∙ subst (λ ws. question_of (string_bytes tree ∷ string_bytes text ∷ map string_bytes rest) ≡ question_of (map string_bytes ws)) (sym split) refl

-- what the search answers is what the words ask for
pub answers_by : (q : Question) (t : ExprTree) (o : SearchOptions) (answer : Result (Option (Vec ℕ Global)) Error) → IsRead q.tree t →
    o.analysis ≡ line.analysis q.arguments → o.compilation ≡ line.compilation q.arguments → run_options_of o.run ≡ line.running q.arguments →
    PromisesWithin (input_of t o.analysis o.compilation) o.compilation.max_nesting q.text (run_options_of o.run) answer → AnswersTo q answer
answers_by q t o answer read as_analysed as_compiled as_run h =
    searched {t = t} read
    (subst (λ (x : plain.RunOptions). PromisesWithin (input_of t (line.analysis q.arguments) (line.compilation q.arguments)) (Some line.most_nesting) q.text x answer)
    as_run
    (subst (λ (x : CompileOptions). PromisesWithin (input_of t (line.analysis q.arguments) x) x.max_nesting q.text (run_options_of o.run) answer) as_compiled
    (subst (λ (x : AnalyzeContext). PromisesWithin (input_of t x o.compilation) o.compilation.max_nesting q.text (run_options_of o.run) answer) as_analysed h)))
