-- The first token that cannot stand where it stands, with what may come next kept as a stack.
use Rattle.std.specs.Prelude.{ℕ, List, [], ◌∷◌, ◌++◌, Option, Some, None}
use Rattle.fancy_notation.specs.declared.forms.Form.{Form}
use Rattle.fancy_notation.specs.declared.forms.Form.TheVariants as form
use Rattle.fancy_notation.specs.Tokens.{Token, Placed, Opened, Closed, Quoted, Word, Broken}
use Rattle.fancy_notation.specs.Words.{leaf_of, verb_of, number_of, level_of, count_of, bound_at_least, byte_of}
use Rattle.fancy_notation.specs.Grammar.{in_word, closing, class, head_word}

-- what may come next
pub data Want : Type 0 where
  Node Head Shut Parts Count Number Level Bytes Class VerbName : Want
  Bound : (lo : ℕ) → Want

abbrev pub wants : Form → List Want
wants form.Cat = Parts ∷ []
wants form.Alt = Node ∷ Parts ∷ []
wants (form.Enclosing f) = Node ∷ Shut ∷ []
wants (form.Repeat greedy) = Count ∷ Node ∷ Shut ∷ []
wants (form.Set casei) = Class ∷ Shut ∷ []
wants form.Bytes = Bytes ∷ []
wants (form.Naming f) = Number ∷ Shut ∷ []
wants (form.Leveled f) = Number ∷ Level ∷ Shut ∷ []
wants form.Verb = VerbName ∷ Shut ∷ []
wants form.Conditional = Node ∷ Node ∷ Node ∷ Shut ∷ []
wants form.AbsentExpression = Node ∷ Node ∷ Shut ∷ []

-- how many groups are open then, and what may come next in place of what came
pub record Next : Type 0 where
  pub groups : ℕ
  pub wants : List Want

abbrev pub with_groups : ℕ → List Want → Next
with_groups g ws = record { groups = g; wants = ws }

-- where the token gives something
abbrev pub given : {V : Type 0} → Option V → (V → Next) → Option Next
given None f = None
given (Some v) f = Some (f v)

abbrev pub node_step : ℕ → Token → Option Next
node_step g Opened = Some (with_groups g (Head ∷ []))
node_step g Closed = None
node_step g (Quoted folded text) = Some (with_groups g [])
node_step g (Word w) = given (leaf_of w) (λ e. with_groups g [])
node_step g Broken = None

abbrev pub many_step : Want → ℕ → Token → Option Next → Option Next
many_step w g Closed more = Some (with_groups g [])
many_step w g t None = None
many_step w g t (Some n) = Some (with_groups n.groups (n.wants ++ w ∷ []))

abbrev pub next_step : ℕ → Want → Token → Option Next
next_step g Node t = node_step g t
next_step g Head t = given (in_word (head_word g) t) (λ f. with_groups f.1 (wants f.0))
next_step g Shut t = given (closing t) (λ u. with_groups g [])
next_step g Parts t = many_step Parts g t (node_step g t)
next_step g Count t = given (in_word count_of t) (λ n. with_groups g (Bound n ∷ []))
next_step g (Bound lo) t = given (in_word (bound_at_least lo) t) (λ n. with_groups g [])
next_step g Number t = given (in_word number_of t) (λ n. with_groups g [])
next_step g Level t = given (in_word level_of t) (λ n. with_groups g [])
next_step g Bytes t = many_step Bytes g t (given (in_word byte_of t) (λ b. with_groups g []))
next_step g Class t = given (class t) (λ s. with_groups g [])
next_step g VerbName t = given (in_word verb_of t) (λ v. with_groups g [])

-- the place of the first token that cannot stand, or the end where more is needed; None where all is well
abbrev pub misfit : ℕ → List Placed → ℕ → List Want → Option ℕ
misfit end [] g [] = None
misfit end [] g (w ∷ ws) = Some end
misfit end (p ∷ ps) g [] = Some p.at
misfit end (p ∷ ps) g (w ∷ ws) =
    elim (next_step g w p.token) [ None ↦ Some p.at | Some n ↦ misfit end ps n.groups (n.wants ++ ws) ]
