-- What a run answers, in the words of the tree.
use Rattle.std.specs.Prelude.{ℕ, ◌≡◌, List, Option, option_map, length}
use Rattle.std.specs.declared.vec.Vec.{Vec}
use Rattle.std.specs.declared.alloc.Global.{Global}
use Rattle.fancy_meaning.specs.Answer.{answer, search_of}
use Rattle.fancy_meaning.specs.Options.{RunOptions}
use Rattle.fancy_meaning.specs.Instr.{Prog}
use Rattle.fancy_meaning.specs.Layout.{layout}
use Rattle.fancy_meaning.specs.Premises.{Input, plan, IsAccepted}
use Rattle.fancy_steps.specs.Outcomes.{first_pair}

-- the tree is laid out as this program
abbrev pub IsProgramOf : Input → Prog → Type 0
IsProgramOf i program = program ≡ layout (plan i)

-- Whatever accepted tree is laid out as the program, these are the numbers of the chosen admitted way that the tree has
-- in the text, and there are none where it has no such way.
pub record IsMeaning (program : Prog) (text : List ℕ) (o : RunOptions) (found : Option (List ℕ)) : Type 0 where
  pub answers : (i : Input) → IsAccepted i (length program.body) → IsProgramOf i program →
      found ≡ answer (search_of (plan i) text o)

-- the same for the first pair alone
pub record IsMeaningPair (program : Prog) (text : List ℕ) (o : RunOptions) (found : Option (ℕ × ℕ)) : Type 0 where
  pub answers : (i : Input) → IsAccepted i (length program.body) → IsProgramOf i program →
      found ≡ option_map first_pair (answer (search_of (plan i) text o))

abbrev pub numbers_of : Option (Vec ℕ Global) → Option (List ℕ)
numbers_of found = option_map (λ numbers. numbers.items) found
