-- A run of a tree's program answers what the tree means.
use Rattle.std.proofs.Common.{◌≡◌, ℕ, ◌<◌, ◌⊎◌, inl, inr, List, length, Option, Some, None, Result, Ok, Err, option_map, true, refl, sym, ap, ◌∙◌, subst}
use Rattle.std.specs.Prelude.{IsUtf8, IfOk}
use Rattle.std.specs.declared.vec.Vec.{Vec}
use Rattle.std.specs.declared.alloc.Global.{Global}
use Rattle.fancy_expr.specs.declared.error.Error.{Error}
use Rattle.fancy_meaning.specs.Answer.{answer, search_of}
use Rattle.fancy_meaning.specs.Numbers.{usize_max}
use Rattle.fancy_meaning.specs.Options.{RunOptions}
use Rattle.fancy_meaning.specs.Instr.{Prog}
use Rattle.fancy_meaning.specs.Layout.{layout}
use Rattle.fancy_meaning.specs.Premises.{Input, plan, IsAccepted, IsFit}
use Rattle.fancy_meaning.specs.Config.{Outcome, outcome_of}
use Rattle.fancy_meaning.specs.Machine.{Task, run}
use Rattle.fancy_meaning.specs.Enumerates.{IsLimit}
use Rattle.fancy_meaning.specs.Theorems as theorem
use Rattle.fancy_headline.proofs.Answered.{headline}
use Rattle.fancy_meaning.specs.Fits.{run_fits}
use Rattle.fancy_vm.specs.Means.{IsMeaning, IsMeaningPair, IsProgramOf, numbers_of}
use Rattle.fancy_steps.specs.Outcomes.{RunAnswers, RunAnswersPair, first_pair}
use Rattle.fancy_program.proofs.FitsLaws.{run_place, run_not_empty, run_longest}

-- an outcome that is an answer passes no limit, and is of one answer
no_limit : (found : Option (List ℕ)) → IsLimit (outcome_of found) → ⊥
no_limit None limit = limit
no_limit (Some numbers) limit = limit

one_answer : (found wanted : Option (List ℕ)) → outcome_of found ≡ outcome_of wanted → found ≡ wanted
one_answer None None same = refl
one_answer None (Some wanted) same = cc
one_answer (Some numbers) None same = cc
one_answer (Some numbers) (Some wanted) same = cc

same_answer : (found wanted : Option (List ℕ)) (o : Outcome) → o ≡ outcome_of found → IsLimit o ⊎ (o ≡ outcome_of wanted) → found ≡ wanted
same_answer found wanted o is (inl limit) = absurd (no_limit found (subst IsLimit is limit))
same_answer found wanted o is (inr same) = one_answer found wanted (sym is ∙ same)

-- the program has the options of the analysis
record KeepsOptions (i : Input) (p : Prog) : Type 0 where
  not_empty : p.find_not_empty ≡ (i.analysis).find_not_empty
  longest : p.leftmost_longest ≡ (i.analysis).leftmost_longest

keeps_delegated : (i : Input) → KeepsOptions i (layout (plan i))
unfolding layout
keeps_delegated i = record { not_empty = refl; longest = refl }

module _ (program : Prog) (text : List ℕ) (o : RunOptions) (utf8 : IsUtf8 text) (small : length text < usize_max) where
  abbrev task : Task
  task = record { program = program; text = text; options = o }

  pub may_run : (i : Input) → run_fits task ≡ true → IsProgramOf i program → IsFit i text o
  may_run i fits is = record {
    is_text = record { utf8 = utf8; fits = small };
    pos = run_place task fits;
    not_empty = λ on. sym (keeps_delegated i).not_empty ∙ sym (ap (λ (p : Prog). p.find_not_empty) is) ∙ run_not_empty task fits on;
    longest = λ on. sym (keeps_delegated i).longest ∙ sym (ap (λ (p : Prog). p.leftmost_longest) is) ∙ run_longest task fits on;
  }

  answers : (i : Input) → run_fits task ≡ true → IsAccepted i (length program.body) → IsProgramOf i program → theorem.Answers (plan i) program text o
  answers i fits accepted is =
      subst (λ (p : Prog). theorem.Answers (plan i) p text o) (sym is)
      (headline i text o (subst (λ (p : Prog). IsAccepted i (length p.body)) is accepted) (may_run i fits is))

  means : (found : Option (List ℕ)) → run_fits task ≡ true → run task ≡ outcome_of found → IsMeaning program text o found
  means found fits comes = record {
    answers = λ i accepted is. same_answer found (answer (search_of (plan i) text o)) (run task) comes (answers i fits accepted is);
  }

  pub run_means : (result : Result (Option (Vec ℕ Global)) Error) → run_fits task ≡ true → RunAnswers (run task) result →
      IfOk result (λ found. IsMeaning program text o (numbers_of found))
  run_means (Ok None) fits comes = means None fits comes
  run_means (Ok (Some numbers)) fits comes = means (Some numbers.items) fits comes
  run_means (Err e) fits comes = tt

  pub run_means_pair : (result : Result (Option (ℕ × ℕ)) Error) → run_fits task ≡ true → RunAnswersPair (run task) result →
      IfOk result (IsMeaningPair program text o)
  run_means_pair (Ok None) fits comes =
      record { answers = λ i accepted is. ap (option_map first_pair) ((means None fits comes).answers i accepted is) }
  run_means_pair (Ok (Some pair)) fits comes = record {
    answers = λ i accepted is.
        ap Some (sym comes.1.1) ∙ ap (option_map first_pair) ((means (Some comes.0) fits comes.1.0).answers i accepted is);
  }
  run_means_pair (Err e) fits comes = tt
