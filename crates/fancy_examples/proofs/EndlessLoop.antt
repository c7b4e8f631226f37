-- A part that goes round for ever enumerates no list.
use Rattle.std.proofs.Common.{◌≡◌, ⊎_elim, ℕ, zero, suc, Bool, true, false, ◌&&◌, ◌==◌, if◌then◌else◌, List, [], ◌∷◌, ap, sym, refl, subst, ◌∙◌, Option, Some, None}
use Rattle.std.specs.Prelude.{slice_get}
use Rattle.fancy_meaning.specs.MatchState.{MatchState}
use Rattle.fancy_meaning.specs.Options.{RunOptions}
use Rattle.fancy_meaning.specs.Instr.{Prog, Jmp, End}
use Rattle.fancy_meaning.specs.Config.{Config, Match, StepLimitExceeded, Next, Goes, Ends, longer, outcome_of}
use Rattle.fancy_meaning.specs.Machine.{Task, fail, fail_to, exec, numbers_of, step_at, then_on, is_longest}
use Rattle.fancy_meaning.specs.Enumerates.{IsBranchLimit, outcome_after, Leads, PartBounds, Enumerates, no_more, next_way}

-- a jump to itself, and the end
abbrev round : Prog
round = record {
  body = Jmp 0 ∷ End ∷ [];
  max_size = 0;
  total_groups = 0;
  slots = 2;
  explicit_group_0 = false;
  find_not_empty = false;
  leftmost_longest = false;
  keeps_start = false;
  end_text = false;
  unicode = true;
}

module _ (text : List ℕ) (o : RunOptions) where
  abbrev task : Task
  task = record { program = round; text = text; options = o }

  -- only the step limit ends it
  abbrev Endless : Next → Type 0
  Endless next = (n : ℕ) → outcome_after task n next ≡ StepLimitExceeded

  jump_is_endless : (c : Config) → c.pc ≡ 0 → Endless (Goes c)
  jump_is_endless c at zero = refl
  jump_is_endless c at (suc n) =
      ap (λ pc. then_on task (exec task n) (step_at task (slice_get (round).body pc) c)) at ∙ jump_is_endless _ refl n

  -- what is next at the end, where that test fails or holds
  abbrev held : Config → Config
  held c = record c { longest = Some (longer c.longest (numbers_of task c)) }

  abbrev at_the_end : Config → (is_empty longest is_last : Bool) → Next
  at_the_end c v u w =
      if v then fail task c
      else (if u then (if w then Ends (Match (longer c.longest (numbers_of task c))) else fail task (held c))
      else Ends (Match (numbers_of task c)))

  -- an answer is no limit
  answered : (longest : Option (List ℕ)) → outcome_of longest ≡ StepLimitExceeded → ⊥
  answered None e = cc
  answered (Some numbers) e = cc

  -- what it leads to is endless
  leads_on : {from to : Next} → Leads task from to → Endless from → Endless to
  leads_on {from} {to} leads endless n =
      ⊎_elim {C = outcome_after task n to ≡ StepLimitExceeded} (λ l. absurd (subst IsBranchLimit (endless _) l))
      (λ e. sym e ∙ endless _) (leads.by n)

  -- the jump enumerates no empty list
  jump_enumerates_no_empty_list : (c d : Config) → c.pc ≡ 0 → ¬ Leads task (Goes c) (fail_to task [] d)
  jump_enumerates_no_empty_list c d at leads = answered d.longest (leads_on leads (jump_is_endless c at) 0)

  -- nor any other that is left at the end
  module _ (part : PartBounds) (over_nothing : (part.entry).branches ≡ []) (to_end : part.exit ≡ 1) where
    endless_enumerates_nothing : {longest : Option (List ℕ)} {from : Next} {ss : List MatchState} →
        Enumerates task part longest from ss → Endless from → ⊥
    endless_enumerates_nothing (no_more d start same leads) endless =
        let e = leads_on leads endless 0 in
        let f : outcome_after task 0 (fail_to task [] d) ≡ StepLimitExceeded =
        subst (λ bs. outcome_after task 0 (fail_to task bs d) ≡ StepLimitExceeded) over_nothing e in
        answered d.longest f
    endless_enumerates_nothing (next_way c own same leads left next) endless =
        by_test (task.not_empty && c.ix == c.start) task.leftmost_longest (is_longest task c) at_end
        (λ e. endless_enumerates_nothing (next c refl) e) (λ e. endless_enumerates_nothing (next (held c) refl) e)
      where
        at_end : Endless (at_the_end c (task.not_empty && c.ix == c.start) task.leftmost_longest (is_longest task c))
        at_end n =
            sym (ap (λ pc. then_on task (exec task n) (step_at task (slice_get (round).body pc) c)) (left.at_exit ∙ to_end))
            ∙ leads_on leads endless (suc n)

        by_test : (v u w : Bool) → Endless (at_the_end c v u w) → ¬ Endless (fail task c) → ¬ Endless (fail task (held c)) → ⊥
        by_test true u w e on after = on e
        by_test false true true e on after = let f = e 0 in cc (f)
        by_test false true false e on after = after e
        by_test false false w e on after = let f = e 0 in cc (f)

    jump_enumerates_nothing : (part.entry).pc ≡ 0 → (ss : List MatchState) → ¬ Enumerates task part (part.entry).longest (Goes part.entry) ss
    jump_enumerates_nothing at ss enumerates = endless_enumerates_nothing enumerates (jump_is_endless part.entry at)
