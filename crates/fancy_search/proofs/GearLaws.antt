-- An engine finds the answer of a search for the tree that it was made of.
use Rattle.std.proofs.Common.{◌≡◌, Box, map, slice_get, ℕ, ◌*◌, ◌-◌, Bool, true, false, List, [], ◌∷◌, length, IfOk, IfSome, Option, Some, None, Result, Ok, Err, if◌then◌else◌, is_some, option_map, refl, sym, ap, ◌∙◌, subst, arith}
use Rattle.std.proofs.Math.Logic.{∥∥₁_elim}
use Rattle.std.proofs.Props.{props}
use Rattle.std.specs.declared.alloc.AllocError.{AllocError}
use Rattle.std.specs.declared.alloc.Global.{Global}
use Rattle.std.specs.declared.vec.Vec.{Vec}
use Rattle.std.specs.Prelude.{IsUtf8}
use Rattle.regex_compile.specs.Implements.{Implements}
use Rattle.regex_dfa.specs.declared.dfa.Dfa.{Dfa}
use Rattle.regex_hir.specs.Find.{Match, find_str}
use Rattle.regex_hir.specs.Meaning.{meaning}
use Rattle.regex_vm.specs.Found.{span}
use Rattle.fancy_meaning.specs.Answer.{answer, search_of}
use Rattle.fancy_meaning.specs.Fits.{run_fits}
use Rattle.fancy_meaning.specs.Nodes.{group_count}
use Rattle.fancy_meaning.specs.Numbering.{numbered}
use Rattle.fancy_meaning.specs.Options as plain
use Rattle.fancy_meaning.specs.Premises.{Input, plan}
use Rattle.fancy_meaning.specs.Tree.{Tree}
use Rattle.fancy_agreement.specs.Captures.{numbers_of}
use Rattle.fancy_expr.specs.Views.{tree_of}
use Rattle.fancy_expr.specs.declared.error.Error.{Error}
use Rattle.fancy_expr.specs.declared.expr.Expr.{Expr}
use Rattle.fancy_hybrid.specs.Engines.{Searches}
use Rattle.fancy_hybrid.specs.Patterns.{IsEngineOf, IsSearchFor, told}
use Rattle.fancy_hybrid.specs.Translations.{IsTranslated}
use Rattle.fancy_hybrid.specs.declared.engine.Engine.{Engine}
use Rattle.fancy_hybrid.specs.declared.search.Stop.{Stop}
use Rattle.fancy_hybrid.specs.declared.translate.Translated.{Translated}
use Rattle.fancy_hybrid.proofs.Answered.{answered}
use Rattle.fancy_program.specs.Programs.{prog_of}
use Rattle.fancy_program.specs.declared.insn.Prog.{Prog}
use Rattle.fancy_steps.specs.Outcomes.{answer_in, first_pair}
use Rattle.fancy_steps.specs.SearchLimits.{StaysWithin}
use Rattle.fancy_steps.specs.Tasks.{options_of, task_of}
use Rattle.fancy_steps.specs.declared.search_limits.SearchLimit.{SearchLimit}
use Rattle.fancy_steps.specs.declared.options.RunOptions.{RunOptions}
use Rattle.fancy_vm.specs.Means.{IsMeaning, IsMeaningPair, numbers_of as numbers_in}
use Rattle.fancy_search.specs.Copies.{trees_in}
use Rattle.fancy_search.specs.Scratches.{IsGearOf}
use Rattle.fancy_search.specs.Searches.{IsCompiledFrom, IsCopied, program}
use Rattle.fancy_search.specs.declared.common.Common.{Common}
use Rattle.fancy_search.specs.declared.search.Compiled.{Compiled}
use Rattle.fancy_search.proofs.Searched.{accepted}

-- an engine that was made of the tree's pattern
pub engine_of : (u : Bool) (e : Tree) (t : Translated) → IsTranslated u 1 e t → (engine : Engine) → Searches (meaning t.hir) engine →
    length engine.cells.items ≡ 2 * (t.next - 1) → IsEngineOf u e engine
engine_of u e t translated engine searches cells = record {
  re = meaning t.hir;
  captures = translated.captures;
  searches = searches;
  groups =
      let next = translated.next in
      omega (arith, cells, next);
}

-- of options that ask for no more than the first match at any start
pub record ArePlain (o : plain.RunOptions) : Type 0 where
  pub any_start : o.anchored ≡ false
  pub empty_too : o.not_empty ≡ false
  pub first_way : o.leftmost_longest ≡ false

module _ (i : Input) (c : Common) (copied : IsCopied i c) where
  pub engine_copied : (engine : Engine) → IsEngineOf c.unicode (i.parsed).tree engine → IsEngineOf (i.options).unicode (i.parsed).tree engine
  engine_copied engine of = subst (λ u. IsEngineOf u (i.parsed).tree engine) copied.unicode of

  pub search_for : (text : List ℕ) (o : plain.RunOptions) → ArePlain o → IsSearchFor (i.parsed).tree text o.pos (search_of (plan i) text o)
  search_for text o plain = record {
    plain = record {
      any_start = rw (copied.any_start, plain.any_start) refl;
      empty_too = plain.empty_too;
      any_end = copied.any_end;
      first_way = plain.first_way;
    };
    tree = ap (λ (b : Bool). numbered (if b then 0 else 1) (i.parsed).tree) copied.implicit;
    in_text = refl;
    from = refl;
  }

  -- what an engine found is the first pair of the answer
  pub pair_answered : (text : List ℕ) (o : plain.RunOptions) → ArePlain o → (engine : Engine)
      (of : IsEngineOf (i.options).unicode (i.parsed).tree engine) (found : Option (ℕ × ℕ)) →
      found ≡ option_map span (find_str of.re text o.pos) → found ≡ option_map first_pair (answer (search_of (plan i) text o))
  pair_answered text o plain engine of found is =
      is ∙ sym (pairs_of (group_count (i.parsed).tree) (find_str of.re text o.pos))
      ∙ ap (option_map first_pair) (sym (answered (i.parsed).tree text o.pos (search_of (plan i) text o) engine (search_for text o plain) of))
    where
      pairs_of : (n : ℕ) (o : Option Match) → option_map first_pair (option_map (numbers_of n) o) ≡ option_map span o
      pairs_of n None = refl
      pairs_of n (Some m) = refl

pub engines_of : (u : Bool) (e : Tree) (t : Translated) → IsTranslated u 1 e t → (made : Option Engine) →
    IfSome made (λ engine. Searches (meaning t.hir) engine × (length engine.cells.items ≡ 2 * (t.next - 1))) →
    (boxed : Result (Option (Box Engine Global)) AllocError) → IfOk boxed (λ o. option_map (λ b. b.value) o ≡ made) →
    IfOk boxed (λ o. IfSome o (λ b. IsEngineOf u e b.value))
engines_of u e t translated made h (Ok None) is = tt
engines_of u e t translated made h (Ok (Some b)) is =
    let found = subst (λ o. IfSome o (λ engine. Searches (meaning t.hir) engine × (length engine.cells.items ≡ 2 * (t.next - 1)))) (sym is) h in
    engine_of u e t translated b.value found.0 found.1
engines_of u e t translated made h (Err error) is = tt

pub first_tree : (exprs : List Expr) (e : Expr) (tree : Tree) → slice_get exprs 0 ≡ Some e → map tree_of exprs ≡ tree ∷ [] → tree_of e ≡ tree
first_tree [] e tree there is = cc
first_tree (x ∷ xs) e tree there is = cc

-- ---- engines of what was compiled

pub engine_kept : (u : Bool) (e : Tree) (old new : Engine) → new.dfa ≡ old.dfa → new.cells ≡ old.cells → IsEngineOf u e old → IsEngineOf u e new
engine_kept u e old new dfa cells of = record {
  re = of.re;
  captures = of.captures;
  searches = subst (λ (d : Dfa). Implements d.nfa of.re) (sym dfa) of.searches;
  groups = ap (λ (v : Vec ℕ Global). length v.items) cells ∙ of.groups;
}

pub gear_kept : (compiled : Compiled) (old new : Engine) → ((u : Bool) (e : Tree) → IsEngineOf u e old → IsEngineOf u e new) →
    IsGearOf compiled old → IsGearOf compiled new
gear_kept compiled old new keeps is i from = ∥∥₁_elim (is i from) (Prim.hlevel props) (λ of. ∣ keeps (i.options).unicode (i.parsed).tree of ∣₁)

copied_in : (i : Input) (compiled : Compiled) (c : Common) → IsCompiledFrom i compiled → compiled.common ≡ Some c → IsCopied i c
copied_in i compiled c from is = subst (λ o. IfSome o (IsCopied i)) is from.common

pub gear_made : (compiled : Compiled) (c : Common) → compiled.common ≡ Some c → (made : Option (Box Engine Global)) →
    ((tree : Tree) → trees_in c ≡ tree ∷ [] → IfSome made (λ engine. IsEngineOf c.unicode tree engine.value)) →
    IfSome made (λ engine. IsGearOf compiled engine.value)
gear_made compiled c is None h = tt
gear_made compiled c is (Some engine) h = λ i from.
    let copied = copied_in i compiled c from is in
    ∣ engine_copied i c copied engine.value (h (i.parsed).tree copied.tree) ∣₁

-- what an engine tells is the answer
common_there : (o : Option Common) → is_some o ≡ true → (c : Common) × (o ≡ Some c)
common_there None e = cc
common_there (Some c) e = (c, refl)

module _ (compiled : Compiled) (some : is_some compiled.common ≡ true) (engine : Engine) (gear : IsGearOf compiled engine)
    (text : List ℕ) (o : plain.RunOptions) (plain : ArePlain o) (i : Input) (from : IsCompiledFrom i compiled) where
  there : IsCopied i (common_there compiled.common some).0
  there = copied_in i compiled (common_there compiled.common some).0 from (common_there compiled.common some).1

  pub gear_answers : (numbers : List ℕ) (r : Result Bool Stop) →
      (IsSearchFor (i.parsed).tree text o.pos (search_of (plan i) text o) → IsEngineOf (i.options).unicode (i.parsed).tree engine →
      IfOk r (λ found. answer (search_of (plan i) text o) ≡ told found numbers)) →
      IfOk r (λ found. answer (search_of (plan i) text o) ≡ told found numbers)
  gear_answers numbers (Ok found) h =
      ∥∥₁_elim (gear i from) (Prim.hlevel props) (λ of. h (search_for i (common_there compiled.common some).0 there text o plain) of)
  gear_answers numbers (Err stop) h = tt

  pub gear_finds : (found : Option (ℕ × ℕ)) →
      ((of : IsEngineOf (i.options).unicode (i.parsed).tree engine) → found ≡ option_map span (find_str of.re text o.pos)) →
      found ≡ option_map first_pair (answer (search_of (plan i) text o))
  gear_finds found h =
      ∥∥₁_elim (gear i from) (Prim.hlevel props)
      (λ of. pair_answered i (common_there compiled.common some).0 there text o plain engine of found (h of))

-- ---- runs of few starts, and texts that lack what each match takes

module _ (o few : RunOptions) (same : options_of few ≡ record (options_of o) { backtrack_limit = few.backtrack_limit }) where
  pub few_fits : (prog : Prog) (text : List ℕ) → run_fits (task_of prog text o) ≡ true → run_fits (task_of prog text few) ≡ true
  unfolding run_fits
  few_fits prog text fits =
      subst (λ x. run_fits (record { program = prog_of prog; text = text; options = x }) ≡ true) (sym same) fits

  module _ (compiled : Compiled) (text : List ℕ) (fits : run_fits (task_of (program compiled) text o) ≡ true) (i : Input)
      (from : IsCompiledFrom i compiled) where
    same_answer : answer (search_of (plan i) text (options_of few)) ≡ answer (search_of (plan i) text (options_of o))
    same_answer = ap (λ x. answer (search_of (plan i) text x)) same

    pub few_answer : (found : Bool) (numbers : Vec ℕ Global) →
        IfOk (answer_in (Ok found) numbers) (λ x. IsMeaning (prog_of (program compiled)) text (options_of few) (numbers_in x)) →
        answer (search_of (plan i) text (options_of o)) ≡ told found numbers.items
    few_answer true numbers means = sym (means.answers i (accepted i compiled text o from fits) from.program ∙ same_answer)
    few_answer false numbers means = sym (means.answers i (accepted i compiled text o from fits) from.program ∙ same_answer)

    pub few_finds : (found : Option (ℕ × ℕ)) → IsMeaningPair (prog_of (program compiled)) text (options_of few) found →
        found ≡ option_map first_pair (answer (search_of (plan i) text (options_of o)))
    few_finds found means = means.answers i (accepted i compiled text o from fits) from.program ∙ ap (option_map first_pair) same_answer

pub if_ok : (r : Result Bool Stop) (P : Type 0) → P → IfOk r (λ _. P)
if_ok (Ok found) P h = h
if_ok (Err stop) P h = tt

-- a search that passed no limit stays within whatever limits are set afterwards
pub stays_after : {A : Type 0} (r : Result A Error) (passed after : Option SearchLimit) → StaysWithin r passed → passed ≡ None →
    after ≡ None → StaysWithin r after
stays_after r passed after stays none cleared = subst (StaysWithin r) (none ∙ sym cleared) stays
