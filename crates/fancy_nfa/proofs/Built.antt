-- An NFA from its states.
use Rattle.std.proofs.Common.{◌≡◌, ℕ, Some, List, [], ◌∷◌, ◌++◌, length, map, slice_get, true≢false, refl, sym, ap, ◌∙◌, subst}
use Rattle.std.specs.Prelude.{Result, Ok, Err, IsErr, IsErrAnd, IfErr}
use Rattle.fancy_expr.specs.declared.error.Error.{Error}
use Rattle.fancy_meaning.specs.Tree.{Tree, trees}
use Rattle.fancy_meaning.specs.Options.{Analysis}
use Rattle.fancy_nfa_laws.specs.FirstWays.{AreEasy}
use Rattle.fancy_nfa_laws.specs.NfaStates as plain
use Rattle.fancy_nfa_laws.specs.NfaCode.{in_sequence, laid, each_laid, states_of}
use Rattle.fancy_expr.specs.Each.{Each}
use Rattle.fancy_info.specs.declared.info.Info.{Info}
use Rattle.fancy_info.specs.Infos.{info_tree}
use Rattle.fancy_nfa.specs.declared.layout.Layout.{Layout}
use Rattle.fancy_nfa.specs.declared.nfa_state.NfaState.{NfaState}
use Rattle.fancy_nfa.specs.declared.nfa_state.NfaState.TheVariants as code
use Rattle.fancy_nfa.specs.Nfas.{AreFine}
use Rattle.fancy_nfa.specs.Layouts.{states_in}
use Rattle.fancy_nfa.specs.Neighbours.{IsEasy, trees_of}
use Rattle.fancy_nfa.specs.Views.{IsStateReadBy}
use Rattle.fancy_nfa.proofs.Branches.{AddsEach}
use Rattle.fancy_nfa.proofs.ReadStates.{read_at}

pub are_easy : (a : Analysis) (is : List Info) → Each (IsEasy a) is → AreFine (map info_tree is) → AreEasy a (map info_tree is)
are_easy a [] h fine = tt
are_easy a (i ∷ is) h (f, fine) = (h.0.easy, f, are_easy a is h.1 fine)

each_laid_list : (w : Tree) (es : List Tree) → each_laid w (trees es) ≡ map (laid w) es
each_laid_list w [] = refl
each_laid_list w (e ∷ es) = ap (λ l. laid w e ∷ l) (each_laid_list w es)

pub fault_passed : {X : Type 0} (P : Error → Type 0) (r : Result X Error) (d : Error) → IsErr r × IsErrAnd r (λ e. e ≡ d) → P d → IfErr r P
fault_passed P (Ok x) d h p = absurd (true≢false (sym h.0))
fault_passed P (Err e) d h p = subst P (sym h.1) p

-- the states of these nodes, from nothing, and the end
pub all_states : (a : Analysis) (is : List Info) (s t : Layout) → states_in s ≡ [] → AddsEach a is s t →
    (l : List plain.NfaState) → l ≡ states_in t ++ plain.Match ∷ [] → l ≡ states_of a.tree (map info_tree is)
all_states a is s t nil h l end =
    let laid_all : states_in t ≡ in_sequence (each_laid a.tree (trees_of is)) 0 =
    h.added.states ∙ ap (λ m. m ++ in_sequence (each_laid a.tree (trees_of is)) (length m)) nil in
    end ∙ ap (λ m. m ++ plain.Match ∷ []) laid_all
    ∙ ap (λ cs. in_sequence cs 0 ++ plain.Match ∷ []) (each_laid_list a.tree (map info_tree is))

pub each_more : {X : Type 0} (P : X → Type 0) (l : List X) (x : X) → Each P l → P x → Each P (l ++ x ∷ [])
each_more P [] x h g = (g, tt)
each_more P (y ∷ l) x h g = (h.0, each_more P l x h.1 g)

-- these states and the end are read by the option
module _ (a : Analysis) (is : List Info) (s t : Layout) (none : s.states.items ≡ []) (adds : AddsEach a is s t) (l : List NfaState)
    (more : l ≡ t.states.items ++ code.Match ∷ []) where
  pub all_read : Each (IsStateReadBy s.unicode) l
  all_read =
      let read : List NfaState → Type 0 = Each (IsStateReadBy s.unicode) in
      subst read (sym more) (each_more (IsStateReadBy s.unicode) t.states.items code.Match (adds.added.reads (subst read (sym none) tt)) tt)

  -- also as they are handed on
  pub one_read : (states : List NfaState) → states ≡ l → (i : ℕ) (p : NfaState) → slice_get states i ≡ Some p → IsStateReadBy s.unicode p
  one_read states same i p at = read_at (IsStateReadBy s.unicode) l i p all_read (ap (λ m. slice_get m i) (sym same) ∙ at)
