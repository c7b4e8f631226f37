-- What an engine finds is the answer of a search.
use Rattle.std.proofs.Common.{◌≡◌, ℕ, List, ◌∷◌, length, Some, None, option_map, sym, ap, ap₂, ◌∙◌}
use Rattle.regex_hir.specs.Find.{find_str}
use Rattle.regex_vm.specs.Found.{group_cells, span}
use Rattle.regex_meta.proofs.ProgramLemmas.{none_of_option_map, value_of_option_map}
use Rattle.fancy_meaning.specs.Answer.{Search, answer}
use Rattle.fancy_meaning.specs.Nodes.{group_count}
use Rattle.fancy_meaning.specs.Tree.{Tree}
use Rattle.fancy_laws.proofs.Numbering.{numbered_has_as_many_groups}
use Rattle.fancy_agreement.specs.Captures.{numbers_of}
use Rattle.fancy_agreement.proofs.SearchLaw.{match_is_answer}
use Rattle.fancy_hybrid.specs.Cells.{cell_numbers}
use Rattle.fancy_hybrid.specs.Engines.{AreCellsOf}
use Rattle.fancy_hybrid.specs.Patterns.{IsEngineOf, IsSearchFor}
use Rattle.fancy_hybrid.specs.declared.engine.Engine.{Engine}
use Rattle.fancy_hybrid.proofs.CellLaws.{numbers_of_cells}

module _ (e : Tree) (text : List ℕ) (pos : ℕ) (q : Search) (engine : Engine) (is : IsSearchFor e text pos q)
    (of : IsEngineOf q.unicode e engine) where
  pub answered : answer q ≡ option_map (numbers_of (group_count e)) (find_str of.re text pos)
  answered =
      match_is_answer q e of.re is.plain is.tree of.captures
      ∙ ap (λ n. option_map (numbers_of n) (find_str of.re q.text q.pos)) (ap group_count is.tree ∙ numbered_has_as_many_groups 1 e)
      ∙ ap₂ (λ t i. option_map (numbers_of (group_count e)) (find_str of.re t i)) is.in_text is.from

  pub none_answered : None ≡ option_map span (find_str of.re text pos) → answer q ≡ None
  none_answered none = answered ∙ ap (option_map (numbers_of (group_count e))) (none_of_option_map span _ (sym none))

  pub match_answered : (from end : ℕ) (cells : List ℕ) → Some (from, end) ≡ option_map span (find_str of.re text pos) →
      AreCellsOf (length engine.cells.items) cells (find_str of.re text pos) → length cells ≡ length engine.cells.items →
      answer q ≡ Some (from ∷ end ∷ cell_numbers cells)
  match_answered from end cells found held long =
      let v = value_of_option_map span (find_str of.re text pos) (from, end) (sym found) in
      let m = v.0 in
      let are : cells ≡ group_cells m (length cells) = (rw v.1 at held) ∙ ap (group_cells m) (sym long) in
      answered ∙ ap (option_map (numbers_of (group_count e))) v.1
      ∙ ap Some (sym (numbers_of_cells m (group_count e) cells are (long ∙ of.groups))
      ∙ ap₂ (λ a b. a ∷ b ∷ cell_numbers cells) (ap (λ s. s.0) v.2) (ap (λ s. s.1) v.2))
