use Rattle.std.proofs.Common.{◌∷◌, [], false, true, not, refl, sym, ap, ◌∙◌, subst, arith}
use Rattle.fancy_meaning.specs.Instr.{Instr}
use Rattle.fancy_meaning.specs.Code.{Code, one, ◌>>◌}
use Rattle.fancy_meaning.specs.Options.{AnalysisOptions}
use Rattle.fancy_meaning.specs.OpenCalls.{no_calls, free_calls}
use Rattle.fancy_meaning.specs.Layout.{search_code, edge_code, end_text_code, called_code, is_root_easy}
use Rattle.fancy_info.specs.Infos.{info_hard}
use Rattle.fancy_code.specs.Drafts.{Writes, draft_of, code_in, is_easy}
use Rattle.fancy_compile.specs.Nodes.{IsScopeAt}
use Rattle.fancy_compile.specs.OpenDepths.{depths_of}
use Rattle.fancy_code.specs.Sites.{Site, top}
use Rattle.fancy_compile.proofs.CallLaws.{root_by}
use Rattle.fancy_code.proofs.Writing.{wrote_then}
use Rattle.fancy_compile.proofs.scope.Scope.emit_program.Goals as goal

pub emit-requires : goal.emit-requires
emit-requires c = record {
  analysis = c.requires.whole.0;
  of_tree = c.requires.whole.1;
  known = (c.requires.whole.1).root;
  small = omega arith;
  fine = (c.requires.whole.1).fine;
}

pub returns : goal.returns
returns c = λ p unicode anchored end_text of_tree.
    let q : Site = top p c.args.self.now.room in
    let whole = p.analysis.tree in
    let call = called_code p (is_easy p.analysis) (free_calls whole no_calls) no_calls in
    let root : Code = code_in q call (is_root_easy p (is_easy p.analysis)) whole true false in
    let last : Code = one Instr.End in
    let from_end : Code = end_text_code p >> last in
    let from_edge : Code = edge_code p 1 >> from_end in
    let from_root : Code = root >> from_edge in
    let explicit = ap (λ (o : AnalysisOptions). o.explicit_capture_group_0) (sym ((of_tree.root).node).options)
    ∙ sym c.explicit_capture_group_0-explicit.ensures in
    let u : IsScopeAt q call c.args.self.now = record {
      unicode = unicode;
      of_tree = of_tree;
      depths = ap depths_of (sym c.requires.begins);
      room = refl;
      budget = free_calls whole no_calls;
      enough = omega arith;
      calls = refl;
    } in
    let hard = info_hard (c.args.self.now).root.now in
    let before = draft_of c.emit_edge.new.writer in
    let behind = draft_of c.emit.new.writer in
    let wrote = subst (λ b. Writes q (code_in q call b whole true false) (whole ∷ []) before behind) (root_by p hard of_tree.hard)
    (subst (λ e. Writes q (code_in q call (not hard) e true false) (e ∷ []) before behind) of_tree.tree (c.emit.ensures q call u of_tree.root)) in
    wrote_then q (search_code p) (edge_code p 0 >> from_root) [] (whole ∷ []) _ _ _ (c.emit_search.ensures q anchored)
    (wrote_then q (edge_code p 0) from_root [] (whole ∷ []) _ _ _ (c.emit_edge.ensures q explicit)
    (wrote_then q root from_edge (whole ∷ []) [] _ _ _ wrote
    (wrote_then q (edge_code p 1) from_end [] [] _ _ _ (c.emit_edge-2.ensures q explicit)
    (wrote_then q (end_text_code p) last [] [] _ _ _ (c.emit_end_text.ensures q end_text) (c.push.ensures.writes q)))))
