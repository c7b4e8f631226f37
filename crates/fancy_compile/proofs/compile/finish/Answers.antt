use Rattle.std.proofs.Common.{◌≤◌, length, ap, ◌∙◌, arith}
use Rattle.std.specs.Option.{ForSome}
use Rattle.std.proofs.lemmas.List.{length-map}
use Rattle.fancy_program.specs.Insns.{insn_of}
use Rattle.fancy_meaning.specs.Fits.{program_fits}
use Rattle.fancy_compile.specs.Compiled.{plan_with}
use Rattle.fancy_code.specs.Drafts.{draft_of}
use Rattle.fancy_compile.proofs.Compiled.{error_may_answer, written, none_refused, body_is, whole_code}
use Rattle.fancy_compile.proofs.Finished.{finish_compiles, fits}
use Rattle.fancy_compile.proofs.References.{all_in_range}
use Rattle.fancy_meaning.specs.Premises.{analysis}
use Rattle.fancy_compile.proofs.Roots.{few_groups, root_known}
use Rattle.fancy_compile.proofs.compile.finish.Goals as goal

pub total_groups-requires : goal.total_groups-requires
total_groups-requires c = (c.requires.0, (c.requires.1).root)

pub has_kind-requires : goal.has_kind-requires
has_kind-requires c = (analysis c.requires.0, root_known c.requires.0 c.args.info.now (c.requires.1).root)

pub returns-in-Some : goal.returns-in-Some
returns-in-Some c = λ a m mode h.
    error_may_answer (plan_with a c.args.options) c.args.options.max_nesting (all_in_range a (few_groups a c.args.info.now m.root) m.accepted)
    (draft_of c.args.writer) c.in-Some.error h c.in-Some.is

pub new-requires : goal.new-requires
new-requires c =
    let a = c.requires.0 in
    let m = c.requires.1 in
    let p = plan_with a c.args.options in
    let w = written p c.args.options.max_nesting (draft_of c.args.writer) c.requires.3 c.in-None.is in
    let same = finish_compiles a c.args.info.now c.args.options m c.explicit_capture_group_0.result c.total_groups.result c.explicit_capture_group_0.ensures
    (c.total_groups.ensures.value a m.root)
    c.find_not_empty.result c.leftmost_longest.result c.has_kind.result c.find_not_empty.ensures c.leftmost_longest.ensures c.has_kind.ensures
    c.max_size.result c.max.result (draft_of c.args.writer) c.max_size.ensures w.0
    (omega (arith, c.max.ensures)) in
    ap program_fits same ∙ fits a c.args.options m.accepted

pub returns : goal.returns
returns c = λ a m mode h.
    let p = plan_with a c.args.options in
    let t = draft_of c.args.writer in
    let w = written p c.args.options.max_nesting t h c.in-None.is in
    let same = finish_compiles a c.args.info.now c.args.options m c.explicit_capture_group_0.result c.total_groups.result c.explicit_capture_group_0.ensures
    (c.total_groups.ensures.value a m.root)
    c.find_not_empty.result c.leftmost_longest.result c.has_kind.result c.find_not_empty.ensures c.leftmost_longest.ensures c.has_kind.ensures
    c.max_size.result c.max.result t c.max_size.ensures w.0 (omega (arith, c.max.ensures)) in
    let small : ForSome p.max_prog_size (λ n. length (whole_code p).instrs ≤ n) =
    λ most is. omega (arith, c.args.writer.within most (h.limit ∙ is), length-map c.args.writer.code.items insn_of, ap length (w.0).instrs) in
    record {
      layout = c.new.ensures.prog ∙ same;
      within = w.1.1;
      small = λ most is. omega (arith, small most is, ap length (body_is p));
      not_refused = none_refused p c.args.options.max_nesting w.1.0 small mode;
    }
