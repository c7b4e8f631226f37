use Rattle.std.proofs.Common.{[], ◌∷◌, refl, subst}
use Rattle.fancy_meaning.specs.CompileRefusals.{bytes_mode}
use Rattle.fancy_meaning.specs.Layout.{program_code}
use Rattle.fancy_meaning.specs.Premises.{analysis}
use Rattle.fancy_compile.specs.Compiled.{plan_with, refuses}
use Rattle.fancy_code.specs.Drafts.{draft_of, is_easy, Writes}
use Rattle.fancy_code.specs.Sites.{top}
use Rattle.fancy_compile.proofs.Finished.{scope_of_table, with_room, writing_from_start}
use Rattle.fancy_compile.proofs.Roots.{root_known}
use Rattle.fancy_compile.proofs.compile.compile.Goals as goal

pub returns-then-not-is_unicode : goal.returns-then-not-is_unicode
returns-then-not-is_unicode c = λ a m. refuses (bytes_mode (c.is_unicode.ensures.no c.if-not-is_unicode.true))

pub of-requires : goal.of-requires
of-requires c = (analysis c.requires.0, root_known c.requires.0 c.args.info.now c.requires.1.root)

pub total_groups-requires : goal.total_groups-requires
total_groups-requires c = (c.requires.0, c.requires.1.root)

pub first_fresh-fresh-requires : goal.first_fresh-fresh-requires
first_fresh-fresh-requires c = c.total_groups.ensures.small

pub new-writer-requires : goal.new-writer-requires
new-writer-requires c = c.first_fresh-fresh.ensures.small

pub emit_program-requires : goal.emit_program-requires
emit_program-requires c =
    let a = c.requires.0 in
    let r = c.requires.1.root in
    record {
      whole = (
        analysis a,
        scope_of_table a _ r c.explicit_capture_group_0-explicit_group_0.result c.explicit_capture_group_0-explicit_group_0.ensures _
            c.first_number.ensures c.in_ok-groups.ensures,
      );
      begins = refl;
    }

pub finish-requires : goal.finish-requires
finish-requires c =
    let a = c.requires.0 in
    let m = c.requires.1 in
    let p = plan_with a c.args.options in
    let r = m.root in (
      a,
      m,
      c.is_unicode.ensures.yes c.if-not-is_unicode.false,
      writing_from_start a c.args.info.now c.args.options m c.explicit_capture_group_0-explicit_group_0.result c.total_groups.result
          c.explicit_capture_group_0-explicit_group_0.ensures (c.total_groups.ensures.value a r)
          c.first_fresh-fresh.result (draft_of c.emit_program.new.writer) c.first_fresh-fresh.ensures.value
          (subst (λ d. Writes (top p c.args.options.max_nesting) (program_code p (is_easy p.analysis)) (p.analysis.tree ∷ []) d
          (draft_of c.emit_program.new.writer)) (with_room c.reserve.new.self.items c.new-writer.result _ c.reserve.ensures.items c.new-writer.ensures)
          (c.emit_program.ensures p refl refl refl
          (scope_of_table a _ r c.explicit_capture_group_0-explicit_group_0.result c.explicit_capture_group_0-explicit_group_0.ensures _
          c.first_number.ensures c.in_ok-groups.ensures))),
    )

pub returns : goal.returns
returns c = λ a m.
    let p = plan_with a c.args.options in
    let r = m.root in
    c.finish.ensures a m (c.is_unicode.ensures.yes c.if-not-is_unicode.false)
    (writing_from_start a c.args.info.now c.args.options m c.explicit_capture_group_0-explicit_group_0.result c.total_groups.result
    c.explicit_capture_group_0-explicit_group_0.ensures (c.total_groups.ensures.value a r)
    c.first_fresh-fresh.result (draft_of c.emit_program.new.writer) c.first_fresh-fresh.ensures.value
    (subst (λ d. Writes (top p c.args.options.max_nesting) (program_code p (is_easy p.analysis)) (p.analysis.tree ∷ []) d
    (draft_of c.emit_program.new.writer)) (with_room c.reserve.new.self.items c.new-writer.result _ c.reserve.ensures.items c.new-writer.ensures)
    (c.emit_program.ensures p refl refl refl
    (scope_of_table a _ r c.explicit_capture_group_0-explicit_group_0.result c.explicit_capture_group_0-explicit_group_0.ensures _
    c.first_number.ensures c.in_ok-groups.ensures))))
