use Rattle.std.proofs.Common.{◌<◌, length, Some, sym, ap, ap₂, ◌∙◌, arith}
use Rattle.fancy_scanner.specs.Scans.{answers_of, holds_for}
use Rattle.fancy_scanner.proofs.Reading.{get_read}
use Rattle.fancy_scanner.proofs.scan_text.TreeScan.holds.Goals as goal

pub returns-in-None : goal.returns-in-None
returns-in-None c =
    let answers = answers_of c.args.self.now in
    let room = c.requires.room in
    let within = c.requires.within in
    let there : c.args.index < length answers = omega (arith, room, within) in
    ap₂ (λ l a. holds_for l a c.args.pos) c.reuse-reuse.ensures
    (sym (get_read answers c.args.index c.index.result.now there c.index.ensures ∙ ap Some c.in-None.is))

pub returns-in-Some : goal.returns-in-Some
returns-in-Some c =
    let answers = answers_of c.args.self.now in
    let room = c.requires.room in
    let within = c.requires.within in
    let there : c.args.index < length answers = omega (arith, room, within) in
    c.holds_at.ensures
    ∙ ap₂ (λ l a. holds_for l a c.args.pos) c.reuse-reuse.ensures
    (sym (get_read answers c.args.index c.index.result.now there c.index.ensures ∙ ap Some c.in-Some.is))
