use Rattle.std.proofs.Common.{string_bytes, refl, sym, ◌∙◌, arith}
use Rattle.fancy_pattern.specs.Grammar.{class_text, class_close}
use Rattle.fancy_tokens.specs.PatternViews.{piece_text}
use Rattle.fancy_pattern.proofs.Points.{class_begin, class_next, class_done, takes_next, takes_at}
use Rattle.fancy_pattern.specs.Reading.{point_of}
use Rattle.fancy_pattern.proofs.WhereStuck.{class_fails}
use Rattle.fancy_pattern.proofs.reader.Reader.read_class.Goals as goal

pub loop-piece-init : goal.loop-piece-init
loop-piece-init c =
    class_begin c.args.self.now (string_bytes c.new-text.result) (string_bytes c.push.new.self) c.new-text.ensures.bytes c.in_ok-push.ensures.bytes

pub loop-piece-preserved : goal.loop-piece-preserved
loop-piece-preserved c =
    let shorter = c.skip.ensures.shorter in
    class_next c.args.self.now c.loop-piece.self c.skip.new.self (string_bytes c.loop-piece.text) (string_bytes c.push_piece.new.out)
    (piece_text c.in-Some.piece) c.loop-piece.invariant
    (takes_next class_text (piece_text c.in-Some.piece) c.loop-piece.self c.skip.new.self (sym c.in-Some.ensures.value) c.skip.ensures.skips)
    c.in_ok-push_piece.ensures (omega (arith, shorter))

pub returns-clause-pushes : goal.returns-clause-pushes
returns-clause-pushes c =
    let read =
    class_done c.args.self.now c.loop-piece.self c.skip-2.new.self (string_bytes c.loop-piece.text) (string_bytes c.push-2.new.self) c.args.casei
    c.loop-piece.invariant
    (takes_at class_close c.loop-piece.self c.skip-2.new.self (sym c.if-not-is_at_class_close.ensures.value) c.skip-2.ensures.skips)
    c.in_ok-push-2.ensures.bytes in
    record {
      read = _;
      adds = record { node = _; added = c.in_ok-push-3.ensures.items; made = refl; one_char = (tt, tt) };
      spelled = read;
    }

pub returns-then-not-is_at_class_close-clause-fails : goal.returns-then-not-is_at_class_close-clause-fails
returns-then-not-is_at_class_close-clause-fails c = λ names.
    class_fails (point_of c.args.self.now) (point_of c.loop-piece.self) c.loop-piece.invariant.texts names c.misfit.result c.loop-piece.invariant.row
    (sym c.in_default.ensures.value) (sym c.is_at_class_close.ensures.value ∙ c.if-not-is_at_class_close.true) c.misfit.ensures
