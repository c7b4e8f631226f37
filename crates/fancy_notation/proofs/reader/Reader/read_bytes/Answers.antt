use Rattle.std.proofs.Common.{◌≡◌, true, false, arith, sym, subst}
use Rattle.std.proofs.lemmas.Result.{err_from_is_err_and}
use Rattle.fancy_notation.specs.Grammar.{bytes}
use Rattle.fancy_notation.proofs.Lengths.{taken_shorter}
use Rattle.fancy_notation.proofs.Loops.{BytesRead, bytes_next, bytes_done, bytes_fail, no_close, close_there}
use Rattle.fancy_notation.proofs.reader.Reader.read_bytes.Goals as goal

pub loop-bytes-preserved : goal.loop-bytes-preserved
loop-bytes-preserved c =
    subst (BytesRead c.args.self.now c.read_byte.new.self) (sym c.in_ok-push.ensures.items)
    (bytes_next _ _ _ _ _ c.loop-bytes.invariant c.in_ok-read_byte.ensures)

pub loop-bytes-smaller : goal.loop-bytes-smaller
loop-bytes-smaller c = let h = taken_shorter c.loop-bytes.self c.read_byte.new.self c.in_ok-read_byte.ensures.0 in omega (arith, h)

pub returns : goal.returns
returns c =
    let t = bytes_done c.args.self.now c.loop-bytes.self c.read_close.new.self c.loop-bytes.bytes.items c.loop-bytes.invariant c.in_ok-read_close.ensures in
    (bytes t.0, t.1, (tt, tt))

pub returns-in_err-read_byte : goal.returns-in_err-read_byte
returns-in_err-read_byte c =
    let p = err_from_is_err_and c.from_residual.result c.from_residual.ensures.1 in
    let f : c.is_at_close.result ≡ false = cc in
    rw (p.1, p.2) (bytes_fail c.args.self.now c.loop-bytes.self c.loop-bytes.bytes.items _ c.loop-bytes.invariant
    (no_close _ _ c.is_at_close.ensures f) c.in_err-read_byte.ensures)

pub returns-in_err-read_close : goal.returns-in_err-read_close
returns-in_err-read_close c =
    let t : c.is_at_close.result ≡ true = cc in
    close_there _ _ c.is_at_close.ensures t c.in_err-read_close.ensures.1
