use Rattle.std.proofs.Common.{◌≡◌, length, true≢false, ap, ◌∙◌, subst, sym, eq-eqb}
use Rattle.fancy_meaning.specs.Code.{one}
use Rattle.fancy_code.specs.Batches.{Collects, IsInsnOf}
use Rattle.fancy_code.proofs.Collected.{chars_of}
use Rattle.fancy_code.proofs.BatchCodes.{other_batch, literal_batch}
use Rattle.fancy_code.proofs.batches.batch_insn.Goals as goal

pub returns-then-branch : goal.returns-then-branch
returns-then-branch c =
    let is = c.args.infos.now in
    let s = c.new-chars.result.items in
    let t = c.collect_each.new.chars.items in
    let some = λ (e : length is ≡ 0). true≢false (sym (eq-eqb (length is) 0 e) ∙ sym c.is_empty.ensures ∙ c.if-is_empty.false) in
    let same = other_batch c.args.unicode is s t (subst (Collects (chars_of is) s t) c.if-branch.true c.in_ok-collect_each.ensures) some in
    subst (λ k. IsInsnOf c.args.unicode is k c.other_insn.result) same c.other_insn.ensures

pub returns : goal.returns
returns c =
    let is = c.args.infos.now in
    let s = c.new-chars.result.items in
    let t = c.collect_each.new.chars.items in
    let some = λ (e : length is ≡ 0). true≢false (sym (eq-eqb (length is) 0 e) ∙ sym c.is_empty.ensures ∙ c.if-is_empty.false) in
    let wrote = literal_batch c.args.unicode is s t (subst (Collects (chars_of is) s t) c.if-branch.false c.in_ok-collect_each.ensures)
    c.new-chars.ensures.items some in record {
      value = ap one c.in_ok-chars_insn.ensures ∙ wrote.0;
      classes = wrote.1;
      refused = tt;
    }
