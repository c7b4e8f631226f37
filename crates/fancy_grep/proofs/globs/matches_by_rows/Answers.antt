use Rattle.std.proofs.Common.{◌≡◌, ◌-◌, false, [], ◌∷◌, suc, length, drop, sym, ap, ◌∙◌, subst, arith, drop_of_length-le}
use Rattle.std.proofs.lemmas.List.{get_or_default, length-append}
use Rattle.fancy_grep.specs.Globs.{IsRow, matches, token_of, tokens_of}
use Rattle.fancy_grep.proofs.GlobLaws.{AreOff, end_row, off_more, off_none, one_token_more, split_at, written_all}
use Rattle.fancy_grep.proofs.globs.matches_by_rows.Goals as goal

pub loop-c-init : goal.loop-c-init
loop-c-init c = record {
  long = omega (arith, ap length c.new-row.ensures.items);
  off = subst AreOff (sym c.new-row.ensures.items) off_none;
}

pub loop-c-preserved : goal.loop-c-preserved
loop-c-preserved c = record {
  long = omega (arith, simp length-append at (ap length c.in_ok-push.ensures.items), c.loop-c.invariant.long);
  off = subst AreOff (sym c.in_ok-push.ensures.items) (off_more c.loop-c.row.items c.loop-c.invariant.off);
}

pub loop-left-init : goal.loop-left-init
loop-left-init c =
    let name = c.args.name.now in
    let items = c.push-2.new.self.items in
    let long : length c.loop-c.row.items ≡ length name = omega (arith, c.loop-c.invariant.long) in
    let base : IsRow (matches []) name items =
    subst (λ r. IsRow (matches []) name r) (sym c.in_ok-push-2.ensures.items) (end_row name c.loop-c.row.items long c.loop-c.invariant.off) in record {
      within = omega arith;
      long = omega (arith, simp length-append at (ap length c.in_ok-push-2.ensures.items), long);
      row = subst (λ ts. IsRow (matches ts) name items) (sym (ap tokens_of (drop_of_length-le c.args.tokens.now (omega arith)))) base;
    }

pub loop-left-preserved : goal.loop-left-preserved
loop-left-preserved c =
    let inv = c.loop-left.invariant in
    let name = c.args.name.now in
    let tokens = c.args.tokens.now in
    let at = c.loop-left.left - 1 in
    let next : suc at ≡ c.loop-left.left = omega arith in
    let t = token_of c.index-tokens-left.result in
    let left = tokens_of (drop c.loop-left.left tokens) in
    let new = c.add_before.new.row in
    let same : length new ≡ length c.loop-left.row.items = omega (arith, c.add_before.ensures.length, ap length c.deref_mut.ensures.value) in
    let written = written_all new c.loop-left.row.items c.loop-left.row.len (omega arith) same in
    let given : IsRow (matches left) name c.deref_mut.result.now = subst (λ r. IsRow (matches left) name r) (sym c.deref_mut.ensures.value) inv.row in
    let more = one_token_more t left name new (c.add_before.ensures.row (matches left) given) in
    let split : tokens_of (drop at tokens) ≡ t ∷ left =
    ap tokens_of (split_at tokens at c.index-tokens-left.result (omega (arith, inv.within)) c.index-tokens-left.is) ∙ ap (λ n. t ∷ tokens_of (drop n tokens)) next in record {
      within = omega (arith, inv.within);
      long = ap length written ∙ same ∙ inv.long;
      row = subst (λ r. IsRow (matches (tokens_of (drop at tokens))) name r) (sym written) (subst (λ ts. IsRow (matches ts) name new) (sym split) more);
    }

pub returns : goal.returns
returns c =
    let inv = c.loop-left.invariant in
    let tokens = c.args.tokens.now in
    let none : c.loop-left.left ≡ 0 = omega arith in
    c.index.ensures ∙ get_or_default c.loop-left.row.items 0 c.index.result.now false (omega (arith, inv.long)) ∙ inv.row.flag 0 (omega arith)
    ∙ ap (λ n. matches (tokens_of (drop n tokens)) c.args.name.now) none
