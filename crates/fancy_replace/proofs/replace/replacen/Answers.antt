use Rattle.std.proofs.Common.{◌≡◌, ◌<◌, ◌++◌, ℕ, List, [], Bool, true, false, not, Result, Ok, Err, length, string_bytes, refl, sym, ap, ◌∙◌, subst, arith}
use Rattle.std.proofs.lemmas.Result.{err_from_is_err_and}
use Rattle.fancy_meaning.specs.Numbers.{usize_max}
use Rattle.fancy_meaning.specs.Options as plain
use Rattle.fancy_meaning.specs.Premises.{Input, IsText}
use Rattle.fancy_expr.specs.declared.error.Error.{Error}
use Rattle.fancy_matches.specs.Matchers.{IsRegexOf}
use Rattle.fancy_replace.specs.Pieces.{as_limit, rewrite}
use Rattle.fancy_replace.specs.Replacements.{IsReplacedInto, KeepsBefore, to_replace}
use Rattle.fancy_replace.proofs.Replacing.{before, itself, rewrite-none}
use Rattle.fancy_replace.proofs.replace.replacen.Goals as goal

pub returns-in_err-is_replaced : goal.returns-in_err-is_replaced
returns-in_err-is_replaced g c =
    let write = g.R.Replacer.replacement_text c.args.replacement.now in
    let h = subst (λ (r : Result Bool Error). IsReplacedInto (λ s room text. string_bytes s ≡ text) c.args.matcher.now c.args.text.now
    (as_limit c.args.limit) write c.new-out.result r c.replace_into.new.matcher c.replace_into.new.out) c.in_err-is_replaced.was
    c.replace_into.ensures in
    let p = err_from_is_err_and c.from_residual.result c.from_residual.ensures.1 in
    rw (p.1, p.2) (record {
      promise = h.promise;
      before = λ i o from. tt;
      itself = λ i o from w. tt;
      easy = h.easy;
      same = h.same;
      stays = h.stays;
    })

pub returns-then-not-is_replaced : goal.returns-then-not-is_replaced
returns-then-not-is_replaced g c =
    let text = c.args.text.now in
    let write = g.R.Replacer.replacement_text c.args.replacement.now in
    let none = c.if-not-is_replaced.true in
    let h = subst (λ (r : Result Bool Error). IsReplacedInto (λ s room text. string_bytes s ≡ text) c.args.matcher.now text
    (as_limit c.args.limit) write c.new-out.result r c.replace_into.new.matcher c.replace_into.new.out)
    (c.in_ok-is_replaced.was ∙ ap Ok none) c.replace_into.ensures in
    record {
      promise = λ i o from. (rewrite-none text (write text) (to_replace i o text (as_limit c.args.limit)) (h.promise i o from).0, λ _ no. no);
      before = λ i o from first others e. refl;
      itself = λ i o from w. refl;
      easy = tt;
      same = h.same;
      stays = h.stays;
    }

pub returns : goal.returns
returns g c =
    let text = c.args.text.now in
    let limit = as_limit c.args.limit in
    let write = g.R.Replacer.replacement_text c.args.replacement.now in
    let some = c.if-not-is_replaced.false in
    let small : length text < usize_max = omega arith in
    let is : IsText text = record { utf8 = c.utf8.text; fits = small } in
    let h = subst (λ (r : Result Bool Error). IsReplacedInto (λ s room text. string_bytes s ≡ text) c.args.matcher.now text
    limit write c.new-out.result r c.replace_into.new.matcher c.replace_into.new.out)
    (c.in_ok-is_replaced.was ∙ ap Ok some) c.replace_into.ensures in
    let value = λ (i : Input) (o : plain.RunOptions) (from : IsRegexOf i text o c.args.matcher.now).
    (h.promise i o from).1 0 [] c.new-out.ensures.bytes in
    record {
      promise = λ i o from. (value i o from, λ empty _. (h.promise i o from).0 empty);
      before = λ i o from. subst (KeepsBefore i o text) (sym (value i o from)) (before i o text limit write is);
      itself = λ i o from w. value i o from ∙ itself i o text limit write is w;
      easy = tt;
      same = h.same;
      stays = h.stays;
    }
