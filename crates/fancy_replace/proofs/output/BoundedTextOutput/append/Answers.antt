use Rattle.std.proofs.Common.{◌≡◌, ◌≤◌, ◌+◌, ◌-◌, ◌++◌, length, min, take, sym, ap, ap₂, ◌∙◌, subst, arith}
use Rattle.std.proofs.lemmas.List.{length-append, length-take-le, take_all}
use Rattle.std.proofs.lemmas.Str.{IsUtf8-append, IsUtf8-had}
use Rattle.std.specs.Prelude.{IsUtf8}
use Rattle.fancy_meaning.specs.Numbers.{usize_max}
use Rattle.fancy_replace.proofs.Cutoffs.{keeps_more}
use Rattle.fancy_replace.proofs.output.BoundedTextOutput.append.Goals as goal

pub invariant_of-self : goal.invariant_of-self
invariant_of-self c =
    let s = c.args.self.now in
    let same = c.in_err-extend_from_slice.ensures.items in
    record {
      below = s.below;
      cut = ap length same ∙ s.cut;
      is_text = λ le. subst (λ xs. ∥ IsUtf8 xs ∥₁) (sym same) (s.is_text le);
    }

pub invariant_of-self-2 : goal.invariant_of-self-2
invariant_of-self-2 c =
    let s = c.args.self.now in
    let piece = c.args.piece.now in
    let more = c.min-kept.result in
    let grown = c.in_ok-extend_from_slice.ensures.items ∙ ap (λ bytes. s.kept.items ++ take more bytes) c.as_bytes.ensures.value in
    let below = s.below in
    let cut = s.cut in
    let count = c.saturating_add-self.ensures in
    let kept = c.min-kept.ensures in
    let long = length-append s.kept.items (take more piece) in
    let taken : length (take more piece) ≡ more = length-take-le more piece (omega (arith, kept)) in
    let all = ap length grown in
    record {
      below = below;
      cut = omega (arith, below, cut, count, kept, long, taken, all);
      is_text = λ le.
          let whole : more ≡ length piece = omega (arith, below, cut, count, kept, le) in
          let fit : s.count ≤ s.room = omega (arith, below, count, le) in
          ∣ subst IsUtf8 (sym (grown ∙ ap (λ xs. s.kept.items ++ xs) (ap (λ n. take n piece) whole ∙ take_all (length piece) piece (omega arith))))
          (IsUtf8-append s.kept.items piece (IsUtf8-had s.kept.items (s.is_text fit)) c.utf8.piece) ∣₁;
    }

pub returns : goal.returns
returns c room text h =
    let s = c.args.self.now in
    let piece = c.args.piece.now in
    let more = c.min-kept.result in
    let grown = c.in_ok-extend_from_slice.ensures.items ∙ ap (λ bytes. s.kept.items ++ take more bytes) c.as_bytes.ensures.value in
    let count = c.saturating_add-self.ensures in
    let before = h.count in
    let long = length-append text piece in
    let left = c.min-kept.ensures in
    let more_is : more ≡ min (s.room - length s.kept.items) (length piece) = omega (arith, left) in
    record {
      room = h.room;
      kept = grown ∙ keeps_more s.room text piece s.kept.items more h.kept more_is;
      count = omega (arith, count, before, long);
    }
