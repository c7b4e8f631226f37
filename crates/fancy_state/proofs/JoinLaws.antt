-- Joining what was logged: a list of which a front was gone through and packed.
use Rattle.std.proofs.Common.{◌≡◌, ℕ, suc, ◌+◌, ◌<◌, ◌≤◌, List, [], ◌∷◌, ◌++◌, length, take, drop, slice_set, slice_index_or, sym, ap, ◌∙◌, arith, drop-cons, length-take, append_assoc, drop_of_length-le, append-nil}
use Rattle.std.proofs.Math.Path.{fun_ext}
use Rattle.std.proofs.lemmas.List.{drop-append-le, take_more_set, drop-set-lt}
use Rattle.fancy_state.specs.OldValues.{Values, Agrees, IsSettled, old_at}
use Rattle.fancy_state.specs.declared.old_values.Old.{Old}
use Rattle.fancy_state.proofs.OldLaws.{settled_drop, left_out}

module _ (log : List Old) (e : Old) where
  next_first : (next : ℕ) → next < length log → e ≡ slice_index_or log next e → drop next log ≡ e ∷ drop (next + 1) log
  next_first next here is =
      let more : suc next ≡ next + 1 = omega arith in
      drop-cons log next e here ∙ ap (λ x. x ∷ drop (suc next) log) (sym is) ∙ ap (λ k. e ∷ drop k log) more

  -- an old value of a settled cell is left out
  pub joins_drop : (mark kept next : ℕ) (now : Values) → mark ≤ kept → kept ≤ next → next < length log → e ≡ slice_index_or log next e
      → IsSettled (drop mark (take kept log)) e.cell → Agrees mark (take kept log ++ drop next log) now (take kept log ++ drop (next + 1) log) now
  joins_drop mark kept next now low le here is settled m before =
      let front = take kept log in
      let rest = drop (next + 1) log in
      let inside : m ≤ length front = omega (arith, before, low, le, here, length-take kept log) in
      fun_ext (λ j.
      ap (λ l. old_at (drop m (front ++ l)) j (now j)) (next_first next here is)
      ∙ ap (λ l. old_at l j (now j)) (drop-append-le m front (e ∷ rest) inside)
      ∙ left_out (drop m front) rest e j (now j) (settled_drop front m mark e.cell before settled)
      ∙ ap (λ l. old_at l j (now j)) (sym (drop-append-le m front rest inside)))

  -- another one is moved to the front
  pub joins_keep : (kept next : ℕ) → kept ≤ next → next < length log → e ≡ slice_index_or log next e
      → take (kept + 1) (slice_set log kept e) ++ drop (next + 1) (slice_set log kept e) ≡ take kept log ++ drop next log
  joins_keep kept next le here is =
      rw (take_more_set log kept e (omega (arith, le, here)), drop-set-lt (next + 1) log kept e (omega (arith, le)), next_first next here is)
      (append_assoc (take kept log) (e ∷ []) (drop (next + 1) log))

pub joined : (log : List Old) (kept next : ℕ) → length log ≤ next → take kept log ++ drop next log ≡ take kept log
joined log kept next done = ap (λ l. take kept log ++ l) (drop_of_length-le log {i = next} done) ∙ append-nil (take kept log)
