-- What of a line was written, as writes go on.
use Rattle.std.proofs.Common.{◌≡◌, ◌≢◌, ℕ, ◌+◌, ◌-◌, ◌≤◌, Bool, true, false, nat_eq, List, [], length, take, drop, Option, refl, sym, subst, arith, append-nil}
use Rattle.std.proofs.lemmas.Bool.{eqb-true, eqb-false}
use Rattle.std.proofs.lemmas.List.{take_all, length-drop}
use Rattle.std.proofs.Math.Seq.{take-add}
use Rattle.std.proofs.KnownBytes.{Appends-kept, Appends-trans}
use Rattle.std.specs.Io.KnownBytes.{Appends, Keeps}
use Rattle.fancy_command.specs.Writing.{Writes, whole, part}

module _ (old : Option (List ℕ)) (line : List ℕ) where
  -- all of it
  pub all_written : (new : Option (List ℕ)) (done : ℕ) → done ≡ length line → Appends old new (take done line) → Writes old new line true
  all_written new done all h =
      whole (subst (λ bs. Appends old new bs) (take_all done line (omega arith)) h)

  -- no more, since nothing came of the last write
  pub part_written : (now new : Option (List ℕ)) (done : ℕ) → done ≤ length line → done ≢ length line → Appends old now (take done line) →
      Keeps now new → Writes old new line false
  part_written now new done le less h kept = part done (omega arith) (Appends-kept old now new (take done line) h kept)

  pub nothing_written : (now new : Option (List ℕ)) (done : ℕ) → done ≤ length line → done ≢ length line → Appends old now (take done line) →
      Appends now new [] → Writes old new line false
  nothing_written now new done le less h nothing =
      part done (omega arith)
      (subst (λ bs. Appends old new bs) (append-nil (take done line)) (Appends-trans old now new (take done line) [] h nothing))

  -- some more
  pub more_written : (now new : Option (List ℕ)) (done count : ℕ) → Appends old now (take done line) →
      Appends now new (take count (take (length line - done) (drop done line))) → Appends old new (take (done + count) line)
  more_written now new done count h more =
      let rest : take (length line - done) (drop done line) ≡ drop done line =
      take_all (length line - done) (drop done line) (omega (arith, length-drop done line)) in
      subst (λ bs. Appends old new bs) (sym (take-add done count line))
      (Appends-trans old now new (take done line) (take count (drop done line)) h (subst (λ bs. Appends now new (take count bs)) rest more))

  -- all of it or not, when the turns are over
  pub written_at_last : (new : Option (List ℕ)) (done : ℕ) → done ≤ length line → Appends old new (take done line) →
      Writes old new line (nat_eq done (length line))
  written_at_last new done le h = by_test (nat_eq done (length line)) refl
    where
      by_test : (b : Bool) → nat_eq done (length line) ≡ b → Writes old new line b
      by_test true e = all_written new done (eqb-true done (length line) e) h
      by_test false e = part done (let less = eqb-false done (length line) e in omega arith) h
