-- Each construct fits where its parts do.
use Rattle.std.proofs.Common.{ℕ, ◌+◌, ◌*◌, ◌<◌, Bool, true, false, List, [], ◌∷◌, map, Option, refl, arith}
use Rattle.std.proofs.lemmas.Bool.{lt-ltb}
use Rattle.fancy_meaning.specs.Tree.{Look, LookAhead, LookAheadNeg, LookBehind, LookBehindNeg}
use Rattle.fancy_meaning.specs.Sizes.{Size}
use Rattle.fancy_meaning.specs.Instr.{Instr, Newline}
use Rattle.fancy_meaning.specs.Code.{Code, nothing, one, ◌>>◌, in_turn, over_fresh_slot, headed, one_at, branch, branches}
use Rattle.fancy_meaning.specs.Constructs.{group_code, atomic_code, conditional_code, newline_code, look_code, negative_look_code, behind_code, look_around_code, LoopForm, Never, AtMostOnce, Epsilon, Star, Plus, Counted, split, loop_code, epsilon_code, counted_code, repeat_code, absent_code}
use Rattle.fancy_laws.proofs.Every.{Every, every_map}
use Rattle.fancy_fits.proofs.Codes.{both, Good, FitsIf, fits_where, fits_if, fits_nothing, fits_one, fits_next, fits_slot, fits_headed, fits_from_here, fits_one_at, good_split, good_jump, fits_branch, fits_branches, fits_in_turn}

module _ (len slots : ℕ) where
  -- without a condition
  abbrev pub Fits : Code → Type 0
  Fits c = FitsIf len slots (Unit {0}) c

  -- an instruction without a target or a slot
  pub fits_plain : {P : Type 0} (i : Instr) → Good len slots i → FitsIf len slots P (one i)
  fits_plain i g = fits_one len slots i (λ p. g)

  -- under a condition more
  also : {P : Type 0} {c : Code} → Fits c → FitsIf len slots P c
  also f = fits_where len slots (λ q. tt) f

  pub fits_group : (g : ℕ) (body : Code) → 2 * g + 1 < slots → Fits body → Fits (group_code g body)
  fits_group g body pair f =
      fits_slot len slots (λ slot. one (Instr.SaveCaptureGroupStart g slot) >> body >> one (Instr.SaveCaptureGroup g slot))
      (λ slot.
      fits_next len slots (one (Instr.SaveCaptureGroupStart g slot)) (body >> one (Instr.SaveCaptureGroup g slot))
      (fits_one len slots (Instr.SaveCaptureGroupStart g slot) (λ p. lt-ltb slot slots p.1))
      (fits_next len slots body (one (Instr.SaveCaptureGroup g slot)) (also f)
      (fits_one len slots (Instr.SaveCaptureGroup g slot)
      (λ p. both (lt-ltb slot slots p.1) (lt-ltb (2 * g + 1) slots pair)))))

  pub fits_atomic : (body : Code) → Fits body → Fits (atomic_code body)
  fits_atomic body f =
      fits_next len slots (one Instr.BeginAtomic) (body >> one Instr.EndAtomic) (fits_plain Instr.BeginAtomic refl)
      (fits_next len slots body (one Instr.EndAtomic) f (fits_plain Instr.EndAtomic refl))

  pub fits_conditional : (c t f : Code) → Fits c → Fits t → Fits f → Fits (conditional_code c t f)
  fits_conditional c t f of_c of_t of_f =
      fits_next len slots (one Instr.BeginAtomic) (branch (c >> one Instr.EndAtomic >> t) (one Instr.EndAtomic >> f))
      (fits_plain Instr.BeginAtomic refl)
      (fits_branch len slots (c >> one Instr.EndAtomic >> t) (one Instr.EndAtomic >> f)
      (fits_next len slots c (one Instr.EndAtomic >> t) of_c
      (fits_next len slots (one Instr.EndAtomic) t (fits_plain Instr.EndAtomic refl) of_t))
      (fits_next len slots (one Instr.EndAtomic) f (fits_plain Instr.EndAtomic refl) of_f))

  pub fits_newline : (unicode : Bool) → Fits (newline_code unicode)
  fits_newline unicode =
      fits_atomic (branch (one (Instr.Lit (13 ∷ 10 ∷ []))) (one (Instr.Class (Newline unicode))))
      (fits_branch len slots (one (Instr.Lit (13 ∷ 10 ∷ []))) (one (Instr.Class (Newline unicode)))
      (fits_plain (Instr.Lit (13 ∷ 10 ∷ [])) refl) (fits_plain (Instr.Class (Newline unicode)) refl))

  -- ---- look-around

  pub fits_look : (inner : Code) → Fits inner → Fits (look_code inner)
  fits_look inner f =
      fits_slot len slots (λ slot. one (Instr.Save slot) >> inner >> one (Instr.Restore slot))
      (λ slot.
      fits_next len slots (one (Instr.Save slot)) (inner >> one (Instr.Restore slot))
      (fits_one len slots (Instr.Save slot) (λ p. lt-ltb slot slots p.1))
      (fits_next len slots inner (one (Instr.Restore slot)) (also f)
      (fits_one len slots (Instr.Restore slot) (λ p. lt-ltb slot slots p.1))))

  pub fits_negative_look : (inner : Code) → Fits inner → Fits (negative_look_code inner)
  fits_negative_look inner f =
      fits_headed len slots (λ here after. Instr.Split (here + 1) after) (inner >> one Instr.FailNegativeLookAround)
      (λ p here after lt inside. good_split len slots (here + 1) after (omega (arith, lt, inside)) inside)
      (fits_next len slots inner (one Instr.FailNegativeLookAround) f (fits_plain Instr.FailNegativeLookAround refl))

  -- a body with its size
  abbrev pub BodyFits : Size × Code → Type 0
  BodyFits body = Fits body.1

  fits_behind : (look : Code → Code) → ((c : Code) → Fits c → Fits (look c)) → (body : Size × Code) → BodyFits body →
      Fits (behind_code look body)
  fits_behind look k body f =
      fits_if len slots (body.0).is_const (look (one (Instr.GoBack (body.0).least) >> body.1)) nothing
      (k (one (Instr.GoBack (body.0).least) >> body.1)
      (fits_next len slots (one (Instr.GoBack (body.0).least)) body.1 (fits_plain (Instr.GoBack (body.0).least) refl) f))
      (fits_nothing len slots)

  pub fits_look_around : (look : Look) (body : Size × Code) (bodies : List (Size × Code)) → BodyFits body →
      Every BodyFits bodies → Fits (look_around_code look body bodies)
  fits_look_around LookAhead body bodies f h = fits_look body.1 f
  fits_look_around LookAheadNeg body bodies f h = fits_negative_look body.1 f
  fits_look_around LookBehind body bodies f h =
      fits_if len slots (body.0).is_const (behind_code look_code body) (branches (map (behind_code look_code) bodies))
      (fits_behind look_code fits_look body f)
      (fits_branches len slots (map (behind_code look_code) bodies)
      (every_map (behind_code look_code) (fits_behind look_code fits_look) h))
  fits_look_around LookBehindNeg body bodies f h =
      fits_if len slots (body.0).is_const (behind_code negative_look_code body) (in_turn (map (behind_code negative_look_code) bodies))
      (fits_behind negative_look_code fits_negative_look body f)
      (fits_in_turn len slots (map (behind_code negative_look_code) bodies)
      (every_map (behind_code negative_look_code) (fits_behind negative_look_code fits_negative_look) h))

  -- ---- loops

  good_choice : (greedy : Bool) (on off : ℕ) → on < len → off < len → Good len slots (split greedy on off)
  good_choice true on off a b = good_split len slots on off a b
  good_choice false on off a b = good_split len slots off on b a

  fits_loop : {P : Type 0} (head : ℕ → ℕ → Instr) (body : Code) →
      (P → (here after : ℕ) → here < after → after < len → Good len slots (head here after)) → FitsIf len slots P body →
      FitsIf len slots P (loop_code head body)
  fits_loop head body k f =
      fits_from_here len slots (λ here. headed head (body >> one (Instr.Jmp here)))
      (λ here.
      fits_headed len slots head (body >> one (Instr.Jmp here)) (λ p. k p.0)
      (fits_next len slots body (one (Instr.Jmp here)) (fits_where len slots (λ p. p.0) f)
      (fits_one len slots (Instr.Jmp here) (λ p. good_jump len slots here p.1))))

  pub fits_epsilon : (greedy : Bool) (lo : ℕ) (body : Code) → Fits body → Fits (epsilon_code greedy lo body)
  fits_epsilon greedy lo body f =
      fits_slot len slots
      (λ repeat. over_fresh_slot (λ check. one (Instr.Save0 repeat) >> loop_code (λ here after. Instr.RepeatEpsilon greedy lo after repeat check) body))
      (λ repeat.
      fits_slot len slots
      (λ check. one (Instr.Save0 repeat) >> loop_code (λ here after. Instr.RepeatEpsilon greedy lo after repeat check) body)
      (λ check.
      fits_next len slots (one (Instr.Save0 repeat)) (loop_code (λ here after. Instr.RepeatEpsilon greedy lo after repeat check) body)
      (fits_one len slots (Instr.Save0 repeat) (λ p. lt-ltb repeat slots (p.0).1))
      (fits_loop (λ here after. Instr.RepeatEpsilon greedy lo after repeat check) body
      (λ p here after lt inside.
      both (lt-ltb after len inside) (both (lt-ltb repeat slots (p.0).1) (lt-ltb check slots p.1)))
      (also f))))

  pub fits_counted : (greedy : Bool) (lo : ℕ) (hi : Option ℕ) (body : Code) → Fits body → Fits (counted_code greedy lo hi body)
  fits_counted greedy lo hi body f =
      fits_slot len slots
      (λ repeat. one (Instr.Save0 repeat) >> loop_code (λ here after. Instr.Repeat greedy lo hi after repeat) body)
      (λ repeat.
      fits_next len slots (one (Instr.Save0 repeat)) (loop_code (λ here after. Instr.Repeat greedy lo hi after repeat) body)
      (fits_one len slots (Instr.Save0 repeat) (λ p. lt-ltb repeat slots p.1))
      (fits_loop (λ here after. Instr.Repeat greedy lo hi after repeat) body
      (λ p here after lt inside. both (lt-ltb after len inside) (lt-ltb repeat slots p.1)) (also f)))

  pub fits_repeat : (greedy : Bool) (body : Code) (form : LoopForm) → Fits body → Fits (repeat_code greedy body form)
  fits_repeat greedy body Never f = fits_nothing len slots
  fits_repeat greedy body AtMostOnce f =
      fits_headed len slots (λ here after. split greedy (here + 1) after) body
      (λ p here after lt inside. good_choice greedy (here + 1) after (omega (arith, lt, inside)) inside) f
  fits_repeat greedy body (Epsilon lo) f = fits_epsilon greedy lo body f
  fits_repeat greedy body Star f =
      fits_loop (λ here after. split greedy (here + 1) after) body
      (λ p here after lt inside. good_choice greedy (here + 1) after (omega (arith, lt, inside)) inside) f
  fits_repeat greedy body Plus f =
      fits_from_here len slots (λ start. body >> one_at (λ here. split greedy start (here + 1)))
      (λ start.
      fits_next len slots body (one_at (λ here. split greedy start (here + 1))) (also f)
      (fits_one_at len slots (λ here. split greedy start (here + 1))
      (λ p here inside. good_choice greedy start (here + 1) p.1 inside)))
  fits_repeat greedy body (Counted lo hi) f = fits_counted greedy lo hi body f

  pub fits_absent : (body : Code) → Fits body → Fits (absent_code body)
  fits_absent body f =
      fits_epsilon true 0 (conditional_code (negative_look_code body) (one Instr.Any) nothing)
      (fits_conditional (negative_look_code body) (one Instr.Any) nothing (fits_negative_look body f)
      (fits_plain Instr.Any refl) (fits_nothing len slots))
