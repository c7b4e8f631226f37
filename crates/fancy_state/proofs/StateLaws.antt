-- States from call to call.
use Rattle.std.proofs.Common.{◌≡◌, ℕ, zero, suc, ◌+◌, ◌-◌, ◌<◌, ◌≤◌, List, [], ◌∷◌, ◌++◌, replicate, length, reverse, take, drop, slice_index_or, slice_set, Option, MatchOption, refl, sym, ap, ap₂, ◌∙◌, arith, subst}
use Rattle.std.proofs.lemmas.List.{length-set, length-reverse}
use Rattle.fancy_meaning.specs.MatchState.{put}
use Rattle.fancy_state.specs.Held.{Held, HeldBranch, StateView, first_held, first_state}
use Rattle.fancy_meaning.specs.Numbers.{usize_max}
use Rattle.fancy_state.specs.OldValues.{Values, values_of, since, slots_in, stack_in, held_branches, IsRoomy, Falls, IsNewest, Agrees, IsSound}
use Rattle.fancy_state.specs.declared.old_values.Old.{Old}
use Rattle.fancy_state.specs.declared.state.Branch.{Branch}
use Rattle.fancy_state.proofs.OldLaws.{set_put}
use Rattle.fancy_state.proofs.CellLaws.{length-slots, length-stack, slots_put, slots_above, stack_below, stack_above, stack_pushed, stack_popped, put_at, put_off, first_slots, first_stack}
use Rattle.fancy_state.proofs.HeldLaws.{falls_same, falls_drop, falls_lower, newest_inside, newest_falls, one_more, reverse-take, held-drop, length-held, held_same, held_now, since_now, marked_held, marked_falls, marked_inside}

pub held_is : {a b : StateView} → a ≡ b → a.held ≡ b.held
held_is is = ap (λ (s : StateView). s.held) is

-- a state of these parts
abbrev pub held_of : ℕ → List ℕ → List Old → List Branch → ℕ → Held
held_of n cells log bs max_stack = record {
  slots = slots_in n (values_of cells);
  stack = stack_in n (values_of cells);
  branches = held_branches n log (values_of cells) bs;
  max_stack = max_stack;
}

abbrev of_parts : List ℕ → List ℕ → List HeldBranch → ℕ → Held
of_parts slots stack branches max_stack = record { slots = slots; stack = stack; branches = branches; max_stack = max_stack }

parts : (a b d e : List ℕ) (f g : List HeldBranch) (m : ℕ) → a ≡ b → d ≡ e → f ≡ g → of_parts a d f m ≡ of_parts b e g m
parts a b d e f g m one two three = rw (one, two, three) refl

pub slot_less : (n : ℕ) (cells : List ℕ) (log : List Old) (bs : List Branch) (max_stack s : ℕ) (h : Held) → held_of n cells log bs max_stack ≡ h → s < length h.slots → s < n
slot_less n cells log bs max_stack s h is =
    subst (λ (h : Held). s < length h.slots → s < n) is (λ less. omega (arith, less, length-slots n (values_of cells)))

pub stack_some : (n : ℕ) (cells : List ℕ) (log : List Old) (bs : List Branch) (max_stack : ℕ) (h : Held) → held_of n cells log bs max_stack ≡ h → length h.stack ≡ values_of cells n
stack_some n cells log bs max_stack h is = subst (λ (h : Held). length h.stack ≡ values_of cells n) is (length-stack n (values_of cells))

pub slots_enough : (n : ℕ) (cells : List ℕ) (log : List Old) (bs : List Branch) (max_stack count : ℕ) (h : Held) → held_of n cells log bs max_stack ≡ h → count ≤ length h.slots → count ≤ n
slots_enough n cells log bs max_stack count h is =
    subst (λ (h : Held). count ≤ length h.slots → count ≤ n) is (λ enough. omega (arith, enough, length-slots n (values_of cells)))

pub slot_there : (n : ℕ) (cells : List ℕ) (log : List Old) (bs : List Branch) (s : ℕ) → IsSound n cells log bs → s ≤ n → s < length cells
slot_there n cells log bs s sound less = let room : n + 1 + values_of cells n ≤ length cells = sound.room in omega (arith, less, room)

pub mark_inside : (n : ℕ) (cells : List ℕ) (log : List Old) (bs : List Branch) (mark : Option ℕ) → MatchOption mark (bs ≡ []) (λ m. IsNewest m bs) → IsSound n cells log bs
    → MatchOption mark (Unit {0}) (λ m. m ≤ length log)
mark_inside n cells log bs mark newest sound =
    marked_inside n (length cells) (length cells) log log (values_of cells) (values_of cells) bs (length log) (length log) mark newest (omega arith) sound.marks

-- more cells, which hold 0
module _ (n : ℕ) (cells new : List ℕ) (log : List Old) (bs : List Branch) (same : values_of new ≡ values_of cells) (more : length cells ≤ length new) where
  pub grown_sound : IsSound n cells log bs → IsSound n new log bs
  grown_sound sound = record {
    room = subst (λ (f : Values). IsRoomy n (length new) f) (sym same) (roomier sound.room);
    marks = falls_same n log log (values_of cells) (values_of new) bs (length cells) (length new) (length log) (length log) more (omega arith) (λ m le. ap (since log m) (sym same)) sound.marks;
  } where
    roomier : IsRoomy n (length cells) (values_of cells) → IsRoomy n (length new) (values_of cells)
    roomier room = omega (arith, room, more)

  pub grown_held : (max_stack : ℕ) → held_of n new log bs max_stack ≡ held_of n cells log bs max_stack
  grown_held max_stack = ap (λ (f : Values). record { slots = slots_in n f; stack = stack_in n f; branches = held_branches n log f bs; max_stack = max_stack }) same

-- a cell is set
module _ (n : ℕ) (cells new : List ℕ) (log news : List Old) (bs : List Branch) (mark : Option ℕ) (cell v : ℕ)
    (value : new ≡ slice_set cells cell v) (less : cell < length cells)
    (newest : MatchOption mark (bs ≡ []) (λ m. IsNewest m bs))
    (agrees : MatchOption mark (Unit {0}) (λ m. Agrees m log (values_of cells) news (values_of new)))
    (longer : length log ≤ length news) (sound : IsSound n cells log bs) where
  is_put : values_of new ≡ put cell v (values_of cells)
  is_put = ap values_of value ∙ set_put cells cell v less

  as_long : length new ≡ length cells
  as_long = ap length value ∙ length-set cells cell v

  pub set_sound : IsRoomy n (length cells) (put cell v (values_of cells)) → IsSound n new news bs
  set_sound roomy = record {
    room = subst (λ (f : Values). IsRoomy n (length new) f) (sym is_put) (subst (λ k. n + 1 + put cell v (values_of cells) n ≤ k) (sym as_long) roomy);
    marks = marked_falls n (length cells) (length new) log news (values_of cells) (values_of new) bs (length log) (length news) mark newest agrees (omega (arith, as_long)) longer sound.marks;
  }

  set_branches : held_branches n log (values_of cells) bs ≡ held_branches n news (values_of new) bs
  set_branches = marked_held n (length cells) (length new) log news (values_of cells) (values_of new) bs (length log) (length news) mark newest agrees sound.marks

  -- a slot
  pub slot_sound : cell < n → IsSound n new news bs
  slot_sound is = set_sound (subst (λ k. n + 1 + k ≤ length cells) (sym (put_off (values_of cells) cell v n (λ same. omega (arith, is, same)))) sound.room)

  pub slot_held : (max_stack : ℕ) → cell < n → held_of n new news bs max_stack ≡ record (held_of n cells log bs max_stack) { slots = slice_set (slots_in n (values_of cells)) cell v }
  slot_held max_stack is =
      parts _ _ _ _ _ _ max_stack
      (ap (slots_in n) is_put ∙ slots_put n (values_of cells) cell v is)
      (ap (stack_in n) is_put ∙ stack_below n (values_of cells) cell v is)
      (sym set_branches)

  -- the cell above the stack's last entry
  pub above_sound : cell ≡ n + 1 + values_of cells n → IsSound n new news bs
  above_sound is = set_sound (subst (λ k. n + 1 + k ≤ length cells) (sym (put_off (values_of cells) cell v n (λ same. omega (arith, is, same)))) sound.room)

  pub above_held : (max_stack : ℕ) → cell ≡ n + 1 + values_of cells n → held_of n new news bs max_stack ≡ held_of n cells log bs max_stack
  above_held max_stack is =
      parts _ _ _ _ _ _ max_stack
      (ap (slots_in n) is_put ∙ slots_above n (values_of cells) cell v (omega (arith, is)))
      (ap (stack_in n) is_put ∙ stack_above n (values_of cells) cell v is)
      (sym set_branches)

  -- how many entries the stack has
  pub count_sound : cell ≡ n → n + 1 + v ≤ length cells → IsSound n new news bs
  count_sound is roomy = set_sound (subst (λ k. n + 1 + k ≤ length cells) (sym (put_at (values_of cells) cell v n (sym is))) roomy)

  pub count_held : (max_stack : ℕ) (stack : List ℕ) → cell ≡ n → stack_in n (put n v (values_of cells)) ≡ stack → held_of n new news bs max_stack ≡ record (held_of n cells log bs max_stack) { stack = stack }
  count_held max_stack stack is stacked =
      parts _ _ _ _ _ _ max_stack
      (ap (slots_in n) is_put ∙ slots_above n (values_of cells) cell v (omega (arith, is)))
      (ap (stack_in n) is_put ∙ ap (λ k. stack_in n (put k v (values_of cells))) is ∙ stacked)
      (sym set_branches)

  -- the stack's last entry is taken off
  pub popped_held : (max_stack entry : ℕ) → cell ≡ n → v ≡ values_of cells n - 1 → 0 < values_of cells n → entry ≡ values_of cells (n + values_of cells n)
      → held_of n cells log bs max_stack ≡ record (held_of n new news bs max_stack) { stack = entry ∷ stack_in n (values_of new) }
  popped_held max_stack entry is less_one some last =
      parts _ _ _ _ _ _ max_stack
      (sym (ap (slots_in n) is_put ∙ slots_above n (values_of cells) cell v (omega (arith, is))))
      (stack_popped n (values_of cells) some
      ∙ ap₂ (λ x l. x ∷ l) (sym last) (ap (stack_in n) (ap₂ (λ k y. put k y (values_of cells)) (sym is) (sym less_one) ∙ sym is_put)))
      set_branches

-- a value is pushed onto the stack: the cell above is made and set, and the count is set
module _ (n : ℕ) (cells first second third : List ℕ) (log olds news : List Old) (bs : List Branch) (mark : Option ℕ) (count v : ℕ)
    (sound : IsSound n cells log bs) (newest : MatchOption mark (bs ≡ []) (λ m. IsNewest m bs)) (is : count ≡ values_of cells n)
    (same : values_of first ≡ values_of cells) (more : length cells ≤ length first) where
  at_top : n + 1 + count ≡ n + 1 + values_of first n
  at_top = ap (λ k. n + 1 + k) (is ∙ ap (λ (f : Values). f n) (sym same))

  pub first_sound : IsSound n first log bs
  first_sound = grown_sound n cells first log bs same more sound

  module _ (there : n + 1 + count < length first) (value : second ≡ slice_set first (n + 1 + count) v)
      (agrees : MatchOption mark (Unit {0}) (λ m. Agrees m log (values_of first) olds (values_of second)))
      (longer : length log ≤ length olds) where
    pub second_sound : IsSound n second olds bs
    second_sound = above_sound n first second log olds bs mark (n + 1 + count) v value there newest agrees longer first_sound at_top

    pub second_held : (max_stack : ℕ) → held_of n second olds bs max_stack ≡ held_of n cells log bs max_stack
    second_held max_stack =
        above_held n first second log olds bs mark (n + 1 + count) v value there newest agrees longer first_sound max_stack at_top
        ∙ grown_held n cells first log bs same more max_stack

    pub second_long : length second ≡ length first
    second_long = ap length value ∙ length-set first (n + 1 + count) v

    second_is : values_of second ≡ put (n + 1 + count) v (values_of cells)
    second_is = ap values_of value ∙ set_put first (n + 1 + count) v there ∙ ap (put (n + 1 + count) v) same

    pub count_there : n < length second
    count_there = omega (arith, there, second_long)

    module _ (put_count : third ≡ slice_set second n (count + 1))
        (more_agrees : MatchOption mark (Unit {0}) (λ m. Agrees m olds (values_of second) news (values_of third)))
        (more_longer : length olds ≤ length news) where
      pub third_sound : IsSound n third news bs
      third_sound = count_sound n second third olds news bs mark n (count + 1) put_count count_there newest more_agrees more_longer second_sound refl (omega (arith, there, second_long))

      third_stack : stack_in n (put n (count + 1) (values_of second)) ≡ v ∷ stack_in n (values_of cells)
      third_stack =
          ap₂ (λ k (f : Values). stack_in n (put n (k + 1) f)) is second_is
          ∙ stack_pushed n (values_of cells) (n + 1 + count) v (ap (λ k. n + 1 + k) is)

      pub third_held : (max_stack : ℕ) → held_of n third news bs max_stack ≡ record (held_of n cells log bs max_stack) { stack = v ∷ stack_in n (values_of cells) }
      third_held max_stack =
          count_held n second third olds news bs mark n (count + 1) put_count count_there newest more_agrees more_longer second_sound max_stack _ refl third_stack
          ∙ ap (λ (h : Held). record h { stack = v ∷ stack_in n (values_of cells) }) (second_held max_stack)

-- ---- from call to call

pub refill : (n v : ℕ) → take n [] ++ replicate (n - 0) v ≡ replicate n v
refill zero v = refl
refill (suc n) v =
    let whole : suc n - 0 ≡ suc n = omega arith in
    rw whole refl

first_is : (n max_stack : ℕ) → held_of n (replicate n usize_max ++ 0 ∷ []) [] [] max_stack ≡ first_held n max_stack
unfolding held_branches
first_is n max_stack = parts _ _ _ _ _ _ max_stack (first_slots n) (first_stack n) refl

pub first_view : (n max_stack : ℕ) → record { held = held_of n (replicate n usize_max ++ 0 ∷ []) [] [] max_stack; logged = 0 } ≡ first_state n max_stack
first_view n max_stack = ap (λ (h : Held). record { held = h; logged = 0 }) (first_is n max_stack)

-- what the newest branch keeps is taken back
module _ (n : ℕ) (cells new : List ℕ) (log news : List Old) (b : Branch) (bs : List Branch)
    (agrees : Agrees b.mark log (values_of cells) news (values_of new)) (len : length news ≡ b.mark)
    (as_long : length new ≡ length cells) (sound : IsSound n cells log (b ∷ bs)) where
  taken_back : since log b.mark (values_of cells) ≡ values_of new
  taken_back = agrees b.mark (omega arith) ∙ since_now news (values_of new) b.mark (omega (arith, len))

  pub pop_sound : IsSound n new news bs
  pop_sound = record {
    room = subst (λ k. n + 1 + values_of new n ≤ k) (sym as_long) (subst (λ (f : Values). IsRoomy n (length cells) f) taken_back sound.marks.1.0);
    marks =
        subst (λ k. Falls n (length new) news (values_of new) k bs) (sym len)
        (falls_same n log news (values_of cells) (values_of new) bs (length cells) (length new) b.mark b.mark (omega (arith, as_long)) (omega arith) agrees sound.marks.1.1);
  }

  pub pop_held : held_branches n log (values_of cells) (b ∷ bs)
      ≡ record { pc = b.pc; ix = b.ix; slots = slots_in n (values_of new); stack = stack_in n (values_of new) } ∷ held_branches n news (values_of new) bs
  pop_held =
      held_same n log news (values_of cells) (values_of new) (b ∷ bs) (length cells) b.mark b.mark (omega arith) agrees (omega arith, sound.marks.1)
      ∙ held_now n news (values_of new) b bs (omega (arith, len))

-- the branches from `count` on are dropped; b is the first of them
module _ (n : ℕ) (cells : List ℕ) (log : List Old) (bs : List Branch) (count : ℕ) where
  kept_branches : held_branches n log (values_of cells) (reverse (take count bs))
      ≡ drop (length (held_branches n log (values_of cells) (reverse bs)) - count) (held_branches n log (values_of cells) (reverse bs))
  kept_branches =
      ap (held_branches n log (values_of cells)) (reverse-take bs count)
      ∙ held-drop n log (values_of cells) (reverse bs) (length bs - count)
      ∙ ap (λ k. drop (k - count) (held_branches n log (values_of cells) (reverse bs))) (sym (length-held n log (values_of cells) (reverse bs) ∙ length-reverse bs))

  pub cut_held : (news : List Old) (max_stack : ℕ) → held_branches n news (values_of cells) (reverse (take count bs)) ≡ held_branches n log (values_of cells) (reverse (take count bs))
      → held_of n cells news (reverse (take count bs)) max_stack
      ≡ record (held_of n cells log (reverse bs) max_stack) { branches = drop (length (held_branches n log (values_of cells) (reverse bs)) - count) (held_branches n log (values_of cells) (reverse bs)) }
  cut_held news max_stack same = parts _ _ _ _ _ _ max_stack refl refl (same ∙ kept_branches)

  pub cut_none : (news : List Old) → reverse (take count bs) ≡ [] → held_branches n news (values_of cells) (reverse (take count bs)) ≡ held_branches n log (values_of cells) (reverse (take count bs))
  unfolding held_branches
  cut_none news none = rw none refl

  pub cut_nothing : (max_stack : ℕ) (h : Held) → held_of n cells log (reverse bs) max_stack ≡ h → length bs ≤ count → length h.branches - count ≡ 0
  cut_nothing max_stack h is all =
      subst (λ (h : Held). length h.branches - count ≡ 0) is (omega (arith, all, length-held n log (values_of cells) (reverse bs), length-reverse bs))

  module _ (b : Branch) (here : count < length bs) (is : b ≡ slice_index_or bs count b) (sound : IsSound n cells log (reverse bs)) where
    cut_falls : Falls n (length cells) log (values_of cells) (length log) (b ∷ reverse (take count bs))
    cut_falls =
        let next : count + 1 - 1 ≡ count = omega arith in
        let more : reverse (take (count + 1) bs) ≡ b ∷ reverse (take count bs) =
        one_more bs (count + 1) b (omega arith) (omega (arith, here)) (is ∙ ap (λ k. slice_index_or bs k b) (sym next)) ∙ ap (λ k. b ∷ reverse (take k bs)) next in
        subst (Falls n (length cells) log (values_of cells) (length log)) (sym (reverse-take bs (count + 1)) ∙ more)
        (falls_drop n (length cells) log (values_of cells) (reverse bs) (length bs - (count + 1)) (length log) sound.marks)

    pub cut_first : b.mark ≤ length log
    cut_first = cut_falls.0

    pub cut_mark : (m : ℕ) → IsNewest m (reverse (take count bs)) → m ≤ b.mark
    cut_mark m newest = newest_inside n (length cells) log (values_of cells) (reverse (take count bs)) b.mark m newest cut_falls.1.1

    module _ (news : List Old) (m : ℕ) (newest : IsNewest m (reverse (take count bs))) (agrees : Agrees m log (values_of cells) news (values_of cells)) where
      newest_part : Falls n (length cells) log (values_of cells) m (reverse (take count bs))
      newest_part = newest_falls n (length cells) log (values_of cells) (reverse (take count bs)) b.mark m newest cut_falls.1.1

      pub cut_sound : m ≤ length news → IsSound n cells news (reverse (take count bs))
      cut_sound long = record {
        room = sound.room;
        marks =
            falls_lower n (length cells) news (values_of cells) (reverse (take count bs)) m (length news) long
            (falls_same n log news (values_of cells) (values_of cells) (reverse (take count bs)) (length cells) (length cells) m m (omega arith) (omega arith) agrees newest_part);
      }

      pub cut_some : held_branches n news (values_of cells) (reverse (take count bs)) ≡ held_branches n log (values_of cells) (reverse (take count bs))
      cut_some = sym (held_same n log news (values_of cells) (values_of cells) (reverse (take count bs)) (length cells) m m (omega arith) agrees newest_part)
