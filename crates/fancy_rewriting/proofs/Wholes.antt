-- Where parts with equal ways are replaced in the whole tree, what calls give is the same, and so is each answer.
use Rattle.std.proofs.Common.{◌≡◌, ℕ, zero, suc, true, false, List, [], ◌∷◌, ◌++◌, length, map, filter, filter_map, sum_by, Option, Some, None, option_map, ◌-◌, nat_lt, if◌then◌else◌, ◌==◌, refl, sym, ap, ap₂, ◌∙◌, subst}
use Rattle.std.specs.Prelude.{slice_get}
use Rattle.std.proofs.Math.Path.{fun_ext}
use Rattle.std.proofs.lemmas.List.Elements.{filter_map-append}
use Rattle.fancy_meaning.specs.Tree.{Tree, Trees, none, more}
use Rattle.fancy_meaning.specs.Nodes.{nodes, nodes_of_each, as_group, groups, group_count, body_in, target}
use Rattle.fancy_meaning.specs.OpenCalls.{Depths, no_calls, opened, call_depth, free_calls}
use Rattle.fancy_meaning.specs.MatchState.{MatchState, Ways, fails, first_state}
use Rattle.fancy_meaning.specs.Ways.{Setting, ways_with, called, captured_by_call, ways_of_target, ways}
use Rattle.fancy_meaning.specs.Answer.{Search, as_numbers, starts, is_admitted, chosen, answer}
use Rattle.fancy_rewriting.specs.Contexts.{Frame, InConcat, InAlt, InGroup, InLookAround, InRepeat, InAtomicGroup, InDefineGroup, InCondition, InTrueBranch, InFalseBranch, InAbsentRepeater, InAbsentStopper, InAbsent, InExpression, followed_by, around, Context, filled, is_body_of_behind}
use Rattle.fancy_rewriting.specs.Rewriting.{HaveEqualWays}
use Rattle.fancy_rewriting.proofs.Replaced.{Same, SameBehind, same_around, same_behind}

abbrev groups_in : List Tree → List (ℕ × Tree)
groups_in = filter_map as_group

module _ (q : Setting) where
  -- whatever calls give
  abbrev Alike : Tree → Tree → Type 0
  Alike e f = (call : ℕ → Ways) → Same q call e f

  -- ---- the groups of both trees, in pairs

  -- the same numbers in the same order, with bodies that are alike
  abbrev Paired : List (ℕ × Tree) → List (ℕ × Tree) → Type 0
  Paired [] [] = Unit {0}
  Paired (h ∷ hs) (k ∷ ks) = (h.0 ≡ k.0) × Alike h.1 k.1 × Paired hs ks
  Paired hs ks = ⊥

  paired_same : (hs : List (ℕ × Tree)) → Paired hs hs
  paired_same [] = tt
  paired_same (h ∷ hs) = (refl, λ call. refl, paired_same hs)

  paired_equal : (hs ks : List (ℕ × Tree)) → hs ≡ ks → Paired hs ks
  paired_equal hs ks e = subst (Paired hs) e (paired_same hs)

  paired_append : (hs ks ls ms : List (ℕ × Tree)) → Paired hs ks → Paired ls ms → Paired (hs ++ ls) (ks ++ ms)
  paired_append [] [] ls ms p r = r
  paired_append (h ∷ hs) (k ∷ ks) ls ms p r = (p.0, p.1, paired_append hs ks ls ms p.2 r)
  paired_append [] (k ∷ ks) ls ms p r = absurd p
  paired_append (h ∷ hs) [] ls ms p r = absurd p

  paired_join : (es fs xs ys : List Tree) → Paired (groups_in es) (groups_in fs) → Paired (groups_in xs) (groups_in ys) →
      Paired (groups_in (es ++ xs)) (groups_in (fs ++ ys))
  paired_join es fs xs ys p r =
      subst (λ l. Paired l (groups_in (fs ++ ys))) (sym (filter_map-append as_group es xs))
      (subst (Paired (groups_in es ++ groups_in xs)) (sym (filter_map-append as_group fs ys))
      (paired_append (groups_in es) (groups_in fs) (groups_in xs) (groups_in ys) p r))

  paired_before : (es fs xs : List Tree) → Paired (groups_in es) (groups_in fs) → Paired (groups_in (es ++ xs)) (groups_in (fs ++ xs))
  paired_before es fs xs p = paired_join es fs xs xs p (paired_same (groups_in xs))

  paired_after : (xs es fs : List Tree) → Paired (groups_in es) (groups_in fs) → Paired (groups_in (xs ++ es)) (groups_in (xs ++ fs))
  paired_after xs es fs p = paired_join xs xs es fs (paired_same (groups_in xs)) p

  module _ (e f : Tree) (alike : Alike e f) (paired : Paired (groups_in (nodes e)) (groups_in (nodes f))) where
    paired_among : (before after : Trees) →
        Paired (groups_in (nodes_of_each (followed_by before (more e after))))
        (groups_in (nodes_of_each (followed_by before (more f after))))
    paired_among none after = paired_before (nodes e) (nodes f) (nodes_of_each after) paired
    paired_among (more b bs) after =
        paired_after (nodes b) (nodes_of_each (followed_by bs (more e after))) (nodes_of_each (followed_by bs (more f after)))
        (paired_among bs after)

    paired_around : (g : Frame) → Paired (groups_in (nodes (around g e))) (groups_in (nodes (around g f)))
    paired_around (InConcat before after) = paired_among before after
    paired_around (InAlt before after) = paired_among before after
    paired_around (InGroup n) = (refl, alike, paired)
    paired_around (InLookAround look) = paired
    paired_around (InRepeat lo hi greedy) = paired
    paired_around InAtomicGroup = paired
    paired_around InDefineGroup = paired
    paired_around (InCondition t u) = paired_before (nodes e) (nodes f) (nodes t ++ nodes u) paired
    paired_around (InTrueBranch c u) =
        paired_after (nodes c) (nodes e ++ nodes u) (nodes f ++ nodes u) (paired_before (nodes e) (nodes f) (nodes u) paired)
    paired_around (InFalseBranch c t) =
        paired_after (nodes c) (nodes t ++ nodes e) (nodes t ++ nodes f) (paired_after (nodes t) (nodes e) (nodes f) paired)
    paired_around InAbsentRepeater = paired
    paired_around InAbsentStopper = paired
    paired_around (InAbsent exp) = paired_before (nodes e) (nodes f) (nodes exp) paired
    paired_around (InExpression a) = paired_after (nodes a) (nodes e) (nodes f) paired

  -- two whole trees whose calls come to the same
  record AreAlike (e f : Tree) : Type 0 where
    alike : Alike e f
    paired : Paired (groups_in (nodes e)) (groups_in (nodes f))

  alike_filled : (c : Context) (e f : Tree) → AreAlike e f →
      (is_body_of_behind c ≡ true → (call : ℕ → Ways) → SameBehind q call e f) → AreAlike (filled c e) (filled c f)
  alike_filled [] e f h behind = h
  alike_filled (g ∷ gs) e f h behind =
      let out : Alike (around g e) (around g f) = λ call. same_around q call g e f (h.alike call) (λ is. behind is call) in
      alike_filled gs (around g e) (around g f)
      (record { alike = out; paired = paired_around e f h.alike h.paired g })
      (λ is call. same_behind q call g e f (h.alike call) (out call))

  -- ---- what calls give

  module _ (e f : Tree) (h : AreAlike e f) where
    abbrev Related : Option Tree → Option Tree → Type 0
    Related None None = Unit {0}
    Related (Some b) (Some d) = Alike b d
    Related o p = ⊥

    related_body : (hs ks : List (ℕ × Tree)) → Paired hs ks → (g : ℕ) → Related (body_in hs g) (body_in ks g)
    related_body [] [] p g = tt
    related_body (x ∷ xs) (y ∷ ys) p g =
        let rest = related_body xs ys p.2 g in
        subst (λ n. Related (body_in (x ∷ xs) g) (if n == g then Some y.1 else body_in ys g)) p.0
        (elim (x.0 == g) as
        (λ v. Related (if v then Some x.1 else body_in xs g) (if v then Some y.1 else body_in ys g)) [ true ↦ p.1 | false ↦ rest ])
    related_body [] (y ∷ ys) p g = absurd p
    related_body (x ∷ xs) [] p g = absurd p

    related_target : (g : ℕ) → Related (target e g) (target f g)
    unfolding target groups
    related_target zero = h.alike
    related_target (suc g) = related_body (groups_in (nodes e)) (groups_in (nodes f)) h.paired (suc g)

    same_capture : (g : ℕ) (w v : Ways) → w ≡ v → captured_by_call q e g w ≡ captured_by_call q f g v
    same_capture zero w v same = same
    same_capture (suc g) w v same = ap (captured_by_call q e (suc g)) same

    same_target : (g : ℕ) (call : ℕ → Ways) (o p : Option Tree) → Related o p →
        ways_of_target q e g call o ≡ ways_of_target q f g call p
    same_target g call None None r = refl
    same_target g call (Some b) (Some d) r = same_capture g (ways_with q call b) (ways_with q call d) (r call)
    same_target g call None (Some d) r = absurd r
    same_target g call (Some b) None r = absurd r

    same_called : (n : ℕ) (depths : Depths) (g : ℕ) → called q e n depths g ≡ called q f n depths g
    same_called zero depths g = refl
    same_called (suc n) depths g =
        ap (λ w. if nat_lt (depths g) call_depth then w else fails)
        (ap (λ call. ways_of_target q e g call (target e g)) (fun_ext (same_called n (opened g depths)))
        ∙ same_target g (called q f n (opened g depths)) (target e g) (target f g) (related_target g))

    same_numbers : (hs ks : List (ℕ × Tree)) → Paired hs ks → map (λ h. h.0) hs ≡ map (λ h. h.0) ks
    same_numbers [] [] p = refl
    same_numbers (x ∷ xs) (y ∷ ys) p = ap₂ (λ n l. n ∷ l) p.0 (same_numbers xs ys p.2)
    same_numbers [] (y ∷ ys) p = absurd p
    same_numbers (x ∷ xs) [] p = absurd p

    same_free : (depths : Depths) → free_calls e depths ≡ free_calls f depths
    unfolding free_calls groups
    same_free depths =
        ap (λ l. sum_by (λ g. call_depth - depths g) (0 ∷ l)) (same_numbers (groups_in (nodes e)) (groups_in (nodes f)) h.paired)

    same_ways : (depths : Depths) → ways q e e depths ≡ ways q f f depths
    same_ways depths =
        h.alike (called q e (free_calls e depths) depths)
        ∙ ap (λ call. ways_with q call f)
        (fun_ext (λ g. same_called (free_calls e depths) depths g ∙ ap (λ n. called q f n depths g) (same_free depths)))

    same_length : (hs ks : List (ℕ × Tree)) → Paired hs ks → length hs ≡ length ks
    same_length [] [] p = refl
    same_length (x ∷ xs) (y ∷ ys) p = ap suc (same_length xs ys p.2)
    same_length [] (y ∷ ys) p = absurd p
    same_length (x ∷ xs) [] p = absurd p

    same_count : group_count e ≡ group_count f
    unfolding group_count groups
    same_count = same_length (groups_in (nodes e)) (groups_in (nodes f)) h.paired

same_answer : (q : Search) (e f : Tree) → AreAlike q.setting e f → answer (record q { tree = e }) ≡ answer (record q { tree = f })
unfolding answer
same_answer q e f h =
    ap₂ (λ n (attempt_at : ℕ → Option MatchState). option_map (as_numbers n) (slice_get (filter_map attempt_at (starts q)) 0))
    (same_count q.setting e f h)
    (fun_ext (λ start.
    ap (λ (w : Ways). chosen q.leftmost_longest (filter (is_admitted q start) (w (first_state start))))
    (same_ways q.setting e f h no_calls)))

pub answers_kept : (q : Search) (c : Context) (e f : Tree) → groups e ≡ groups f →
    ((call : ℕ → Ways) → HaveEqualWays (ways_with q.setting call) c e f) →
    answer (record q { tree = filled c e }) ≡ answer (record q { tree = filled c f })
unfolding groups
answers_kept q c e f same h =
    same_answer q (filled c e) (filled c f)
    (alike_filled q.setting c e f
    (record {
      alike = λ call. fun_ext (h call).alone;
      paired = paired_equal q.setting (groups_in (nodes e)) (groups_in (nodes f)) same;
    })
    (λ is call. fun_ext ((h call).behind is)))
