-- A node by what is written with it.
use Rattle.std.proofs.Common.{◌≡◌, ℕ, zero, suc, ◌-◌, ◌<◌, inl, inr, Bool, true, false, not, [], ◌∷◌, Option, Some, None, option_map, true≢false, refl, sym, ap, ◌∙◌, subst, arith}
use Rattle.std.specs.Option.{ForSome}
use Rattle.fancy_meaning.specs.Tree as plain
use Rattle.fancy_meaning.specs.Tree.{Tree, Trees, none, more, trees, children}
use Rattle.fancy_meaning.specs.Code.{Code, Laid}
use Rattle.fancy_code.specs.Sites.{Site, HasRoom, within_node}
use Rattle.fancy_code.specs.Nesting.{NestsDeeper, NestsOver, alone, over_part, over_called}
use Rattle.fancy_meaning.specs.AnalysisRefusals as refusal
use Rattle.fancy_meaning.specs.CompileRefusals.{is_behind, IsAmong, here, there, written_parts, existence_with_level, control_verb, absent_in_hard_repeater, absent_other, variable_lookbehind, missing_group, no_class}
use Rattle.fancy_meaning.specs.Nodes.{is_absent}
use Rattle.fancy_meaning.specs.OpenCalls.{Depths}
use Rattle.fancy_meaning.specs.WellFormed.{is_call}
use Rattle.fancy_code.specs.Kinds.{is_out_of_range}
use Rattle.fancy_code.specs.Faults.{itself, below, through, Rejects, rejected, refused, out_of_range, Refusal, refused_as, too_deep, RefusesNone, IsCompilable, AreCompilable, IsRejected, HasRejected}
use Rattle.fancy_code.specs.Drafts.{Draft, Adds, Writes, written_code}
use Rattle.fancy_code.proofs.Writing.{adds_to}

-- ---- how deep nodes nest

pub one_less : (n : ℕ) → suc n - 1 ≡ n
one_less n = omega arith

module _ (whole : Tree) (calls : Depths) where
  -- a part that nests too deep where it stands
  pub over_part_room : (e : Tree) (room : Option ℕ) (c : Tree) → IsAmong c (written_parts e) → NestsOver whole calls (option_map (λ n. n - 1) room) c
      → NestsOver whole calls room e
  over_part_room e None c i h = h
  over_part_room e (Some zero) c i h = alone
  over_part_room e (Some (suc n)) c i h = over_part i (subst (λ m. NestsDeeper whole calls m c) (one_less n) h)

  -- what is no call nests too deep by its parts alone
  no_part_over : (e : Tree) (room : Option ℕ) → ForSome room (λ n. 0 < n) → is_call e ≡ false
      → ((c : Tree) → IsAmong c (written_parts e) → ¬ NestsOver whole calls (option_map (λ n. n - 1) room) c) → ¬ NestsOver whole calls room e
  no_part_over e None some plain each h = h
  no_part_over e (Some zero) some plain each h = absurd (omega (arith, some 0 refl))
  no_part_over e (Some (suc n)) some plain each (over_part {c = c} i h) = each c i (subst (λ m. NestsDeeper whole calls m c) (sym (one_less n)) h)
  no_part_over e (Some (suc n)) some plain each (over_called lt at h) = true≢false plain

-- ---- a node by its parts

accepted_among : (p : Site) (es : Trees) (c : Tree) → IsAmong c es → AreCompilable p (children es) → IsCompilable p c
accepted_among p none c i h = elim i [ ]
accepted_among p (more e es) c here h = h.0
accepted_among p (more e es) c (there i) h = accepted_among p es c i h.1

module _ (p : Site) where
  rejected_part : (d c : Tree) → IsAmong c (written_parts d) → (x : Refusal) → IsRejected (within_node p) c x → IsRejected p d x
  rejected_part d c i (refused_as x) h = record { node = h.node; is_below = below i h.is_below; rejects = h.rejects }
  rejected_part d c i too_deep h = over_part_room p.analysis.tree p.depths d p.room c i h

  rejected_among : (d : Tree) (es : Trees) → ((c : Tree) → IsAmong c es → IsAmong c (written_parts d)) → (x : Refusal)
      → HasRejected (within_node p) (children es) x → IsRejected p d x
  rejected_among d none sub x h = absurd h
  rejected_among d (more e es) sub x (inl h) = rejected_part d e (sub e here) x h
  rejected_among d (more e es) sub x (inr h) = rejected_among d es (λ c i. sub c (there i)) x h

  -- the node is not refused itself, and is no call
  abbrev pub IsFine : Tree → Type 0
  IsFine e = ((x : refusal.CompileError) → ¬ Rejects p.plan e x) × (is_call e ≡ false)

  refuses_none : (e : Tree) → IsFine e → AreCompilable (within_node p) (children (written_parts e)) → RefusesNone p e
  refuses_none e fine h d itself x r = fine.0 x r
  refuses_none e fine h d (below {c = c} i b) x r = (accepted_among (within_node p) (written_parts e) c i h).0 d b x r
  refuses_none e fine h d (through lt at b) x r = true≢false fine.1

  accepted_node : (e : Tree) → HasRoom p → IsFine e → AreCompilable (within_node p) (children (written_parts e)) → IsCompilable p e
  accepted_node e room fine h = (
    refuses_none e fine h,
    no_part_over p.analysis.tree p.depths e p.room room fine.1 (λ c i. (accepted_among (within_node p) (written_parts e) c i h).1),
  )

  -- a node that is not refused itself
  pub wrote_node : HasRoom p → (a : Laid) (e : Tree) (s t : Draft) → IsFine e → Adds (within_node p) a (children (written_parts e)) s t
      → Adds p a (e ∷ []) s t
  wrote_node room a e s t fine h =
      adds_to (within_node p) p a a (children (written_parts e)) (e ∷ []) s t t (omega arith) (λ x. x)
      (λ a. (accepted_node e room fine a, tt)) (λ x r. inl (rejected_among e (written_parts e) (λ c i. i) x r)) h refl refl

  -- a node that is this one is written as this one
  pub written_as : (call : ℕ → Bool → Code) (at_start in_hard : Bool) (d e : Tree) (s t : Draft) → d ≡ e
      → Writes p (written_code p call e at_start in_hard) (e ∷ []) s t → Writes p (written_code p call d at_start in_hard) (d ∷ []) s t
  written_as call at_start in_hard d e s t is h = subst (λ x. Writes p (written_code p call x at_start in_hard) (x ∷ []) s t) (sym is) h

  pub rejected_here : (e : Tree) (x : refusal.CompileError) → Rejects p.plan e x → HasRejected p (e ∷ []) (refused_as x)
  rejected_here e x r = inl (record { node = e; is_below = itself; rejects = rejected r })

  pub no_slot : (e : Tree) → is_out_of_range e ≡ true → HasRejected p (e ∷ []) (refused_as refusal.FeatureNotYetSupported)
  no_slot e h = rejected_here e refusal.FeatureNotYetSupported (out_of_range h)

-- ---- nodes that are not refused

-- no case of a refusal speaks of such a node
abbrev pub is_safe : Tree → Bool
is_safe (plain.LookAround look e) = not (is_behind look)
is_safe (plain.Delegate inner casei) = false
is_safe (plain.SubroutineCall g) = false
is_safe (plain.Control plain.Fail) = true
is_safe (plain.Control verb) = false
is_safe (plain.BackrefExists g (Some level)) = false
is_safe e = not (is_absent e)

differ : {X : Type 0} → (b : Bool) → b ≡ true → b ≡ false → X
differ b t f = absurd (true≢false (sym t ∙ f))

safe_verb : (verb : plain.Verb) → ¬ (verb ≡ plain.Fail) → is_safe (plain.Control verb) ≡ false
safe_verb plain.Fail h = absurd (h refl)
safe_verb plain.Accept h = refl
safe_verb plain.Commit h = refl
safe_verb plain.Skip h = refl
safe_verb plain.Prune h = refl

safe_absent : (e : Tree) → is_absent e ≡ true → is_safe e ≡ false
safe_absent (plain.AbsentRepeater e) h = refl
safe_absent (plain.AbsentStopper e) h = refl
safe_absent (plain.AbsentExpression a e) h = refl
safe_absent plain.AbsentClear h = refl
safe_absent e h = absurd (true≢false (sym h))

safe_no_call : (e : Tree) → is_safe e ≡ true → is_call e ≡ false
safe_no_call (plain.SubroutineCall g) h = sym h
safe_no_call e h = refl

not_refused : (p : Site) (e : Tree) → is_safe e ≡ true → is_out_of_range e ≡ false → (x : refusal.CompileError) → ¬ Rejects p.plan e x
not_refused p e safe ranged x (refused existence_with_level) = true≢false (sym safe)
not_refused p e safe ranged x (refused (control_verb {verb = verb} h)) = differ _ safe (safe_verb verb h)
not_refused p e safe ranged x (refused (absent_in_hard_repeater h i)) = true≢false (sym safe)
not_refused p e safe ranged x (refused (absent_other h n)) = differ _ safe (safe_absent e h)
not_refused p e safe ranged x (refused (variable_lookbehind h)) = true≢false (sym safe ∙ ap not h.is_lookbehind)
not_refused p e safe ranged x (refused (missing_group h)) = true≢false (sym safe)
not_refused p e safe ranged x (refused (no_class h)) = true≢false (sym safe)
not_refused p e safe ranged x (out_of_range h) = differ _ h ranged

pub safe_fine : (p : Site) (e : Tree) → is_safe e ≡ true → is_out_of_range e ≡ false → IsFine p e
safe_fine p e safe ranged = (not_refused p e safe ranged, safe_no_call e safe)

-- ---- nodes that are refused, and verbs

module _ (p : Site) (verb : plain.Verb) where
  pub wrong_verb : is_safe (plain.Control verb) ≡ false → HasRejected p (plain.Control verb ∷ []) (refused_as refusal.FeatureNotYetSupported)
  wrong_verb f =
      rejected_here p (plain.Control verb) refusal.FeatureNotYetSupported
      (refused (control_verb (λ e. differ _ (ap (λ v. is_safe (plain.Control v)) e) f)))

abbrev is_repeater_tree : Tree → Bool
is_repeater_tree (plain.AbsentRepeater e) = true
is_repeater_tree e = false

pub with_level : (p : Site) (g : ℕ) (level : _) → HasRejected p (plain.BackrefExists g (Some level) ∷ []) (refused_as refusal.FeatureNotYetSupported)
with_level p g level = rejected_here p (plain.BackrefExists g (Some level)) refusal.FeatureNotYetSupported (refused existence_with_level)

pub other_absent : (p : Site) (e : Tree) → is_absent e ≡ true → is_repeater_tree e ≡ false → HasRejected p (e ∷ []) (refused_as refusal.FeatureNotYetSupported)
other_absent p e h other =
    rejected_here p e refusal.FeatureNotYetSupported (refused (absent_other h (λ d is. differ _ (ap is_repeater_tree is) other)))
