-- Ways that are enumerated for others in a context: by the key in a hard context, and by the easy key, from each place at or
-- before the state's, in an easy one. What each construct makes of them.
use Rattle.std.proofs.Common.{◌≡◌, ℕ, ◌≤◌, Bool, true, false, not, ◌||◌, if◌then◌else◌, List, [], ◌∷◌, ◌++◌, is_some, refl, sym, ap, ◌∙◌, subst, arith}
use Rattle.fancy_meaning.specs.Nodes.{is_read}
use Rattle.fancy_meaning.specs.MatchState.{MatchState, Span, Ways, stays, fails, and_then, in_order, one_of, has_way, moved_to, with_span}
use Rattle.fancy_meaning.specs.Ways.{Setting, captured, ahead, unless, atomic, conditional}
use Rattle.fancy_meaning.specs.Options.{Plan}
use Rattle.fancy_meaning.specs.Keys.{Key, key, easy_key}
use Rattle.fancy_meaning.specs.Premises.{IsSoundState}
use Rattle.fancy_laws.proofs.Every.{Every, no_item, item}
use Rattle.fancy_delegation.proofs.Pairwise.{neither, both, pairs_flat_map, pairs_weaken}
use Rattle.fancy_delegation.proofs.Reduced.{Same}
use Rattle.fancy_delegation.proofs.AlikeLoops.{WaysAlike}
use Rattle.fancy_delegation.proofs.KeyParts.{Agree, key_gives, easy_key_tells, easy_key_gives, easy_is_coarser, key_goes_along}
use Rattle.fancy_delegation.proofs.EasyKeeps.{read_in_is_read, other_span}
use Rattle.fancy_delegation.proofs.Evenly.{IsOnward, KeepsSound, TakesSome, sound_stays, sound_next}
use Rattle.fancy_delegation.proofs.IsRefined.{IsRefined, refined_same, refined_every, refined_equal, refined_coarser, refined_append, refined_map, refined_flat_map, refined_head, refined_first, refined_conditional}

module _ (p : Plan) where
  -- the key of a context
  abbrev pub context_key : Bool → ℕ → Key
  context_key in_hard from = if in_hard then key p else easy_key p from

  pub hard_refines : (in_hard : Bool) (from : ℕ) (s t : MatchState) → Same (key p) s t → Same (context_key in_hard from) s t
  hard_refines true from s t e = e
  hard_refines false from s t e = easy_is_coarser p from s t e

  pub context_refines : (in_hard : Bool) (from : ℕ) (s t : MatchState) → Same (context_key in_hard from) s t → Same (easy_key p from) s t
  context_refines true from s t e = easy_is_coarser p from s t e
  context_refines false from s t e = e

  -- states of one easy key, moved to one place, have one key
  pub back_together : (in_hard : Bool) (from before i : ℕ) (s t : MatchState) → Same (easy_key p before) s t →
      Same (context_key in_hard from) (moved_to i s) (moved_to i t)
  back_together in_hard from before i s t e =
      let a = (easy_key_tells p before s t e).1 in
      hard_refines in_hard from (moved_to i s) (moved_to i t)
      (key_gives p (moved_to i s) (moved_to i t) refl (record { kept = a.kept; flag = a.flag; spans = a.spans }))

  -- a group's span keeps the key of the context, where the body of a group that is read stands in a hard one
  unread_span : (g : ℕ) (span span' : Span) (s t : MatchState) → is_read p.analysis.tree g ≡ false → Agree p s t →
      Agree p (with_span g span s) (with_span g span' t)
  unread_span g span span' s t unread a = record {
    kept = a.kept;
    flag = a.flag;
    spans = λ i r.
        let other : (i ≡ g) → ⊥ = λ e. let read = ap (is_read p.analysis.tree) (sym e) ∙ read_in_is_read p i r in cc in
        sym (other_span g i span s other) ∙ a.spans i r ∙ other_span g i span' t other;
  }

  pub span_keeps : (in_hard : Bool) (from g start : ℕ) (s t : MatchState) (read : Bool) →
      is_read p.analysis.tree g ≡ read → Same (context_key (in_hard || read) from) s t →
      Same (context_key in_hard from) (with_span g (start, s.place) s) (with_span g (start, t.place) t)
  span_keeps true from g start s t read e same = (key_goes_along p).spans g start s t same
  span_keeps false from g start s t true e same =
      easy_is_coarser p from (with_span g (start, s.place) s) (with_span g (start, t.place) t)
      ((key_goes_along p).spans g start s t same)
  span_keeps false from g start s t false e same =
      let both = easy_key_tells p from s t same in
      easy_key_gives p from (with_span g (start, s.place) s) (with_span g (start, t.place) t) both.0
      (unread_span g (start, s.place) (start, t.place) s t e both.1)

module _ (p : Plan) (q : Setting) where
  -- ways that go forward from sound states to sound states, and respect the key
  pub record IsPart (f : Ways) : Type 0 where
    pub sound : KeepsSound q p.analysis.tree f
    pub respects : WaysAlike (Same (key p)) f f

  -- from each sound state k enumerates a list that refines that of f in the context, and has only states of it
  pub record EqualUpTo (in_hard : Bool) (k f : Ways) : Type 0 where
    pub by : (s : MatchState) (from : ℕ) → IsSoundState q p.analysis.tree s → from ≤ s.place → IsRefined (Same (context_key p in_hard from)) (k s) (f s)

  -- ---- parts

  pub part_stays : IsPart stays
  part_stays = record { sound = sound_stays q p.analysis.tree; respects = λ s t r. both r neither }

  pub part_next : (f g : Ways) → IsPart f → IsPart g → IsPart (and_then f g)
  part_next f g h k = record {
    sound = sound_next q p.analysis.tree f g h.sound k.sound;
    respects = λ s t r. pairs_flat_map g g k.respects (h.respects s t r);
  }

  pub part_in_order : {fs : List Ways} → Every IsPart fs → IsPart (in_order fs)
  part_in_order no_item = part_stays
  part_in_order (item {x = f} {xs = fs} h hs) = part_next f (in_order fs) h (part_in_order hs)

  -- ---- in any context

  pub key_equal_same : (in_hard : Bool) (f : Ways) → EqualUpTo in_hard f f
  key_equal_same in_hard f = record { by = λ s from sound le. refined_same }

  pub key_equal_as : (in_hard : Bool) (k f g : Ways) → ((s : MatchState) → IsSoundState q p.analysis.tree s → f s ≡ g s) →
      EqualUpTo in_hard k f → EqualUpTo in_hard k g
  key_equal_as in_hard k f g e h =
      record {
        by =
            λ s from sound le. subst (λ l. IsRefined (Same (context_key p in_hard from)) (k s) l) (e s sound)
            (h.by s from sound le);
      }

  pub key_equal_by : (in_hard : Bool) (k l f : Ways) → ((s : MatchState) → IsSoundState q p.analysis.tree s → k s ≡ l s) →
      EqualUpTo in_hard k f → EqualUpTo in_hard l f
  key_equal_by in_hard k l f e h =
      record {
        by =
            λ s from sound le. subst (λ x. IsRefined (Same (context_key p in_hard from)) x (f s)) (e s sound)
            (h.by s from sound le);
      }

  pub key_equal_where_equal : (in_hard : Bool) (k f : Ways) → ((s : MatchState) → IsSoundState q p.analysis.tree s → k s ≡ f s) → EqualUpTo in_hard k f
  key_equal_where_equal in_hard k f e = record { by = λ s from sound le. refined_equal (e s sound) }

  -- what refines in a hard context refines in any
  pub hard_key_equal : (in_hard : Bool) (k f : Ways) → EqualUpTo true k f → EqualUpTo in_hard k f
  hard_key_equal in_hard k f h = record { by = λ s from sound le. refined_coarser (hard_refines p in_hard from) (h.by s from sound le) }

  -- a part in a hard context, and then one in this context
  pub key_equal_next : (in_hard : Bool) (k f l g : Ways) → IsPart f → IsPart g → EqualUpTo true k f → EqualUpTo in_hard l g →
      EqualUpTo in_hard (and_then k l) (and_then f g)
  key_equal_next in_hard k f l g part after h rest = record {
    by = λ s from sound le.
        refined_flat_map {P = IsOnward q p.analysis.tree s} l g (k s) (f s)
        (λ x y r. pairs_weaken (hard_refines p in_hard from) (after.respects x y r))
        (λ x on. rest.by x from on.sound (omega (arith, le, on.on))) (part.sound s sound) (h.by s 0 sound (omega arith));
  }

  -- several, all but the last in a hard context
  pub data EachEqualUpTo (in_hard : Bool) : List Ways → List Ways → Type 0 where
    no_part : EachEqualUpTo in_hard [] []
    and_part : {k f : Ways} {ks fs : List Ways} → EqualUpTo in_hard k f → EachEqualUpTo in_hard ks fs → EachEqualUpTo in_hard (k ∷ ks) (f ∷ fs)

  pub key_equal_in_order : {ks fs : List Ways} → Every IsPart fs → EachEqualUpTo true ks fs → EqualUpTo true (in_order ks) (in_order fs)
  key_equal_in_order no_item no_part = key_equal_same true stays
  key_equal_in_order (item part parts) (and_part {k = k} {f = f} {ks = ks} {fs = fs} h hs) =
      key_equal_next true k f (in_order ks) (in_order fs) part (part_in_order parts) h (key_equal_in_order parts hs)

  pub key_equal_or_else : (in_hard : Bool) (k f l g : Ways) → EqualUpTo in_hard k f → EqualUpTo in_hard l g → EqualUpTo in_hard (λ s. k s ++ l s) (λ s. f s ++ g s)
  key_equal_or_else in_hard k f l g h i =
      record {
        by =
            λ s from sound le. refined_append (k s) (f s) (l s) (g s) (h.by s from sound le) (i.by s from sound le);
      }

  pub key_equal_one_of : (in_hard : Bool) {ks fs : List Ways} → EachEqualUpTo in_hard ks fs → EqualUpTo in_hard (one_of ks) (one_of fs)
  key_equal_one_of in_hard no_part = key_equal_same in_hard fails
  key_equal_one_of in_hard (and_part {k = k} {f = f} {ks = ks} {fs = fs} h hs) =
      key_equal_or_else in_hard k f (one_of ks) (one_of fs) h (key_equal_one_of in_hard hs)

  -- the body of a group stands in a hard context where the group is read
  pub key_equal_group : (in_hard : Bool) (g : ℕ) (k f : Ways) → EqualUpTo (in_hard || is_read p.analysis.tree g) k f →
      EqualUpTo in_hard (captured g k) (captured g f)
  key_equal_group in_hard g k f h = record {
    by = λ s from sound le.
        refined_map (λ t. with_span g (s.place, t.place) t) (k s) (f s)
        (λ x y r. span_keeps p in_hard from g s.place x y (is_read p.analysis.tree g) refl r) (h.by s from sound le);
  }

  pub key_equal_conditional : (in_hard : Bool) (c c' t t' f f' : Ways) → IsPart c' → EqualUpTo in_hard c c' →
      EqualUpTo in_hard t t' → EqualUpTo in_hard f f' → EqualUpTo in_hard (conditional c t f) (conditional c' t' f')
  key_equal_conditional in_hard c c' t t' f f' part h i j = record {
    by = λ s from sound le.
        refined_conditional {P = IsOnward q p.analysis.tree s} t t' f f' s (c s) (c' s) (refined_head (h.by s from sound le))
        (λ x on. i.by x from on.sound (omega (arith, le, on.on))) (j.by s from sound le) (part.sound s sound);
  }

  -- ---- bodies in an easy context

  -- a body has a way where the other has one, whatever its context is
  pub same_way : (inner : Bool) (k f : Ways) → EqualUpTo inner k f → (s : MatchState) → IsSoundState q p.analysis.tree s → has_way k s ≡ has_way f s
  same_way inner k f h s sound = ap is_some (refined_head (h.by s 0 sound (omega arith)))

  pub key_equal_atomic : (in_hard : Bool) (k f : Ways) → EqualUpTo false k f → EqualUpTo in_hard (atomic k) (atomic f)
  key_equal_atomic in_hard k f h = key_equal_where_equal in_hard (atomic k) (atomic f) (λ s sound. refined_first (h.by s 0 sound (omega arith)))

  pub key_equal_unless : (inner in_hard : Bool) (k f : Ways) → EqualUpTo inner k f → EqualUpTo in_hard (unless k) (unless f)
  key_equal_unless inner in_hard k f h =
      key_equal_where_equal in_hard (unless k) (unless f) (λ s sound. ap (λ v. if not v then s ∷ [] else []) (same_way inner k f h s sound))

  pub key_equal_ahead : (in_hard : Bool) (k f : Ways) → EqualUpTo false k f → EqualUpTo in_hard (ahead k) (ahead f)
  key_equal_ahead in_hard k f h = record {
    by = λ s from sound le. refined_map (moved_to s.place) (k s) (f s) (back_together p in_hard from 0 s.place) (h.by s 0 sound (omega arith));
  }

  -- ---- what is enumerated

  -- it is sound and goes forward, and takes something where the ways do
  pub handed_sound : (in_hard : Bool) (k f : Ways) → IsPart f → EqualUpTo in_hard k f → KeepsSound q p.analysis.tree k
  handed_sound in_hard k f part h s sound = refined_every (h.by s 0 sound (omega arith)) (part.sound s sound)

  pub handed_takes_some : (in_hard : Bool) (k f : Ways) → TakesSome q p.analysis.tree f → EqualUpTo in_hard k f → TakesSome q p.analysis.tree k
  handed_takes_some in_hard k f some h s sound = refined_every (h.by s 0 sound (omega arith)) (some s sound)
