-- From a sound state each way of a part takes as many characters as its size allows, and is sound.
use Rattle.std.proofs.Common.{◌≡◌, ℕ, suc, ◌≤◌, ⊎_elim, Bool, true, false, List, [], ◌∷◌, Contains, Option, Some, None, nat_eq, filter_map, refl, sym, ap, subst, ◌∙◌, arith, eq-eqb}
use Rattle.std.proofs.lemmas.Bool.{or_left, or_right}
use Rattle.std.proofs.lemmas.Option.{same_Some, none-some}
use Rattle.std.specs.List.{list_any, cons_option}
use Rattle.fancy_meaning.specs.Tree.{Tree, Trees, none, more, Alt, Backref}
use Rattle.fancy_meaning.specs.Nodes.{nodes, is_keep_out, is_read, read_by, read_groups}
use Rattle.fancy_meaning.specs.Places.{is_place, chars_between}
use Rattle.fancy_meaning.specs.MatchState.{MatchState, Span, Ways, moved_to, with_span, first_state, one_of}
use Rattle.fancy_meaning.specs.Ways.{Setting, ways_with, each_ways}
use Rattle.fancy_meaning.specs.Sizes.{Size, exactly, plus, either, any_of, size_of_group, each_size, known_of, size}
use Rattle.fancy_meaning.specs.Premises.{IsSoundFor, IsSoundState, IsSized}
use Rattle.fancy_laws.proofs.Every.{Every, no_item, item, every_append, every_weaker, every_contained}
use Rattle.fancy_laws.proofs.Looks.{IsLooking}
use Rattle.fancy_laws.proofs.Loops.{IsIterable}
use Rattle.fancy_laws.proofs.Characters.{chars_add, no_chars}
use Rattle.fancy_laws.proofs.Pieces.{IsMove}
use Rattle.fancy_laws.proofs.AtPlaces.{put_tells, spans_with}
use Rattle.fancy_laws.proofs.SizeRules.{IsTimes, no_times, once_more, sized_exactly, sized_plus, sized_either_left, sized_either_right}
use Rattle.fancy_laws.proofs.Rounds.{Refines, sized_refined, size_is_bounded}

-- where no `\K` is in the tree, the kept start is the same
abbrev pub KeepsStart : Tree → MatchState → MatchState → Type 0
KeepsStart whole s t = list_any is_keep_out (nodes whole) ≡ false → t.kept ≡ s.kept

-- a way that takes so many characters as the size allows
pub record IsSizedWay (q : Setting) (whole : Tree) (groups : ℕ → Bool) (z : Size) (s t : MatchState) : Type 0 where
  pub on : s.place ≤ t.place
  pub sound : IsSoundFor q whole groups t
  pub sized : IsSized z (chars_between q.text s.place t.place)
  pub kept : KeepsStart whole s t

-- so many ways of the size, one after the other
pub record IsIteratedWay (q : Setting) (whole : Tree) (groups : ℕ → Bool) (z : Size) (k : ℕ) (s t : MatchState) : Type 0 where
  pub on : s.place ≤ t.place
  pub sound : IsSoundFor q whole groups t
  pub times : IsTimes z k (chars_between q.text s.place t.place)
  pub kept : KeepsStart whole s t

-- a node of the list that passes a test
pub test_passes : (test : Tree → Bool) (es : List Tree) → Every (λ e. test e ≡ true → list_any test es ≡ true) es
test_passes test [] = no_item
test_passes test (e ∷ es) =
    item (λ p. or_left (test e) (list_any test es) p)
    (every_weaker (λ x f p. or_right (test e) (list_any test es) (f p)) (test_passes test es))

-- a back reference reads its group
read_found : (es : List Tree) → Every (λ e. (g : ℕ) → read_by e ≡ Some g → list_any (nat_eq g) (filter_map read_by es) ≡ true) es
read_found [] = no_item
read_found (e ∷ es) = go (read_by e) refl (read_found es)
  where
    go : (o : Option ℕ) → read_by e ≡ o →
        Every (λ x. (g : ℕ) → read_by x ≡ Some g → list_any (nat_eq g) (filter_map read_by es) ≡ true) es →
        Every (λ x. (g : ℕ) → read_by x ≡ Some g → list_any (nat_eq g) (cons_option o (filter_map read_by es)) ≡ true) (e ∷ es)
    go None is k = item (λ g same. absurd (none-some g (sym is ∙ same))) k
    go (Some h) is k = item
        (λ g same. or_left (nat_eq g h) (list_any (nat_eq g) (filter_map read_by es))
        (eq-eqb g h (sym (same_Some h g (sym is ∙ same)))))
        (every_weaker (λ x f g same. or_right (nat_eq g h) (list_any (nat_eq g) (filter_map read_by es)) (f g same)) k)

pub reference_reads : (whole : Tree) (g : ℕ) (casei : Bool) → Contains (nodes whole) (Backref g casei) → is_read whole g ≡ true
unfolding read_groups
reference_reads whole g casei c = every_contained (Backref g casei) (read_found (nodes whole)) c g refl

-- an attempt begins with a sound state
pub first_is_sound : (q : Setting) (whole : Tree) (start : ℕ) → is_place q.text start ≡ true → IsSoundState q whole (first_state start)
first_is_sound q whole start at =
    record { place = at; spans = λ g span e. absurd (none-some span e); sizes = λ g span read e. absurd (none-some span e) }

module _ (q : Setting) (whole : Tree) (groups : ℕ → Bool) where
  pub stays_there : (s t : MatchState) → t.place ≡ s.place → KeepsStart whole s t → IsSoundFor q whole groups t →
      IsSizedWay q whole groups (exactly 0) s t
  stays_there s t e kept is = record {
    on = omega (arith, e);
    sound = is;
    kept = kept;
    sized = subst (IsSized (exactly 0)) (sym (ap (chars_between q.text s.place) e ∙ no_chars q.text s.place)) (sized_exactly 0);
  }

  pub moved_sound : (s : MatchState) (i : ℕ) → IsSoundFor q whole groups s → is_place q.text i ≡ true → IsSoundFor q whole groups (moved_to i s)
  moved_sound s i is at = record { place = at; spans = is.spans; sizes = is.sizes }

  pub moves_on : (z : Size) (s : MatchState) (i n : ℕ) → IsSoundFor q whole groups s → IsMove q.text s.place i n → IsSized z n →
      IsSizedWay q whole groups z s (moved_to i s)
  moves_on z s i n is m sized =
      record { on = m.on; sound = moved_sound s i is m.to; sized = subst (IsSized z) (sym m.takes) sized; kept = λ none. refl }

  pub one_then : (a b : Size) (s t u : MatchState) → IsSizedWay q whole groups a s t → IsSizedWay q whole groups b t u →
      IsSizedWay q whole groups (plus a b) s u
  one_then a b s t u f g = record {
    on = omega (arith, f.on, g.on);
    sound = g.sound;
    sized = subst (IsSized (plus a b)) (sym (chars_add q.text s.place t.place u.place f.on g.on))
        (sized_plus a b (chars_between q.text s.place t.place) (chars_between q.text t.place u.place) f.sized g.sized);
    kept = λ none. g.kept none ∙ f.kept none;
  }

  pub resized : (a b : Size) (s t : MatchState) → ((n : ℕ) → IsSized a n → IsSized b n) → IsSizedWay q whole groups a s t →
      IsSizedWay q whole groups b s t
  resized a b s t h f = record { on = f.on; sound = f.sound; sized = h (chars_between q.text s.place t.place) f.sized; kept = f.kept }

  pub iterable : (z : Size) → IsIterable (IsSoundFor q whole groups) (IsSizedWay q whole groups z) (IsIteratedWay q whole groups z)
  iterable z = record {
    arrives = λ s t is f. f.sound;
    none = λ s is.
        record {
          on = omega arith;
          sound = is;
          times = subst (IsTimes z 0) (sym (no_chars q.text s.place)) (no_times z);
          kept = λ none. refl;
        };
    one_more = λ n s t u is f g. record {
      on = omega (arith, f.on, g.on);
      sound = g.sound;
      times = subst (IsTimes z (suc n)) (sym (chars_add q.text s.place t.place u.place f.on g.on))
          (once_more z n (chars_between q.text s.place t.place) (chars_between q.text t.place u.place) f.sized g.times);
      kept = λ none. g.kept none ∙ f.kept none;
    };
  }

  pub looking : (z : Size) → IsLooking q (IsSoundFor q whole groups) (IsSizedWay q whole groups z) (IsSizedWay q whole groups (exactly 0))
  looking z = record {
    stays = λ s is. stays_there s s refl (λ none. refl) is;
    restores = λ s t is f. stays_there s (moved_to s.place t) refl f.kept (moved_sound t s.place f.sound is.place);
    goes_back = λ s i is le at. moved_sound s i is at;
    comes_here = λ s t i is le at f here. stays_there s t here f.kept f.sound;
  }

  -- the span that a group's close sets has the size of the group
  pub captures_sound : (g : ℕ) (z : Size) (s t : MatchState) → Refines z (size_of_group (known_of whole) g) → IsSoundFor q whole groups s →
      IsSizedWay q whole groups z s t →
      IsSizedWay q whole groups z s (with_span g (s.place, t.place) t)
  captures_sound g z s t r is f = record {
    on = f.on;
    sound = record {
      place = (f.sound).place;
      spans = spans_with q.text t.captures g (s.place, t.place) (f.sound).spans
          (record { from = is.place; to = (f.sound).place; in_order = f.on });
      sizes = λ h span read e. ⊎_elim
          (λ (here : (h ≡ g) × ((s.place, t.place) ≡ span)).
          subst (λ x. IsSized (size_of_group (known_of whole) x) (chars_between q.text span.0 span.1)) (sym here.0)
          (subst (λ (x : Span). IsSized (size_of_group (known_of whole) g) (chars_between q.text x.0 x.1)) here.1
          (sized_refined z (size_of_group (known_of whole) g) (chars_between q.text s.place t.place) r f.sized)))
          (λ before. (f.sound).sizes h span read before)
          (put_tells t.captures g (s.place, t.place) h span e);
    };
    sized = f.sized;
    kept = f.kept;
  }

  -- the first branch, or a later one
  pub alt_more : (call : ℕ → Ways) (e : Tree) (es : Trees) (s : MatchState) →
      Every (IsSizedWay q whole groups (size whole e) s) (ways_with q call e s) →
      Every (IsSizedWay q whole groups (any_of (each_size (known_of whole) es)) s) (one_of (each_ways q call es) s) →
      Every (IsSizedWay q whole groups (any_of (each_size (known_of whole) (more e es))) s) (one_of (each_ways q call (more e es)) s)
  alt_more call e none s h k = every_append h no_item
  alt_more call e (more e' es) s h k =
      let rest = any_of (each_size (known_of whole) (more e' es)) in
      let first = size_is_bounded whole e in
      let later = size_is_bounded whole (Alt (more e' es)) in
      every_append
      (every_weaker
      (λ t. resized (size whole e) (either (size whole e) rest) s t (λ n. sized_either_left (size whole e) rest n first later)) h)
      (every_weaker
      (λ t. resized rest (either (size whole e) rest) s t (λ n. sized_either_right (size whole e) rest n first later)) k)
