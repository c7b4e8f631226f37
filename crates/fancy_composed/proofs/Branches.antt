-- Sequences, alternations and look-arounds over branches, from the simulation of each child.
use Rattle.std.proofs.Common.{◌≡◌, ℕ, ◌<◌, ◌-◌, Bool, true, false, ◌&&◌, not, is_some, if◌then◌else◌, List, [], ◌∷◌, ◌++◌, length, map, take, drop, reverse, take_while, take_all, flat_map, Option, Some, None, refl, sym, ap, ap₂, ◌∙◌, subst, arith, append-nil, map-id}
use Rattle.std.specs.Prelude.{slice_get}
use Rattle.std.proofs.lemmas.List.{map-append}
use Rattle.std.proofs.lemmas.List.Concat.{flat_map_single}
use Rattle.fancy_meaning.specs.Tree.{Tree, Trees, none, more}
use Rattle.fancy_meaning.specs.Places.{back_by}
use Rattle.fancy_meaning.specs.MatchState.{MatchState, Ways, stays, and_then, in_order, one_of, moved_to}
use Rattle.fancy_meaning.specs.Ways.{ways_with, each_ways, ends_here, unless}
use Rattle.fancy_meaning.specs.Sizes.{Size, size}
use Rattle.fancy_meaning.specs.Numbers.{usize_max}
use Rattle.fancy_meaning.specs.Batches.{batch}
use Rattle.fancy_meaning.specs.Code.{Code, nothing, ◌>>◌, in_turn, branches}
use Rattle.fancy_meaning.specs.Constructs.{behind_code, look_code, negative_look_code}
use Rattle.fancy_meaning.specs.Layout.{Part, written, each_part, concat_code, alt_code, body_code}
use Rattle.fancy_meaning.specs.Marks.{takes_nothing}
use Rattle.fancy_composed.proofs.Continuations.{Ground}
use Rattle.fancy_composed.proofs.Alike.{among_front, among_back}
use Rattle.fancy_composed.proofs.Parts.{at_place, Sound, setting, whole, Simulates, Keeps}
use Rattle.fancy_composed.proofs.Simulates.{simulates_as, simulates_nothing, simulates_next, simulates_branch}
use Rattle.fancy_composed.proofs.Behind.{Sized, back_is_behind, simulates_behind, simulates_not_behind}
use Rattle.fancy_composed.proofs.Absent.{keeps_unless, keeps_test}

-- no node is left to a plain search
abbrev pub never : Tree → Bool
never e = false

none_taken : (ws : List Part) → take_while (λ u. false) ws ≡ []
none_taken [] = refl
none_taken (u ∷ ws) = refl

module _ (w : Ground) (call : ℕ → Bool → Code) (meant : ℕ → Ways) where
  -- the code of a node, and its ways
  abbrev pub code_at : Tree → Bool → Bool → Code
  code_at e at_start in_hard = written w.plan never call e at_start in_hard

  abbrev pub means : Tree → Ways
  means e = ways_with (setting w) meant e

  abbrev pub size_of : Tree → Size
  size_of e = size (whole w) e

  -- each of these simulates its ways in this context
  abbrev pub EachSimulates : (at_start in_hard : Bool) → Trees → Type 0
  EachSimulates at_start in_hard none = Unit {0}
  EachSimulates at_start in_hard (more e es) =
      Simulates w (code_at e at_start in_hard) (means e) × EachSimulates (at_start && takes_nothing (whole w) e) in_hard es

  -- each of these leads on, by its size
  abbrev pub EachKnown : Trees → Type 0
  EachKnown none = Unit {0}
  EachKnown (more e es) = (Keeps w (means e) × Sized w (size_of e) (means e)) × EachKnown es

  abbrev pub EachConst : Trees → Type 0
  EachConst none = Unit {0}
  EachConst (more e es) = ((size_of e).is_const ≡ true) × EachConst es

  -- ---- a sequence

  concat_plain : (ws : List Part) (in_hard : Bool) →
      concat_code w.plan never ws in_hard ≡ (nothing >> in_turn (map (λ u. u.code true) ws) >> nothing)
  concat_plain ws in_hard =
      ap by_front (none_taken ws) ∙ ap by_back (none_taken (reverse ws))
      ∙ ap (λ l. nothing >> in_turn (map (λ u. u.code true) l) >> nothing) (take_all (length ws - 0) ws (omega arith))
    where
      by_front : List Part → Code
      by_front front =
          let rest = drop (length front) ws in
          let back = reverse (take_while (λ u. false) (reverse rest)) in
          batch (w.plan).unicode (map (λ u. u.tree) front) >> in_turn
          (map (λ u. u.code true) (take (length rest - length back) rest)) >> batch (w.plan).unicode (map (λ u. u.tree) back)

      by_back : List Part → Code
      by_back ends =
          nothing >> in_turn (map (λ u. u.code true) (take (length ws - length (reverse ends)) ws)) >> batch (w.plan).unicode
          (map (λ u. u.tree) (reverse ends))

  in_turn_works : (es : Trees) (at_start : Bool) → EachSimulates at_start true es → EachKnown es → Simulates w
      (in_turn (map (λ u. u.code true) (each_part w.plan never call at_start es))) (in_order (each_ways (setting w) meant es))
  in_turn_works none at_start u k = simulates_nothing w
  in_turn_works (more e es) at_start u k =
      simulates_next w _ _ _ _ u.0 k.0.0 (in_turn_works es (at_start && takes_nothing (whole w) e) u.1 k.1)

  keeps_stays : Keeps w stays
  keeps_stays = keeps_test w (λ s. true)

  pub concat_simulates : (es : Trees) (at_start in_hard : Bool) → EachSimulates at_start true es → EachKnown es →
      Keeps w (in_order (each_ways (setting w) meant es)) → Simulates w
      (concat_code w.plan never (each_part w.plan never call at_start es) in_hard) (in_order (each_ways (setting w) meant es))
  concat_simulates es at_start in_hard u k keeps =
      let all = in_order (each_ways (setting w) meant es) in
      let inner = in_turn (map (λ u. u.code true) (each_part w.plan never call at_start es)) in
      subst (λ c. Simulates w c all) (sym (concat_plain (each_part w.plan never call at_start es) in_hard))
      (simulates_as w all
      (simulates_next w nothing (inner >> nothing) stays (and_then all stays) (simulates_nothing w) keeps_stays
      (simulates_next w inner nothing all stays (in_turn_works es at_start u k) keeps (simulates_nothing w)))
      (λ s ok. append-nil (and_then all stays s) ∙ flat_map_single (λ t. t) (all s) ∙ map-id (all s)))

  -- ---- an alternation

  pub alt_simulates : (e : Tree) (es : Trees) (in_hard : Bool) → EachSimulates false in_hard (more e es) → Simulates w
      (alt_code (each_part w.plan never call false (more e es)) in_hard)
      (one_of (each_ways (setting w) meant (more e es)))
  alt_simulates e none in_hard u = simulates_as w (one_of (means e ∷ [])) u.0 (λ s ok. sym (append-nil (means e s)))
  alt_simulates e (more d ds) in_hard u = simulates_branch w _ _ _ _ u.0 (alt_simulates d ds in_hard u.1)

  -- ---- lookbehind by branches

  module _ (fits : length (w.task).text < usize_max) where
    pub behind_each : (e : Tree) (es : Trees) → EachSimulates false false (more e es) → EachKnown (more e es) →
        EachConst (more e es) → Simulates w
        (branches (map (behind_code look_code) (map (body_code w.plan) (each_part w.plan never call false (more e es)))))
        (one_of (map (ends_here (setting w)) (each_ways (setting w) meant (more e es))))
    behind_each e none u k c =
        simulates_as w (one_of (ends_here (setting w) (means e) ∷ []))
        (simulates_behind w (size_of e) (means e) c.0 k.0.1 k.0.0 fits (code_at e false false) u.0)
        (λ s ok. sym (append-nil (ends_here (setting w) (means e) s)))
    behind_each e (more d ds) u k c =
        simulates_branch w _ _ _ _ (simulates_behind w (size_of e) (means e) c.0 k.0.1 k.0.0 fits (code_at e false false) u.0)
        (behind_each d ds u.1 k.1 c.1)

    unless_next : (f : Ways) (fs : List Ways) (s : MatchState) (hs : List MatchState) → f s ≡ hs →
        and_then (unless f) (unless (one_of fs)) s ≡ unless (one_of (f ∷ fs)) s
    unless_next f fs s [] e =
        ap (λ l. flat_map (unless (one_of fs)) (if not (is_some (slice_get l 0)) then s ∷ [] else [])) e
        ∙ append-nil (unless (one_of fs) s)
        ∙ sym (ap (λ l. if not (is_some (slice_get (l ++ one_of fs s) 0)) then s ∷ [] else []) e)
    unless_next f fs s (h ∷ hs) e =
        ap (λ l. flat_map (unless (one_of fs)) (if not (is_some (slice_get l 0)) then s ∷ [] else [])) e
        ∙ sym (ap (λ l. if not (is_some (slice_get (l ++ one_of fs s) 0)) then s ∷ [] else []) e)

    pub not_behind_each : (es : Trees) → EachSimulates false false es → EachKnown es → EachConst es → Simulates w
        (in_turn (map (behind_code negative_look_code) (map (body_code w.plan) (each_part w.plan never call false es))))
        (unless (one_of (map (ends_here (setting w)) (each_ways (setting w) meant es))))
    not_behind_each none u k c = simulates_as w (unless (one_of [])) (simulates_nothing w) (λ s ok. refl)
    not_behind_each (more e es) u k c =
        simulates_as w
        (unless (one_of (ends_here (setting w) (means e) ∷ map (ends_here (setting w)) (each_ways (setting w) meant es))))
        (simulates_next w _ _ (unless (ends_here (setting w) (means e))) (unless (one_of (map (ends_here (setting w)) (each_ways (setting w) meant es))))
        (simulates_not_behind w (size_of e) (means e) c.0 k.0.1 k.0.0 fits (code_at e false false) u.0)
        (keeps_unless w (ends_here (setting w) (means e))) (not_behind_each es u.1 k.1 c.1))
        (λ s ok.
        unless_next (ends_here (setting w) (means e)) (map (ends_here (setting w)) (each_ways (setting w) meant es)) s
        (ends_here (setting w) (means e) s) refl)

  -- ---- of one size, all branches end at one place

  module _ (z : Size) (const : z.is_const ≡ true) (fits : length (w.task).text < usize_max) where
    one_back : (s : MatchState) (fs : List Ways) (o : Option ℕ) → back_by (w.task).text z.least s.place ≡ o → Sound w s →
        Sized w z (one_of fs) → Keeps w (one_of fs) →
        map (moved_to s.place) (flat_map (one_of fs) (at_place s o)) ≡ one_of (map (ends_here (setting w)) fs) s
    one_back s [] None e ok sized keeps = refl
    one_back s [] (Some i) e ok sized keeps = refl
    one_back s (f ∷ fs) o e ok sized keeps =
        split o
        ∙ ap₂ (λ hs ks. hs ++ ks)
        (ap (λ p. map (moved_to s.place) (flat_map f (at_place s p))) (sym e)
        ∙ back_is_behind w z f const (λ a t so m. sized a t so (among_front (f a) (one_of fs a) m))
        (λ a t so m. keeps a t so (among_front (f a) (one_of fs a) m)) fits s ok)
        (one_back s fs o e ok (λ a t so m. sized a t so (among_back (f a) (one_of fs a) m))
        (λ a t so m. keeps a t so (among_back (f a) (one_of fs a) m)))
      where
        split : (p : Option ℕ) → map (moved_to s.place) (flat_map (one_of (f ∷ fs)) (at_place s p)) ≡ map (moved_to s.place)
            (flat_map f (at_place s p)) ++ map (moved_to s.place) (flat_map (one_of fs) (at_place s p))
        split None = refl
        split (Some i) =
            let x = moved_to i s in
            ap (map (moved_to s.place)) (append-nil (f x ++ one_of fs x))
            ∙ map-append (moved_to s.place) (f x) (one_of fs x)
            ∙ sym
            (ap₂ (λ hs ks. map (moved_to s.place) hs ++ map (moved_to s.place) ks) (append-nil (f x)) (append-nil (one_of fs x)))

    pub ends_by_branch : (s : MatchState) (fs : List Ways) → Sound w s → Sized w z (one_of fs) → Keeps w (one_of fs) →
        ends_here (setting w) (one_of fs) s ≡ one_of (map (ends_here (setting w)) fs) s
    ends_by_branch s fs ok sized keeps =
        sym (back_is_behind w z (one_of fs) const sized keeps fits s ok)
        ∙ one_back s fs (back_by (w.task).text z.least s.place) refl ok sized keeps
