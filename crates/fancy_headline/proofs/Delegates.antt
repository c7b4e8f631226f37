-- A delegate enumerates the first way of its nodes: it is run from empty captures, and its pairs are laid over the slots.
use Rattle.std.proofs.Common.{◌≡◌, ℕ, ◌+◌, ◌*◌, ◌/◌, ◌%◌, ◌<◌, ◌≤◌, ◌⊎◌, inl, inr, ⊎_elim, Bool, true, ◌&&◌, if◌then◌else◌, List, take, Option, Some, None, refl, sym, ap, ap₂, ◌∙◌, arith}
use Rattle.std.specs.Prelude.{slice_get}
use Rattle.fancy_meaning.specs.Tree.{Tree, Group}
use Rattle.fancy_meaning.specs.Nodes.{nodes, group_count}
use Rattle.fancy_meaning.specs.MatchState.{MatchState, Span, Ways, fails, first_state}
use Rattle.fancy_meaning.specs.Ways.{Setting, ways_with}
use Rattle.fancy_meaning.specs.Instr.{Instr}
use Rattle.fancy_meaning.specs.Batches.{fragment}
use Rattle.fancy_meaning.specs.Code as code
use Rattle.fancy_meaning.specs.Config.{Slots, Branch, with_pairs, number_in}
use Rattle.fancy_meaning.specs.Machine.{takes_way}
use Rattle.fancy_meaning.specs.Enumerates.{start_number, end_number}
use Rattle.fancy_laws.proofs.Every.{Every, no_item, item, every_flat_map, every_weaker}
use Rattle.fancy_delegation.proofs.Items.{IsIn}
use Rattle.fancy_delegation.proofs.Everywhere.{everywhere_from}
use Rattle.fancy_delegation.proofs.Related.{ways_related}
use Rattle.fancy_delegation.proofs.Kept.{IsKept, EachKept, relates_kept}
use Rattle.fancy_delegation.proofs.Pairwise.{Pairwise, neither, both}
use Rattle.fancy_delegation.proofs.EasyKeeps.{other_span}
use Rattle.fancy_delegation.proofs.Fragments.{laid_over, IsOver, over_first_state, fragment_ways, fragment_over}
use Rattle.fancy_composed.proofs.Continuations.{Tally, Ground, to_eq, here, go, after, failed, step_at_pc}
use Rattle.fancy_composed.proofs.Enumerates.{Enumerates, none, one, from}
use Rattle.fancy_composed.proofs.Parts.{setting, flag, flag_is, whole, Stands, After, Simulates}
use Rattle.fancy_composed.proofs.Alike.{alike_same}
use Rattle.fancy_delegation.proofs.EasyNodes.{IsEasy}
use Rattle.fancy_meaning.specs.Numbers.{usize_max}

-- ---- the groups that a part sets

-- each group has a number from 1 to the count
abbrev pub HasGroups : ℕ → Tree → Type 0
HasGroups count (Group g e) = (0 < g) × (g ≤ count)
HasGroups count e = Unit {0}

-- no group has this number
abbrev pub IsUnused : ℕ → ℕ → Type 0
IsUnused count g = (g ≡ 0) ⊎ (count < g)

abbrev pub SameUnused : ℕ → MatchState → MatchState → Type 0
SameUnused count s t = (g : ℕ) → IsUnused count g → s.captures g ≡ t.captures g

unused_is_kept : (count : ℕ) → IsKept (HasGroups count) (SameUnused count)
unused_is_kept count = record {
  same = λ s g u. refl;
  on = λ s t u a b g v. a g v ∙ b g v;
  to_place = λ s i le g u. refl;
  back = λ s t a. a;
  before = λ s t i e a. a;
  meets_end = λ w x s ok e g u. refl;
  keeps = λ s ok g u. refl;
  spans = λ g e span s t ok a i u.
      a i u
      ∙ other_span g i span t
      (λ q. ⊎_elim {C = ⊥} (λ z. let pos = ok.0 in omega (arith, z, q, pos)) (λ lt. let le = ok.1 in omega (arith, lt, q, le)) u);
}

module _ (count : ℕ) (q : Setting) where
  unused_kept : (e : Tree) → ((d : Tree) → IsIn d (nodes e) → HasGroups count d) →
      EachKept (SameUnused count) (ways_with q (λ g. fails) e)
  unused_kept e k =
      ways_related q (HasGroups count) (λ w w'. EachKept (SameUnused count) w)
      (relates_kept q (HasGroups count) (SameUnused count) (unused_is_kept count))
      (λ g. fails) (λ g. fails) (λ g ok s. no_item) e (everywhere_from (HasGroups count) e k)

  pub fragment_unused : {es : List Tree} → Every (λ e. (d : Tree) → IsIn d (nodes e) → HasGroups count d) es →
      EachKept (SameUnused count) (fragment_ways q (λ g. fails) es)
  fragment_unused no_item s = item (λ g u. refl) no_item
  fragment_unused (item {x = e} {xs = es} k ks) s =
      every_flat_map (fragment_ways q (λ g. fails) es)
      (λ t r. every_weaker (λ u r' g v. r g v ∙ r' g v) (fragment_unused ks t)) (unused_kept e k s)

-- ---- the pairs over the slots

even_half : (g : ℕ) → (2 * g) / 2 ≡ g
even_half g = omega arith

even_rest : (g : ℕ) → (2 * g) % 2 ≡ 0
even_rest g = omega arith

odd_half : (g : ℕ) → (2 * g + 1) / 2 ≡ g
odd_half g = omega arith

odd_rest : (g : ℕ) → (2 * g + 1) % 2 ≡ 1
odd_rest g = omega arith

pair_start : (captures : ℕ → Option Span) (slots : Slots) (g : ℕ) →
    with_pairs captures slots (2 * g) ≡ number_in (captures g) 0 (slots (2 * g))
pair_start captures slots g = ap₂ (λ i r. number_in (captures i) r (slots (2 * g))) (even_half g) (even_rest g)

pair_end : (captures : ℕ → Option Span) (slots : Slots) (g : ℕ) →
    with_pairs captures slots (2 * g + 1) ≡ number_in (captures g) 1 (slots (2 * g + 1))
pair_end captures slots g = ap₂ (λ i r. number_in (captures i) r (slots (2 * g + 1))) (odd_half g) (odd_rest g)

start_over : (o below : Option Span) (n : ℕ) → n ≡ start_number below → number_in o 0 n ≡ start_number (laid_over o below)
start_over None below n e = e
start_over (Some (i, j)) below n e = refl

end_over : (o below : Option Span) (n : ℕ) → n ≡ end_number below → number_in o 1 n ≡ end_number (laid_over o below)
end_over None below n e = e
end_over (Some (i, j)) below n e = refl

-- a slot of no group is left alone
pair_none : (captures : ℕ → Option Span) (slots : Slots) (k : ℕ) → captures (k / 2) ≡ None →
    with_pairs captures slots k ≡ slots k
pair_none captures slots k e = ap (λ o. number_in o (k % 2) (slots k)) e

-- what a delegate leaves alone besides
pub record IsSteady (end_text : Bool) (s h : MatchState) : Type 0 where
  pub kept : s.kept ≡ h.kept
  pub flag : (end_text && s.text_end) ≡ (end_text && h.text_end)

module _ (w : Ground) where
  -- all groups of the node have numbers of the tree
  abbrev pub IsNumbered : Tree → Type 0
  IsNumbered e = (d : Tree) → IsIn d (nodes e) → HasGroups (group_count (whole w)) d

  laid_stands : (s h k : MatchState) (slots : Slots) → Stands w s slots → IsOver s.captures h k →
      IsSteady (w.plan).end_text s h →
      SameUnused (group_count (whole w)) (first_state s.place) k → Stands w h (with_pairs k.captures slots)
  laid_stands s h k slots st over steady unused = record {
    kept = pair_none k.captures slots 0 (sym (unused (0 / 2) (inl (omega arith)))) ∙ st.kept ∙ steady.kept;
    starts = λ g lo hi.
        pair_start k.captures slots g ∙ start_over (k.captures g) (s.captures g) (slots (2 * g)) (st.starts g lo hi)
        ∙ ap start_number (sym (over.spans g));
    ends = λ g lo hi.
        pair_end k.captures slots g ∙ end_over (k.captures g) (s.captures g) (slots (2 * g + 1)) (st.ends g lo hi)
        ∙ ap end_number (sym (over.spans g));
    flagged = λ e.
        pair_none k.captures slots (flag w) (sym (unused (flag w / 2) (inr (omega (arith, flag_is w)))))
        ∙ st.flagged e ∙ ap (λ v. if v then 1 else usize_max) (same_flag (sym (w.fits).end_text ∙ e));
  }
    where
      same_flag : (w.plan).end_text ≡ true → s.text_end ≡ h.text_end
      same_flag on = sym (ap (λ v. v && s.text_end) on) ∙ steady.flag ∙ ap (λ v. v && h.text_end) on

  laid_after : (n : ℕ) (s h k : MatchState) (slots : Slots) → Stands w s slots → IsOver s.captures h k →
      IsSteady (w.plan).end_text s h →
      SameUnused (group_count (whole w)) (first_state s.place) k → After w n n slots h (with_pairs k.captures slots)
  laid_after n s h k slots st over steady unused = record {
    stands = laid_stands s h k slots st over steady unused;
    keeps = λ i lo out.
        pair_none k.captures slots i
        (sym (unused (i / 2)
        (⊎_elim {C = IsUnused (group_count (whole w)) (i / 2)} (λ one. inl (omega (arith, one)))
        (λ le. inr (omega (arith, flag_is w, le))) lo)));
  }

  -- from the first way of the nodes from empty captures, if there is one
  first_handed : (a b n : ℕ) (s : MatchState) (slots : Slots) (marks : List ℕ) (bs : List Branch) (count : Tally) → a + 1 ≡ b →
      Stands w s slots →
      {hs ks : List MatchState} → Pairwise (IsOver s.captures) hs ks → Every (IsSteady (w.plan).end_text s) hs →
      Every (SameUnused (group_count (whole w)) (first_state s.place)) ks →
      Enumerates w b (After w n n slots) marks bs count.longest (take 1 hs)
      (after w.task (takes_way w.task (here w a s.place slots marks bs count) (slice_get ks 0)))
  first_handed a b n s slots marks bs count e st neither no_item no_item =
      none count (failed w bs (here w a s.place slots marks bs count) refl)
  first_handed a b n s slots marks bs count e st (both {x = h} {y = k} over rest) (item steady hs) (item unused ks) =
      one w (with_pairs k.captures slots) count (laid_after n s h k slots st over steady unused)
      (to_eq (λ m. ap₂ (λ x y. go w x y (with_pairs k.captures slots) marks bs count m) e (sym over.place)))

  -- the instruction of a delegate
  pub simulates_delegate : (pattern : List ℕ) (groups : Option (ℕ × ℕ)) (es : List Tree) (call : ℕ → Ways) →
      Every (IsEasy (w.plan).analysis) es → Every IsNumbered es →
      ((s : MatchState) → Every (IsSteady (w.plan).end_text s) (fragment_ways (setting w) call es s)) →
      Simulates w (code.one (Instr.Delegate pattern (fragment (w.plan).unicode es) groups))
      (λ s. take 1 (fragment_ways (setting w) call es s))
  simulates_delegate pattern groups es call easy numbered steady = record {
    grows = λ a n. omega arith;
    handed = λ s. take 1 (fragment_ways (setting w) call es s);
    alike = λ s ok. alike_same (take 1 (fragment_ways (setting w) call es s));
    part = λ a b n e fresh h. record {
      enumerates = λ s slots marks bs count ok st.
          from w
          (step_at_pc w (Instr.Delegate pattern (fragment (w.plan).unicode es) groups) a s.place slots marks bs count h.0)
          (first_handed a b n s slots marks bs count e st
          (fragment_over (setting w) (w.plan).analysis call (λ g. fails) s.captures easy s (first_state s.place)
          (over_first_state s))
          (steady s) (fragment_unused (group_count (whole w)) (setting w) numbered (first_state s.place)));
    };
  }
