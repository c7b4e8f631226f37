-- With which literals the ways of nodes begin, by those of their parts.
use Rattle.std.proofs.Common.{◌≡◌, ℕ, suc, ◌+◌, Bool, IsTrue, true, false, ◌==◌, List, [], ◌++◌, append-nil, append_assoc, drop, encode_utf8, length, length-append, refl, sym, ap, subst, ◌∙◌, arith, eqb-true}
use Rattle.std.specs.Char.{len_utf8}
use Rattle.std.proofs.lemmas.Bool.{false≢true}
use Rattle.std.proofs.lemmas.Str.{length-encode}
use Rattle.regex_hir.specs.Text.{has_bytes_at}
use Rattle.regex_hir.proofs.TextLemmas.{char_at_parts, has_bytes_at_from, has_bytes_at_parts}
use Rattle.fancy_meaning.specs.MatchState.{Ways, in_order, with_span}
use Rattle.fancy_meaning.specs.Moves.{past_char}
use Rattle.fancy_meaning.specs.Nodes.{group_count}
use Rattle.fancy_meaning.specs.Numbering.{each_numbered}
use Rattle.fancy_meaning.specs.Tree.{Tree, Trees, none, more, AtomicGroup, Group, Literal}
use Rattle.fancy_meaning.specs.Ways.{each_ways}
use Rattle.fancy_laws.proofs.Every.{All-every, every-All, every_anything, every_flat_map, every_map, every_one, every_take, every_weaker}
use Rattle.fancy_laws.proofs.Moves.{past_char_tells}
use Rattle.fancy_laws.proofs.WaysOf.{every_moves}
use Rattle.fancy_literals.specs.Befores.{StaysHere}
use Rattle.fancy_literals.specs.Leads.{AddsInOrder, AddsOf, LeadsBy}

nothing_at : (text : List ℕ) (i : ℕ) → has_bytes_at text i [] ≡ true
nothing_at text i = has_bytes_at_from text i [] (drop i text) refl

both_at : (text : List ℕ) (i : ℕ) (first second : List ℕ) → has_bytes_at text i first ≡ true → has_bytes_at text (i + length first) second ≡ true →
    has_bytes_at text i (first ++ second) ≡ true
both_at text i first second one two =
    let after : List ℕ = drop (i + length first + length second) text in
    has_bytes_at_from text i (first ++ second) after
    (has_bytes_at_parts text i first one ∙ ap (λ l. first ++ l) (has_bytes_at_parts text (i + length first) second two)
    ∙ sym (append_assoc first second after))

stays_adds : (old : List ℕ) (e : Tree) → StaysHere e → AddsOf old old true e
stays_adds old e stays = record {
  literal = [];
  added = sym (append-nil old);
  leads = λ q call w n s.
      All-every {P = LeadsBy [] true q.text s}
      (every_weaker {P = λ t. t.place ≡ s.place} (λ t here. (nothing_at q.text s.place, λ is. omega (arith, here))) (every-All _ _ (stays q call w n s)));
}

unknown_adds : (old : List ℕ) (e : Tree) → AddsOf old old false e
unknown_adds old e = record {
  literal = [];
  added = sym (append-nil old);
  leads = λ q call w n s.
      All-every {P = LeadsBy [] false q.text s}
      (every_anything _ (λ t. (nothing_at q.text s.place, λ never. absurd (false≢true never))));
}

pub character_adds : (old : List ℕ) (c : ℕ) → AddsOf old (old ++ encode_utf8 c) true (Literal c false)
character_adds old c = record {
  literal = encode_utf8 c;
  added = refl;
  leads = λ q call w n s.
      All-every {P = LeadsBy (encode_utf8 c) true q.text s}
      (every_moves q (past_char q.text (λ d. c == d)) s
      (λ i e. let p = past_char_tells q.text (λ d. c == d) s.place i e in
      let same : c ≡ p.char = eqb-true c p.char p.passes in
      let parts = char_at_parts q.text s.place p.char p.stands in (
        has_bytes_at_from q.text s.place (encode_utf8 c) (drop (s.place + len_utf8 p.char) q.text)
            (parts.1 ∙ ap (λ d. encode_utf8 d ++ drop (s.place + len_utf8 p.char) q.text) (sym same)),
        λ is. omega (arith, p.to, length-encode c, ap len_utf8 same),
      )));
}

module _ (old new : List ℕ) (whole : Bool) (e : Tree) (h : AddsOf old new whole e) where
  pub group_adds : (number : ℕ) → AddsOf old new whole (Group number e)
  group_adds number = record {
    literal = h.literal;
    added = h.added;
    leads = λ q call w n s.
        All-every {P = LeadsBy h.literal whole q.text s}
        (every_map {P = LeadsBy h.literal whole q.text s} {Q = LeadsBy h.literal whole q.text s} (λ t. with_span n (s.place, t.place) t) (λ t is. is)
        (every-All _ _ (h.leads q call w (suc n) s)));
  }

  pub atomic_adds : AddsOf old new whole (AtomicGroup e)
  atomic_adds = record {
    literal = h.literal;
    added = h.added;
    leads = λ q call w n s. All-every {P = LeadsBy h.literal whole q.text s} (every_take 1 (every-All _ _ (h.leads q call w n s)));
  }

  -- what comes next adds nothing, if this matches more
  pub last_adds : (es : Trees) → AddsInOrder old new false (more e es)
  last_adds es = record {
    literal = h.literal;
    added = h.added;
    leads = λ q call w n s.
        let on : Ways = in_order (each_ways q call (each_numbered w (n + group_count e) es)) in
        All-every {P = LeadsBy h.literal false q.text s}
        (every_flat_map {P = LeadsBy h.literal whole q.text s} {Q = LeadsBy h.literal false q.text s} on
        (λ t is. every_anything (on t) (λ u. (is.0, λ never. absurd (false≢true never))))
        (every-All _ _ (h.leads q call w n s)));
  }

pub none_adds : (old : List ℕ) → AddsInOrder old old true none
none_adds old = record {
  literal = [];
  added = sym (append-nil old);
  leads = λ q call w n s. All-every {P = LeadsBy [] true q.text s} (every_one (nothing_at q.text s.place, λ is. omega arith));
}

pub next_adds : (old mid new : List ℕ) (whole : Bool) (e : Tree) (es : Trees) → AddsOf old mid true e → AddsInOrder mid new whole es →
    AddsInOrder old new whole (more e es)
next_adds old mid new whole e es first rest =
    let one : List ℕ = first.literal in
    let two : List ℕ = rest.literal in
    record {
      literal = one ++ two;
      added = rest.added ∙ ap (λ l. l ++ two) first.added ∙ append_assoc old one two;
      leads = λ q call w n s.
          let on : Ways = in_order (each_ways q call (each_numbered w (n + group_count e) es)) in
          All-every {P = LeadsBy (one ++ two) whole q.text s}
          (every_flat_map {P = LeadsBy one true q.text s} {Q = LeadsBy (one ++ two) whole q.text s} on
          (λ t is. let here : t.place ≡ s.place + length one = is.1 refl in
          every_weaker {P = LeadsBy two whole q.text t}
          (λ u so. (
            both_at q.text s.place one two is.0 (subst (λ p. has_bytes_at q.text p two ≡ true) here so.0),
            λ all. so.1 all ∙ ap (λ p. p + length two) here ∙ omega (arith, length-append one two),
          ))
          (every-All _ _ (rest.leads q call w (n + group_count e) t)))
          (every-All _ _ (first.leads q call w n s)));
    }

-- by whether its kind matches nothing
pub kind_adds : (old : List ℕ) (e : Tree) (stays : Bool) → (IsTrue stays → StaysHere e) → AddsOf old old stays e
kind_adds old e true h = stays_adds old e (h refl)
kind_adds old e false h = unknown_adds old e
