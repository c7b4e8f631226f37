-- What an easy node cannot do: set the span of a group that is read, move the kept start, set the flag, or read a capture.
use Rattle.std.proofs.Common.{◌≡◌, ◌≢◌, ℕ, true, false, ◌&&◌, if◌then◌else◌, List, [], ◌∷◌, Some, refl, sym, ap, ◌∙◌, ne_eqb}
use Rattle.std.specs.Prelude.{nat_eq}
use Rattle.std.specs.List.{list_any}
use Rattle.std.proofs.lemmas.Bool.{or_parts, or_left, or_right, eq-eqb, false_from_ne_true}
use Rattle.fancy_meaning.specs.Tree.{Tree, Assert, Group, Within, NoLook, InLookAhead, InLookBehind, Assertion, StartText, EndText, EndTextIgnoreTrailingNewlines, StartLine, StartLineOniguruma, EndLine, LeftWordBoundary, RightWordBoundary, LeftWordHalfBoundary, RightWordHalfBoundary, WordBoundary, NotWordBoundary}
use Rattle.fancy_meaning.specs.Nodes.{read_groups, is_read}
use Rattle.fancy_meaning.specs.Assertions.{assertion_within, is_of_end}
use Rattle.fancy_meaning.specs.MatchState.{MatchState, Span, Ways, moved_to, with_span}
use Rattle.fancy_meaning.specs.Ways.{Setting, ways_with}
use Rattle.fancy_meaning.specs.Options.{Analysis, Plan}
use Rattle.fancy_meaning.specs.Hard.{is_hard_assertion, is_outside}
use Rattle.fancy_delegation.proofs.Items.{IsIn, first, later}
use Rattle.fancy_delegation.proofs.Related.{ways_related}
use Rattle.fancy_delegation.proofs.Kept.{IsKept, EachKept, relates_kept}
use Rattle.fancy_delegation.proofs.KeyParts.{ReadIn, Agree}
use Rattle.fancy_delegation.proofs.EasyNodes.{IsEasy, easy_group, easy_everywhere}

-- an easy assertion of the text's end stands only where the end-of-text option is not set
end_assertion : (a : Analysis) (w : Within) (x : Assertion) → is_hard_assertion a w x ≡ false →
    is_of_end (assertion_within w x) ≡ true → a.end_text ≡ false
end_assertion a NoLook StartText h e = cc
end_assertion a NoLook EndText h e = (or_parts a.end_text (a.find_not_empty && is_outside NoLook) h).0
end_assertion a NoLook (EndTextIgnoreTrailingNewlines crlf) h e = cc
end_assertion a NoLook (StartLine crlf) h e = cc
end_assertion a NoLook (StartLineOniguruma crlf) h e = cc
end_assertion a NoLook (EndLine crlf) h e = cc
end_assertion a NoLook LeftWordBoundary h e = cc
end_assertion a NoLook RightWordBoundary h e = cc
end_assertion a NoLook LeftWordHalfBoundary h e = cc
end_assertion a NoLook RightWordHalfBoundary h e = cc
end_assertion a NoLook WordBoundary h e = cc
end_assertion a NoLook NotWordBoundary h e = cc
end_assertion a InLookAhead StartText h e = cc
end_assertion a InLookAhead EndText h e = (or_parts a.end_text (a.find_not_empty && is_outside InLookAhead) h).0
end_assertion a InLookAhead (EndTextIgnoreTrailingNewlines crlf) h e = cc
end_assertion a InLookAhead (StartLine crlf) h e = cc
end_assertion a InLookAhead (StartLineOniguruma crlf) h e = cc
end_assertion a InLookAhead (EndLine crlf) h e = cc
end_assertion a InLookAhead LeftWordBoundary h e = cc
end_assertion a InLookAhead RightWordBoundary h e = cc
end_assertion a InLookAhead LeftWordHalfBoundary h e = cc
end_assertion a InLookAhead RightWordHalfBoundary h e = cc
end_assertion a InLookAhead WordBoundary h e = cc
end_assertion a InLookAhead NotWordBoundary h e = cc
end_assertion a InLookBehind StartText h e = cc
end_assertion a InLookBehind EndText h e = (or_parts a.end_text (a.find_not_empty && is_outside InLookBehind) h).0
end_assertion a InLookBehind (EndTextIgnoreTrailingNewlines crlf) h e = cc
end_assertion a InLookBehind (StartLine crlf) h e = cc
end_assertion a InLookBehind (StartLineOniguruma crlf) h e = cc
end_assertion a InLookBehind (EndLine crlf) h e = cc
end_assertion a InLookBehind LeftWordBoundary h e = cc
end_assertion a InLookBehind RightWordBoundary h e = cc
end_assertion a InLookBehind LeftWordHalfBoundary h e = cc
end_assertion a InLookBehind RightWordHalfBoundary h e = cc
end_assertion a InLookBehind WordBoundary h e = cc
end_assertion a InLookBehind NotWordBoundary h e = cc

read_is_tested : (g : ℕ) (gs : List ℕ) → IsIn g gs → list_any (nat_eq g) gs ≡ true
read_is_tested g [] i = elim i [ ]
read_is_tested g (h ∷ gs) first = or_left (nat_eq g g) (list_any (nat_eq g) gs) (eq-eqb g g refl)
read_is_tested g (h ∷ gs) (later i) = or_right (nat_eq g h) (list_any (nat_eq g) gs) (read_is_tested g gs i)

pub read_in_is_read : (p : Plan) (g : ℕ) → ReadIn p g → is_read p.analysis.tree g ≡ true
read_in_is_read p g i = read_is_tested g (read_groups p.analysis.tree) i

-- the option of compile is set only where that of the analysis is
abbrev pub SameEndText : Plan → Type 0
SameEndText p = p.end_text ≡ true → p.analysis.end_text ≡ true

-- a span that is set of another group
pub other_span : (g i : ℕ) (span : Span) (t : MatchState) → i ≢ g → t.captures i ≡ (with_span g span t).captures i
other_span g i span t n = sym (ap (λ v. if v then Some span else t.captures i) (ne_eqb i g n))

module _ (p : Plan) (same : SameEndText p) where
  agree_same : (s : MatchState) → Agree p s s
  agree_same s = record { kept = refl; flag = refl; spans = λ g r. refl }

  agree_trans : (s t u : MatchState) → Agree p s t → Agree p t u → Agree p s u
  agree_trans s t u a b = record { kept = a.kept ∙ b.kept; flag = a.flag ∙ b.flag; spans = λ g r. a.spans g r ∙ b.spans g r }

  agree_moved : (s t : MatchState) (i : ℕ) → Agree p s t → Agree p s (moved_to i t)
  agree_moved s t i a = record { kept = a.kept; flag = a.flag; spans = a.spans }

  agree_before : (s t : MatchState) (i : ℕ) → Agree p (moved_to i s) t → Agree p s t
  agree_before s t i a = record { kept = a.kept; flag = a.flag; spans = a.spans }

  flag_counts_not : (w : Within) (x : Assertion) → IsEasy p.analysis (Assert w x) → is_of_end (assertion_within w x) ≡ true → p.end_text ≡ false
  flag_counts_not w x h e =
      let usize_max = end_assertion p.analysis w x h e in
      false_from_ne_true p.end_text (λ set. let other = same set in cc)

  agree_spans : (g : ℕ) (e : Tree) (span : Span) (s t : MatchState) → IsEasy p.analysis (Group g e) → Agree p s t → Agree p s (with_span g span t)
  agree_spans g e span s t h a = record {
    kept = a.kept;
    flag = a.flag;
    spans = λ i r. a.spans i r ∙ other_span g i span t (λ q.
        let unread = (easy_group p.analysis g e h).0 in
        let read = read_in_is_read p i r in
        let there : is_read p.analysis.tree g ≡ true = ap (λ k. is_read p.analysis.tree k) (sym q) ∙ read in
        cc);
  }

  agree_is_kept : IsKept (IsEasy p.analysis) (Agree p)
  agree_is_kept = record {
    same = agree_same;
    on = agree_trans;
    to_place = λ s i le. agree_moved s s i (agree_same s);
    back = λ s t a. agree_moved s t s.place a;
    before = λ s t i e a. agree_before s t i a;
    meets_end =
        λ w x s h e. let off = flag_counts_not w x h e in
        record {
          kept = refl;
          flag = ap (λ v. v && s.text_end) off ∙ sym (ap (λ v. v && true) off);
          spans =
              λ g r. refl;
        };
    keeps = λ s h. cc;
    spans = agree_spans;
  }

  -- Every way of an easy node leaves the kept start, the flag where it counts, and the spans that are read.
  pub easy_agrees : (q : Setting) (call : ℕ → Ways) (e : Tree) → IsEasy p.analysis e → EachKept (Agree p) (ways_with q call e)
  easy_agrees q call e h =
      ways_related q (IsEasy p.analysis) (λ w w'. EachKept (Agree p) w) (relates_kept q (IsEasy p.analysis) (Agree p) agree_is_kept)
      call call (λ g hard. cc) e (easy_everywhere p.analysis e h)
