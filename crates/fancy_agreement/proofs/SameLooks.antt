-- The kit's assertions hold where those of nodes do, and nowhere else.
use Rattle.std.proofs.Common.{◌≡◌, ℕ, ◌≤◌, ◌<◌, ◌-◌, Bool, true, false, not, ◌||◌, ◌&&◌, if◌then◌else◌, ◌==◌, List, length, None, is_some, slice_get, refl, sym, ap, ◌∙◌, arith, inl, inr, eq-eqb, ne_eqb}
use Rattle.std.proofs.lemmas.Bool.{cases_eq}
use Rattle.std.proofs.lemmas.Option.{slice_get-get_or, slice_get_past}
use Rattle.regex_hir.specs.Text.{byte_before}
use Rattle.regex_hir.specs.Looks as kit
use Rattle.regex_hir.specs.declared.look.Look.{Look}
use Rattle.regex_hir.specs.declared.look.Look.TheVariants.{Start, End, StartLf, EndLf, StartCrlf, EndCrlf, WordUnicode, WordStartUnicode, WordEndUnicode}
use Rattle.fancy_meaning.specs.Chars.{is_word}
use Rattle.fancy_meaning.specs.Tree.{Assertion, StartText, EndText, StartLine, EndLine, LeftWordBoundary, RightWordBoundary, WordBoundary, Within, NoLook, InLookAhead, InLookBehind}
use Rattle.fancy_meaning.specs.Assertions.{assertion_within, holds, is_after, is_before, is_line_end, is_line_start}
use Rattle.fancy_agreement.specs.First.{IsSameLook}

there : (text : List ℕ) (i : ℕ) → i < length text → is_some (slice_get text i) ≡ true
there text i lt = ap is_some (slice_get-get_or text i 0 lt)

at_start : (text : List ℕ) (i : ℕ) → i ≤ length text → (i == 0) ≡ not (is_some (byte_before text i))
unfolding byte_before
at_start text i within = elim (cases_eq i 0) [
  | inl zero ↦ eq-eqb i 0 zero ∙ sym (ap (λ b. not (is_some (if b then None else slice_get text (i - 1)))) (eq-eqb i 0 zero))
  | inr more ↦
      ne_eqb i 0 more
      ∙ sym (ap (λ b. not (is_some (if b then None else slice_get text (i - 1)))) (ne_eqb i 0 more)
      ∙ ap not (there text (i - 1) (omega (arith, more, within))))
]

at_end : (text : List ℕ) (i : ℕ) → i ≤ length text → (i == length text) ≡ not (is_some (slice_get text i))
at_end text i within = elim (cases_eq i (length text)) [
  | inl same ↦ eq-eqb i (length text) same ∙ sym (ap (λ o. not (is_some o)) (slice_get_past text i (omega (arith, same))))
  | inr less ↦ ne_eqb i (length text) less ∙ sym (ap not (there text i (omega (arith, less, within))))
]

anywhere : (u : Bool) (a : Assertion) (l : Look) → ((w : Within) → assertion_within w a ≡ a) →
    ((text : List ℕ) (i : ℕ) → i ≤ length text → holds text i u a ≡ kit.holds l text i) → IsSameLook u a l
anywhere u a l plain h w text i within = ap (holds text i u) (plain w) ∙ h text i within

start_text_within : (w : Within) → assertion_within w StartText ≡ StartText
start_text_within NoLook = refl
start_text_within InLookAhead = refl
start_text_within InLookBehind = refl

pub start_text : (u : Bool) → IsSameLook u StartText Start
unfolding holds kit.holds kit.holds_between
start_text u = anywhere u StartText Start start_text_within at_start

end_text_within : (w : Within) → assertion_within w EndText ≡ EndText
end_text_within NoLook = refl
end_text_within InLookAhead = refl
end_text_within InLookBehind = refl

pub end_text : (u : Bool) → IsSameLook u EndText End
unfolding holds kit.holds kit.holds_between
end_text u = anywhere u EndText End end_text_within at_end

start_line_within : (crlf : Bool) (w : Within) → assertion_within w (StartLine crlf) ≡ StartLine crlf
start_line_within crlf NoLook = refl
start_line_within crlf InLookAhead = refl
start_line_within crlf InLookBehind = refl

or_nothing : (a : Bool) → (a || false) ≡ a
or_nothing true = refl
or_nothing false = refl

line_starts : (crlf : Bool) (text : List ℕ) (i : ℕ) → i ≤ length text →
    is_line_start text i crlf ≡ kit.holds (if crlf then StartCrlf else StartLf) text i
unfolding is_line_start kit.holds kit.holds_between
line_starts true text i within =
    ap (λ b. b || is_after text i 10 || (is_after text i 13 && not (is_before text i 10))) (at_start text i within)
line_starts false text i within =
    or_nothing (i == 0 || is_after text i 10) ∙ ap (λ b. b || is_after text i 10) (at_start text i within)

pub start_line : (u crlf : Bool) → IsSameLook u (StartLine crlf) (if crlf then StartCrlf else StartLf)
unfolding holds
start_line u crlf = anywhere u (StartLine crlf) (if crlf then StartCrlf else StartLf) (start_line_within crlf) (line_starts crlf)

end_line_within : (crlf : Bool) (w : Within) → assertion_within w (EndLine crlf) ≡ EndLine crlf
end_line_within crlf NoLook = refl
end_line_within crlf InLookAhead = refl
end_line_within crlf InLookBehind = refl

line_ends : (crlf : Bool) (text : List ℕ) (i : ℕ) → i ≤ length text →
    is_line_end text i crlf ≡ kit.holds (if crlf then EndCrlf else EndLf) text i
unfolding is_line_end kit.holds kit.holds_between
line_ends true text i within =
    ap (λ b. b || is_before text i 13 || (is_before text i 10 && not (is_after text i 13))) (at_end text i within)
line_ends false text i within = ap (λ b. b || is_before text i 10) (at_end text i within)

pub end_line : (u crlf : Bool) → IsSameLook u (EndLine crlf) (if crlf then EndCrlf else EndLf)
unfolding holds
end_line u crlf = anywhere u (EndLine crlf) (if crlf then EndCrlf else EndLf) (end_line_within crlf) (line_ends crlf)

word_within : (w : Within) → assertion_within w WordBoundary ≡ WordBoundary
word_within NoLook = refl
word_within InLookAhead = refl
word_within InLookBehind = refl

pub word_boundary : IsSameLook true WordBoundary WordUnicode
unfolding holds is_word kit.holds kit.holds_between
word_boundary = anywhere true WordBoundary WordUnicode word_within (λ text i within. refl)

left_within : (w : Within) → assertion_within w LeftWordBoundary ≡ LeftWordBoundary
left_within NoLook = refl
left_within InLookAhead = refl
left_within InLookBehind = refl

pub left_word_boundary : IsSameLook true LeftWordBoundary WordStartUnicode
unfolding holds is_word kit.holds kit.holds_between
left_word_boundary = anywhere true LeftWordBoundary WordStartUnicode left_within (λ text i within. refl)

right_within : (w : Within) → assertion_within w RightWordBoundary ≡ RightWordBoundary
right_within NoLook = refl
right_within InLookAhead = refl
right_within InLookBehind = refl

pub right_word_boundary : IsSameLook true RightWordBoundary WordEndUnicode
unfolding holds is_word kit.holds kit.holds_between
right_word_boundary = anywhere true RightWordBoundary WordEndUnicode right_within (λ text i within. refl)
