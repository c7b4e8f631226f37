-- The steps of the lexer are rules of the tokens.
use Rattle.std.proofs.Common.{◌≡◌, ℕ, List, [], ◌∷◌, ◌++◌, length, Bool, true, false, Result, Ok, Err, IfOk, Some, refl, sym, ap, ◌∙◌, subst, append-nil, append_assoc}
use Rattle.std.proofs.lemmas.Bool.{true≢false}
use Rattle.std.specs.declared.alloc.AllocError.{AllocError}
use Rattle.fancy_pattern.specs.declared.lexer.Lexer.{Lexer}
use Rattle.fancy_pattern.specs.LexerViews.{state_of, text_of, placed_in, Steps, Pushes}
use Rattle.fancy_tokens.specs.declared.error.Fault.{Fault}
use Rattle.fancy_tokens.specs.declared.flags.Flags.{Flags}
use Rattle.fancy_tokens.specs.declared.lexing.Lexing.{Lexing}
use Rattle.fancy_pattern.specs.Texts.{Text, gap_at}
use Rattle.fancy_tokens.specs.Tokens.{Token, Node, Refer, FlagsItem, Open, Bar, Close, Quantified, ClassOpen, ClassText, ClassClose, Broken, Placed, placed, broken}
use Rattle.fancy_pattern.specs.Items.{Found, IsLone, found_at}
use Rattle.fancy_pattern.specs.Lexing.{State, at_start, IsAtToken, Lexes, gap, token}
use Rattle.fancy_tokens.specs.Nesting.{GoesBy}

-- past a token
pub took_token : (old new : State) (text after rest : Text) (found : Found) (outer : List Flags) → IsAtToken old text →
    found_at old.now text ≡ Ok (found, after) → GoesBy found.token old.outer old.now.flags found.behind (length text) (Ok new.now) outer → outer ≡ new.outer →
    rest ≡ after → (ts : List Placed) → Lexes new rest ts → Lexes old text (placed (length text) found.token ∷ ts)
took_token old new text after rest found outer at is goes same left ts more =
    token at is
    (subst (GoesBy found.token old.outer old.now.flags found.behind (length text) (Ok new.now)) same goes)
    (subst (λ t. Lexes new t ts) left more)

-- a token that neither begins nor ends a group changes no flags around
pub goes_on : (t : Token) (outer : List Flags) (f : Flags) (behind now : Lexing) (left : ℕ) → IsLone t → now ≡ behind →
    GoesBy t outer f behind left (Ok now) outer
goes_on (Node e) outer f behind now left h same = (same, refl)
goes_on (Refer r) outer f behind now left h same = (same, refl)
goes_on FlagsItem outer f behind now left h same = (same, refl)
goes_on (Open o) outer f behind now left h same = absurd h
goes_on Bar outer f behind now left h same = (same, refl)
goes_on Close outer f behind now left h same = absurd h
goes_on (Quantified q greedy) outer f behind now left h same = (same, refl)
goes_on (ClassOpen casei) outer f behind now left h same = (same, refl)
goes_on (ClassText text) outer f behind now left h same = (same, refl)
goes_on ClassClose outer f behind now left h same = (same, refl)
goes_on (Broken kind) outer f behind now left h same = (same, refl)

-- a token that cannot stand is the last one
pub broke_off : (old mid new : Lexer) (r : Result Bool AllocError) (fault : Fault) → Lexes (state_of old) (text_of old) (broken fault ∷ []) →
    placed_in mid ≡ placed_in old → IfOk r (λ more. (more ≡ false) × Pushes (broken fault) mid new) → IfOk r (λ more. Steps more old new)
broke_off old mid new (Ok true) fault lexes same h = absurd (true≢false h.0)
broke_off old mid new (Ok false) fault lexes same h = (broken fault ∷ [], h.1.tokens ∙ ap (λ l. l ++ broken fault ∷ []) same, lexes)
broke_off old mid new (Err e) fault lexes same h = tt

-- nothing was passed
pub stayed : (l : Lexer) → Steps true l l
stayed l = ([], sym (append-nil (placed_in l)), λ ts more. more)

-- further tokens
pub steps_on : (more : Bool) (old mid new : Lexer) → Steps true old mid → Steps more mid new → Steps more old new
steps_on true old mid new s t = (
  s.0 ++ t.0,
  t.1 ∙ ap (λ l. l ++ t.0) s.1 ∙ append_assoc (placed_in old) s.0 t.0,
  λ ts more. subst (Lexes (state_of old) (text_of old)) (sym (append_assoc s.0 t.0 ts)) (s.2 (t.0 ++ ts) (t.2 ts more)),
)
steps_on false old mid new s t = (s.0 ++ t.0, t.1 ∙ ap (λ l. l ++ t.0) s.1 ∙ append_assoc (placed_in old) s.0 t.0, s.2 t.0 t.2)

-- from a lexer that is in the same place
pub steps_more : (old mid from new : Lexer) (r : Result Bool AllocError) → Steps true old mid → IfOk r (λ more. Steps more from new) →
    state_of from ≡ state_of mid → text_of from ≡ text_of mid → placed_in from ≡ placed_in mid → IfOk r (λ more. Steps more old new)
steps_more old mid from new (Err e) s t state text tokens = tt
steps_more old mid from new (Ok more) s t state text tokens = steps_on more old mid new s (moved more t)
  where
    lexes : (ts : List Placed) → Lexes (state_of from) (text_of from) ts → Lexes (state_of mid) (text_of mid) ts
    lexes ts l = subst (λ x. Lexes x (text_of mid) ts) state (subst (λ x. Lexes (state_of from) x ts) text l)

    moved : (more : Bool) → Steps more from new → Steps more mid new
    moved true h = (h.0, h.1 ∙ ap (λ l. l ++ h.0) tokens, λ ts l. lexes (h.0 ++ ts) (h.2 ts l))
    moved false h = (h.0, h.1 ∙ ap (λ l. l ++ h.0) tokens, lexes h.0 h.2)

-- the text goes on
pub goes_on_by : (old new : Lexer) (more : Bool) → more ≡ true → Steps more old new → Steps true old new
goes_on_by old new more is s = subst (λ m. Steps m old new) is s

-- the last tokens follow those before
pub lexed_all : (old new : Lexer) (flags : Flags) (text : Text) →
    ((ts : List Placed) → Lexes (state_of old) (text_of old) ts → Lexes (at_start flags) text (placed_in old ++ ts)) → Steps false old new →
    Lexes (at_start flags) text (placed_in new)
lexed_all old new flags text before s = subst (Lexes (at_start flags) text) (sym s.1) (before s.0 s.2)

pub lexed_on : (old new : Lexer) (flags : Flags) (text : Text) →
    ((ts : List Placed) → Lexes (state_of old) (text_of old) ts → Lexes (at_start flags) text (placed_in old ++ ts)) → Steps true old new →
    (ts : List Placed) → Lexes (state_of new) (text_of new) ts → Lexes (at_start flags) text (placed_in new ++ ts)
lexed_on old new flags text before s ts more =
    subst (Lexes (at_start flags) text) (sym (append_assoc (placed_in old) s.0 ts) ∙ ap (λ l. l ++ ts) (sym s.1)) (before (s.0 ++ ts) (s.2 ts more))

-- past a gap
pub took_gap : (old new : State) (text after rest : Text) → old.now.class.depth ≡ 0 → gap_at old.now.flags.ignore_whitespace text ≡ Some after →
    new ≡ old → rest ≡ after → (ts : List Placed) → Lexes new rest ts → Lexes old text ts
took_gap old new text after rest outside is same left ts more = gap outside is (subst (λ s. Lexes s after ts) same (subst (λ t. Lexes new t ts) left more))
