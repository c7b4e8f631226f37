-- A pattern has one row of tokens, and spells one tree.
use Rattle.std.proofs.Common.{◌≡◌, ℕ, Bool, List, [], ◌∷◌, ◌++◌, length, Some, None, Result, Ok, Err, refl, sym, ap, ◌∙◌, subst, arith, length-append}
use Rattle.std.proofs.lemmas.Bool.{true≢false}
use Rattle.std.proofs.lemmas.List.{same_from_push}
use Rattle.fancy_meaning.specs.Tree.{Tree}
use Rattle.fancy_tokens.specs.declared.error.Fault.{Fault}
use Rattle.fancy_tokens.specs.declared.flags.Flags.{Flags}
use Rattle.fancy_tokens.specs.declared.lexing.Lexing.{Lexing}
use Rattle.fancy_pattern.specs.declared.options.ParseOptions.{ParseOptions}
use Rattle.fancy_pattern.specs.Texts.{Text, gap_at}
use Rattle.fancy_tokens.specs.Tokens.{Token, Open, Close, Placed, placed, broken}
use Rattle.fancy_pattern.specs.Items.{Found}
use Rattle.fancy_pattern.specs.Lexing.{State, IsAtToken, Lexes, ended, gap, token, unread, misplaced}
use Rattle.fancy_tokens.specs.Nesting.{GoesBy}
use Rattle.fancy_pattern.specs.Grammar.{SpellsAlternatives}
use Rattle.fancy_pattern.specs.Naming.{named_in}
use Rattle.fancy_pattern.specs.Spelling.{ignores, HasTokens, every_group, named_groups, Spells}
use Rattle.fancy_pattern.proofs.OneSpelling.{one_alternatives}

no_gap_left : (x : Bool) → gap_at x [] ≡ None
no_gap_left x = refl

goes_once : (t : Token) (outer : List Flags) (f : Flags) (behind : Lexing) (left : ℕ) (n m : Lexing) (new other : List Flags) →
    GoesBy t outer f behind left (Ok n) new → GoesBy t outer f behind left (Ok m) other → (n ≡ m) × (new ≡ other)
goes_once (Open o) outer f behind left n m new other h k = (h.1 ∙ sym k.1, h.0.1 ∙ sym k.0.1)
goes_once Close outer f behind left n m new other h k =
    let s = same_from_push new other n.flags m.flags (sym h.0 ∙ k.0) in
    (h.1 ∙ ap (λ g. record behind { flags = g }) s.1 ∙ sym k.1, s.0)
goes_once t outer f behind left n m new other h k = (h.0 ∙ sym k.0, h.1 ∙ sym k.1)

goes_or_not : {G : Type 0} (t : Token) (outer : List Flags) (f : Flags) (behind : Lexing) (left : ℕ) (n : Lexing) (fault : Fault) (new other : List Flags) →
    GoesBy t outer f behind left (Ok n) new → GoesBy t outer f behind left (Err fault) other → G
goes_or_not (Open o) outer f behind left n fault new other h k = let a = h.0.0 in let b = k.0 in absurd (omega (arith, a, b))
goes_or_not Close outer f behind left n fault new other h k =
    let e : length (new ++ n.flags ∷ []) ≡ 0 = ap length (sym h.0 ∙ k.0) in
    absurd (omega (arith, e, length-append new (n.flags ∷ [])))
goes_or_not t outer f behind left n fault new other h k = absurd k

one_fault : (t : Token) (outer : List Flags) (f : Flags) (behind : Lexing) (left : ℕ) (a b : Fault) (new other : List Flags) →
    GoesBy t outer f behind left (Err a) new → GoesBy t outer f behind left (Err b) other → a ≡ b
one_fault (Open o) outer f behind left a b new other h k = h.1 ∙ sym k.1
one_fault Close outer f behind left a b new other h k = h.1 ∙ sym k.1
one_fault t outer f behind left a b new other h k = absurd h

same_state : {a b : State} → a.now ≡ b.now → a.outer ≡ b.outer → a ≡ b
same_state {a} {b} p q = ap (λ n. record { now = n; outer = a.outer }) p ∙ ap (λ o. record { now = b.now; outer = o }) q

lexes_from : {s r : State} {text after : Text} {ts : List Placed} → s ≡ r → text ≡ after → Lexes r after ts → Lexes s text ts
lexes_from {s = s} {after = after} {ts = ts} p q h = subst (λ a. Lexes s a ts) (sym q) (subst (λ a. Lexes a after ts) (sym p) h)

found_same : {a b : Found} {x y : Text} {r : Result (Found × Text) Fault} → r ≡ Ok (a, x) → r ≡ Ok (b, y) → (a ≡ b) × (x ≡ y)
found_same {a} {b} {x} {y} p q =
    let e : ◌≡◌ {A = Result (Found × Text) Fault} (Ok (a, x)) (Ok (b, y)) = sym p ∙ q in
    let f : ◌≡◌ {A = Found × Text} (a, x) (b, y) = cc in
    (ap (λ t. t.0) f, ap (λ t. t.1) f)

found_or_not : {G : Type 0} {a : Found × Text} {f : Fault} {r : Result (Found × Text) Fault} → r ≡ Ok a → r ≡ Err f → G
found_or_not {a = a} {f = f} p q = let e : ◌≡◌ {A = Result (Found × Text) Fault} (Ok a) (Err f) = sym p ∙ q in absurd (cc)

fault_same : {f g : Fault} {r : Result (Found × Text) Fault} → r ≡ Err f → r ≡ Err g → f ≡ g
fault_same {f} {g} p q = let e : ◌≡◌ {A = Result (Found × Text) Fault} (Err f) (Err g) = sym p ∙ q in cc

-- a token is no gap, and nothing is no token
gap_or_token : {G : Type 0} {s : State} {text after : Text} → s.now.class.depth ≡ 0 → gap_at s.now.flags.ignore_whitespace text ≡ Some after →
    IsAtToken s text → G
gap_or_token outside is at = let e = sym (at.no_gap outside) ∙ is in absurd (cc)

ended_or_token : {G : Type 0} {s : State} → s.now.class.depth ≡ 0 → IsAtToken s [] → G
ended_or_token outside at = let h = at.some outside in absurd (omega (arith, h))

goes_as : (a b : Found) (outer : List Flags) (f : Flags) (left : ℕ) (r : Result Lexing Fault) (new : List Flags) → a ≡ b →
    GoesBy b.token outer f b.behind left r new → GoesBy a.token outer f a.behind left r new
goes_as a b outer f left r new q h = subst (λ x. GoesBy x.token outer f x.behind left r new) (sym q) h

pub lexes_once : {s : State} {text : Text} {ts us : List Placed} → Lexes s text ts → Lexes s text us → ts ≡ us
lexes_once (ended o) (ended p) = refl
lexes_once (ended o) (gap p is more) = absurd (cc)
lexes_once (ended o) (token at found goes more) = ended_or_token o at
lexes_once (ended o) (unread at found) = ended_or_token o at
lexes_once (ended o) (misplaced left at found goes) = ended_or_token o at
lexes_once (gap p is more) (ended o) = absurd (cc)
lexes_once (gap p is more) (gap q same rest) = let e = sym is ∙ same in lexes_once more (lexes_from refl (cc) rest)
lexes_once (gap p is more) (token at found goes rest) = gap_or_token p is at
lexes_once (gap p is more) (unread at found) = gap_or_token p is at
lexes_once (gap p is more) (misplaced left at found goes) = gap_or_token p is at
lexes_once (token at found goes more) (ended o) = ended_or_token o at
lexes_once (token at found goes more) (gap p is rest) = gap_or_token p is at
lexes_once {s = s} {text = text} (token {found = a} {next = n} {ts = ts} at found goes more) (token {found = b} {next = m} at' found' goes' rest) =
    let f = found_same found found' in
    let g = goes_once a.token s.outer s.now.flags a.behind (length text) n.now m.now n.outer m.outer goes
    (goes_as a b s.outer s.now.flags (length text) (Ok m.now) m.outer f.0 goes') in
    let r = lexes_once more (lexes_from (same_state g.0 g.1) f.1 rest) in
    ap (λ x. placed (length text) x.token ∷ ts) f.0 ∙ ap (λ l. placed (length text) b.token ∷ l) r
lexes_once (token at found goes more) (unread at' found') = found_or_not found found'
lexes_once {s = s} {text = text} (token {found = a} {next = n} at found goes more) (misplaced {found = b} {fault = u} left at' found' goes') =
    let f = found_same found found' in
    goes_or_not a.token s.outer s.now.flags a.behind (length text) n.now u n.outer left goes
    (goes_as a b s.outer s.now.flags (length text) (Err u) left f.0 goes')
lexes_once (unread at found) (ended o) = ended_or_token o at
lexes_once (unread at found) (gap p is rest) = gap_or_token p is at
lexes_once (unread at found) (token at' found' goes rest) = found_or_not found' found
lexes_once (unread at found) (unread at' found') = ap (λ f. broken f ∷ []) (fault_same found found')
lexes_once (unread at found) (misplaced left at' found' goes) = found_or_not found' found
lexes_once (misplaced left at found goes) (ended o) = ended_or_token o at
lexes_once (misplaced left at found goes) (gap p is rest) = gap_or_token p is at
lexes_once {s = s} {text = text} (misplaced {found = a} {fault = u} left at found goes) (token {found = b} {next = m} at' found' goes' rest) =
    let f = found_same found' found in
    goes_or_not b.token s.outer s.now.flags b.behind (length text) m.now u m.outer left goes'
    (goes_as b a s.outer s.now.flags (length text) (Err u) left f.0 goes)
lexes_once (misplaced left at found goes) (unread at' found') = found_or_not found found'
lexes_once {s = s} {text = text} (misplaced {found = a} {fault = u} left at found goes) (misplaced {found = b} {fault = v} right at' found' goes') =
    let f = found_same found found' in
    ap (λ x. broken x ∷ []) (one_fault a.token s.outer s.now.flags a.behind (length text) u v left right goes
    (goes_as a b s.outer s.now.flags (length text) (Err v) right f.0 goes'))

pub tokens_once : {options : ParseOptions} {text : Text} {a b : Bool} {ts us : List Placed} → HasTokens options text a ts → HasTokens options text b us →
    (a ≡ b) × (ts ≡ us)
tokens_once (every_group l i) (every_group m j) = (refl, lexes_once l m)
tokens_once {options = options} (every_group l i) (named_groups m j k) =
    absurd (true≢false (sym j ∙ ap (ignores options) (lexes_once m l) ∙ i))
tokens_once {options = options} (named_groups m j k) (every_group l i) =
    absurd (true≢false (sym j ∙ ap (ignores options) (lexes_once m l) ∙ i))
tokens_once (named_groups l i m) (named_groups n j k) = (refl, lexes_once m k)

-- a pattern spells one tree
pub one_tree : (options : ParseOptions) (text : Text) (e d : Tree) → Spells options text e → Spells options text d → e ≡ d
one_tree options text e d s t =
    let same : s.tokens ≡ t.tokens = (tokens_once s.lexed t.lexed).1 in
    (one_alternatives same s.spelled (subst (λ l. SpellsAlternatives (named_in l) t.tokens [] d) (sym same) t.spelled)).0
