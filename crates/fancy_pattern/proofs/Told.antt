-- What the parser tells of a pattern without a tree.
use Rattle.std.proofs.Common.{◌≡◌, ℕ, zero, suc, ◌+◌, ◌^◌, ◌<◌, ◌≤◌, Bool, List, [], ◌∷◌, length, take, drop, get_or, chars, encode_utf8, encode_utf8_all, Result, Ok, Err, MatchResult, refl, sym, ap, ◌∙◌, subst, arith, length-append}
use Rattle.std.specs.Char.{len_utf8}
use Rattle.std.specs.Str.{IsUtf8}
use Rattle.std.proofs.lemmas.List.{at_drop_more, length-map}
use Rattle.std.proofs.lemmas.Str.{length-encode, encodes-chars}
use Rattle.fancy_meaning.specs.Tree.{Tree}
use Rattle.fancy_expr.specs.declared.expr.ExprTree.{ExprTree}
use Rattle.fancy_expr.specs.Sound.{IsWellFormedTree}
use Rattle.fancy_expr.specs.Views.{tree_of}
use Rattle.fancy_tokens.specs.declared.error.Fault.{Fault}
use Rattle.fancy_pattern.specs.declared.error.PatternError.{PatternError}
use Rattle.fancy_pattern.specs.declared.error.PatternError.TheVariants.{Parse, Memory}
use Rattle.fancy_pattern.specs.declared.failure.Failure.{Failure}
use Rattle.fancy_pattern.specs.declared.failure.Failure.TheVariants as failure
use Rattle.fancy_pattern.specs.declared.options.ParseOptions.{ParseOptions}
use Rattle.fancy_pattern.specs.declared.reader.Reader.{Reader}
use Rattle.fancy_pattern.specs.Texts.{Text}
use Rattle.fancy_tokens.specs.Tokens.{Placed}
use Rattle.fancy_pattern.specs.Naming.{named_in}
use Rattle.fancy_pattern.specs.Grammar.{Names, SpellsAlternatives}
use Rattle.fancy_tokens.specs.PatternViews.{placed_of}
use Rattle.fancy_pattern.specs.Reading.{point_of}
use Rattle.fancy_pattern.specs.Faults.{IsFaultAt}
use Rattle.fancy_pattern.specs.Stuck.{Fails, anything, IsMisfit}
use Rattle.fancy_pattern.specs.Spelling.{byte_at, HasTokens, Spells, IsTreeOf, HasFault, PatternFails, IsError}
use Rattle.fancy_pattern.proofs.FaultPlaces.{fault_there, fault_left, not_spelled}
use Rattle.fancy_pattern.proofs.OnePattern.{tokens_once, one_tree}

-- ---- bytes

-- a character is counted
pub byte_counted : (text : List ℕ) (i c count more : ℕ) → (length (encode_utf8_all text) < 2 ^ 64 →
    count + length (encode_utf8_all (drop i text)) ≡ length (encode_utf8_all text)) → i < length text → c ≡ get_or text i c →
    (count + len_utf8 c < 2 ^ 64 → more ≡ count + len_utf8 c) → length (encode_utf8_all text) < 2 ^ 64 →
    more + length (encode_utf8_all (drop (i + 1) text)) ≡ length (encode_utf8_all text)
byte_counted text i c count more before lt at is fits =
    let e : length (encode_utf8_all (drop i text)) ≡ length (encode_utf8_all (get_or text i c ∷ drop (i + 1) text)) =
    at_drop_more (λ l. length (encode_utf8_all l)) text i c lt in
    let f : length (encode_utf8 (get_or text i c)) ≡ length (encode_utf8 c) = ap (λ d. length (encode_utf8 d)) (sym at) in
    let g = before fits in
    let j : count + len_utf8 c < 2 ^ 64 =
    omega (arith, e, f, g, fits, length-encode c, length-append (encode_utf8 (get_or text i c)) (encode_utf8_all (drop (i + 1) text))) in
    let k = is j in
    omega (arith, e, f, g, k, length-encode c, length-append (encode_utf8 (get_or text i c)) (encode_utf8_all (drop (i + 1) text)))

-- the first characters have no more bytes than all
pub fewer_bytes : (n : ℕ) (text : List ℕ) → length (encode_utf8_all (take n text)) ≤ length (encode_utf8_all text)
fewer_bytes zero text = omega arith
fewer_bytes (suc n) [] = omega arith
fewer_bytes (suc n) (c ∷ text) =
    omega (arith, fewer_bytes n text, length-append (encode_utf8 c) (encode_utf8_all (take n text)), length-append (encode_utf8 c) (encode_utf8_all text))

pub pattern_fits : (bytes cs ds : List ℕ) → IsUtf8 bytes → cs ≡ ds → ds ≡ chars bytes → length bytes < 2 ^ 64 → length (encode_utf8_all cs) < 2 ^ 64
pattern_fits bytes cs ds utf8 are is fits =
    subst (λ l. length l < 2 ^ 64) (sym (encodes-chars bytes utf8) ∙ ap encode_utf8_all (sym (are ∙ is))) fits

-- ---- faults

has_fault : (options : ParseOptions) (text : Text) (ignored : Bool) (ts : List Placed) (names : Names) (x : List Placed) (f : Fault) →
    HasTokens options text ignored ts → names ≡ named_in ts → x ≡ ts → IsFaultAt names x f → HasFault options text f
has_fault options text ignored ts names x f lexed of_them begins is = record {
  ignored = ignored;
  tokens = ts;
  lexed = lexed;
  fault = subst (λ n. IsFaultAt n ts f) of_them (subst (λ l. IsFaultAt names l f) begins is);
}

pub whole_fails : (options : ParseOptions) (text : Text) (ignored : Bool) (ts : List Placed) (names : Names) (start : Reader) (e : Failure) →
    HasTokens options text ignored ts → names ≡ named_in ts → point_of start ≡ ts →
    Fails names anything (SpellsAlternatives names) (point_of start) e → PatternFails options text e
whole_fails options text ignored ts names start (failure.Fault f) lexed of_them begins s =
    has_fault options text ignored ts names (point_of start) f lexed of_them begins (fault_there names (point_of start) f s)
whole_fails options text ignored ts names start failure.Memory lexed of_them begins s = tt

pub whole_left : (options : ParseOptions) (text : Text) (ignored : Bool) (ts : List Placed) (names : Names) (start last : Reader) (t : Tree) (e : Failure) →
    HasTokens options text ignored ts → names ≡ named_in ts → point_of start ≡ ts → SpellsAlternatives names (point_of start) (point_of last) t →
    (0 < length last.rest.now) × IsMisfit (point_of last) e → PatternFails options text e
whole_left options text ignored ts names start last t (failure.Fault f) lexed of_them begins s h =
    let some : 0 < length (point_of last) = omega (arith, h.0, length-map last.rest.now placed_of) in
    has_fault options text ignored ts names (point_of start) f lexed of_them begins (fault_left names (point_of start) (point_of last) t f s some h.1)
whole_left options text ignored ts names start last t failure.Memory lexed of_them begins s h = tt

pub told_fault : (options : ParseOptions) (text : Text) (f : Fault) (r : PatternError) → r ≡ Parse (byte_at text f.left) f.kind → HasFault options text f →
    IsError options text r
told_fault options text f r is h = subst (IsError options text) (sym is) (f.left, h, refl)

-- ---- what is spelled is read

pub reads_of : (options : ParseOptions) (text : Text) (r : Result ExprTree PatternError) → MatchResult r (λ t. IsTreeOf options text t × IsWellFormedTree t)
    (IsError options text) →
    (e : Tree) → Spells options text e → MatchResult r (λ t. tree_of t.expr ≡ e) (λ error. error ≡ Memory)
reads_of options text (Ok t) h e s = one_tree options text (tree_of t.expr) e h.0.spells s
reads_of options text (Err (Parse at kind)) h e s =
    let f = h.1 in
    let same : f.tokens ≡ s.tokens = (tokens_once f.lexed s.lexed).1 in
    absurd (not_spelled (named_in f.tokens) f.tokens (record { left = h.0; kind = kind }) e f.fault
    (subst (λ l. SpellsAlternatives (named_in l) l [] e) (sym same) s.spelled))
reads_of options text (Err Memory) h e s = refl
