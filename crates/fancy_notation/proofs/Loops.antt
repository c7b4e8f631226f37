-- What a loop of the reader has read so far.
use Rattle.std.proofs.Common.{◌≡◌, ℕ, ◌<◌, ◌≤◌, Bool, true, false, List, [], ◌∷◌, ◌++◌, length, drop, map, Option, Some, None, cond, if◌then◌else◌, refl, sym, ap, ◌∙◌, subst, arith, append-nil, append_assoc}
use Rattle.std.proofs.lemmas.List.{map-append}
use Rattle.fancy_meaning.specs.Tree.{Tree}
use Rattle.fancy_expr.specs.declared.error.Error.{Error}
use Rattle.fancy_expr.specs.declared.expr.Expr.{Expr}
use Rattle.fancy_expr.specs.Views.{tree_of}
use Rattle.fancy_notation.specs.declared.reader.Reader.{Reader}
use Rattle.fancy_notation.specs.declared.tokens.Placed.{Placed as Code}
use Rattle.fancy_notation.specs.Tokens.{Token, Placed, Quoted}
use Rattle.fancy_notation.specs.Words.{byte_of}
use Rattle.fancy_notation.specs.Grammar.{Point, in_word, opening, closing, quoted, is_at_text, parts_of_text, Takes, SpellsBytes, no_byte, byte, Spells, SpellsParts, no_part, spliced, part}
use Rattle.fancy_notation.specs.Misfit.{Want, Node, Parts, Bytes, with_groups, given, next_step, many_step, misfit}
use Rattle.fancy_notation.specs.NotationViews.{placed_of, all_placed, point_of}
use Rattle.fancy_expr.specs.Each.{Each}
use Rattle.fancy_notation.specs.Reading.{first_gives, next_token, Skips, IsFaultHere, SpellsPartsAfter, Fails, OneCharEach}
use Rattle.fancy_expr.proofs.EachLaws.{each_append}
use Rattle.fancy_notation.proofs.Stack.{byte_goes_on, none_goes_on, wants_node, text_stands, node_stands, not_closing, first_is, text_not_closing}
use Rattle.fancy_notation.proofs.Failing.{fails_here, fails_first, fails_on}

pub no_close : (b : Bool) (o : Option (Unit {0})) → o ≡ (if b then Some tt else None) → b ≡ false → o ≡ None
no_close b o e is = e ∙ ap (λ x. cond x (Some tt) None) is

-- the closing parenthesis is there and is not
pub close_there : {G : Type 0} (b : Bool) (o : Option (Unit {0})) → o ≡ (if b then Some tt else None) → b ≡ true → o ≡ None → G
close_there b o e is none = let there : o ≡ Some tt = e ∙ ap (λ x. cond x (Some tt) None) is in absurd (cc)

-- ---- bytes

pub record BytesRead (start now : Reader) (bytes : List ℕ) : Type 0 where
  pub end : now.end ≡ start.end
  pub stack : (k : List Want) →
      misfit start.end (point_of start).tokens start.groups (Bytes ∷ k) ≡ misfit start.end (point_of now).tokens now.groups (Bytes ∷ k)
  pub spelled : (z : Point) (more : List ℕ) → SpellsBytes (point_of now) z more → SpellsBytes (point_of start) z (bytes ++ more)

pub bytes_begin : (r : Reader) → BytesRead r r []
bytes_begin r = record { end = refl; stack = λ k. refl; spelled = λ z more s. s }

pub bytes_next : (start old new : Reader) (bs : List ℕ) (b : ℕ) → BytesRead start old bs →
    Takes (in_word byte_of) (point_of old) b (point_of new) × (new.end ≡ old.end) → BytesRead start new (bs ++ b ∷ [])
bytes_next start old new bs b r t = record {
  end = t.1 ∙ r.end;
  stack = λ k. r.stack k ∙ byte_goes_on t.0 start.end k;
  spelled = λ z more s. subst (SpellsBytes (point_of start) z) (sym (append_assoc bs (b ∷ []) more)) (r.spelled z (b ∷ more) (byte t.0 s));
}

pub bytes_done : (start old new : Reader) (bs : List ℕ) → BytesRead start old bs → Takes closing (point_of old) tt (point_of new) × (new.end ≡ old.end) →
    SpellsBytes (point_of start) (point_of new) bs × (new.end ≡ start.end)
bytes_done start old new bs r t = (subst (SpellsBytes (point_of start) (point_of new)) (append-nil bs) (r.spelled (point_of new) [] (no_byte t.0)), t.1 ∙ r.end)

no_byte_here : (g : ℕ) (ts : List Placed) → first_gives closing ts ≡ None → first_gives (in_word byte_of) ts ≡ None →
    first_gives (λ t. next_step g Bytes t) ts ≡ None
no_byte_here g [] c e = refl
no_byte_here g (p ∷ ps) c e = ap (λ o. many_step Bytes g p.token (given o (λ b. with_groups g []))) e ∙ none_goes_on Bytes g p.token c

pub bytes_fail : (start old : Reader) (bs : List ℕ) (e : Error) → BytesRead start old bs → first_gives closing (point_of old).tokens ≡ None →
    IsFaultHere old e × (first_gives (in_word byte_of) (point_of old).tokens ≡ None) → Fails (Bytes ∷ []) start e
bytes_fail start old bs e r c f =
    fails_on start old (Bytes ∷ []) (Bytes ∷ []) e r.end r.stack (fails_here Bytes [] old e f.0 (no_byte_here old.groups _ c f.1))

-- ---- skipping

pub skipped : (old new : Reader) → 0 < length old.rest.now → new.rest.now ≡ drop 1 old.rest.now → new.groups ≡ old.groups → new.end ≡ old.end → Skips old new
skipped old new h rest groups end =
    let p = front old.rest.now new.rest.now h rest in
    record { first = p.0; tokens = p.1; groups = groups; end = end }
  where
    front : (xs ys : List Code) → 0 < length xs → ys ≡ drop 1 xs → (p : Placed) × (all_placed xs ≡ p ∷ all_placed ys)
    front [] ys h e = absurd (omega (arith, h))
    front (x ∷ xs) ys h e = (placed_of x, ap (λ l. placed_of x ∷ all_placed l) (sym e))

-- there is a token that is a quoted text, or an opening parenthesis
pub has_next : (old : Reader) (t : Token) → next_token (point_of old).tokens ≡ Some t → 0 < length old.rest.now
has_next old t e = here old.rest.now e
  where
    here : (xs : List Code) → next_token (all_placed xs) ≡ Some t → 0 < length xs
    here [] e = absurd (cc)
    here (x ∷ xs) e = omega arith

pub has_open : (old : Reader) → first_gives opening (point_of old).tokens ≡ Some tt → 0 < length old.rest.now
has_open old e = here old.rest.now e
  where
    here : (xs : List Code) → first_gives opening (all_placed xs) ≡ Some tt → 0 < length xs
    here [] e = absurd (cc)
    here (x ∷ xs) e = omega arith

pub skips_text : (old new : Reader) (folded : Bool) (bytes : List ℕ) → next_token (point_of old).tokens ≡ Some (Quoted folded bytes) → Skips old new →
    Takes quoted (point_of old) (folded, bytes) (point_of new)
skips_text old new folded bytes e s =
    let is : Some s.first.token ≡ Some (Quoted folded bytes) = sym (ap next_token s.tokens) ∙ e in
    let same : s.first.token ≡ Quoted folded bytes = cc in
    record { first = s.first; tokens = s.tokens; groups = s.groups; is = ap quoted same }

pub skips_giving : {V : Type 0} (gives : Token → Option V) (v : V) (old new : Reader) → first_gives gives (point_of old).tokens ≡ Some v → Skips old new →
    Takes gives (point_of old) v (point_of new)
skips_giving gives v old new e s = record { first = s.first; tokens = s.tokens; groups = s.groups; is = sym (ap (first_gives gives) s.tokens) ∙ e }

-- ---- parts

pub record PartsRead (splices : Bool) (start now : Reader) (given parts : List Expr) : Type 0 where
  pub end : now.end ≡ start.end
  pub stack : (k : List Want) →
      misfit start.end (point_of start).tokens start.groups (Parts ∷ k) ≡ misfit start.end (point_of now).tokens now.groups (Parts ∷ k)
  pub so_far : List Tree
  pub are : map tree_of parts ≡ map tree_of given ++ so_far
  pub spelled : (z : Point) (more : List Tree) → SpellsParts splices (point_of now) z more → SpellsParts splices (point_of start) z (so_far ++ more)
  pub shorter : length now.rest.now ≤ length start.rest.now
  pub chars : Each OneCharEach given → Each OneCharEach parts

pub parts_begin : (splices : Bool) (r : Reader) (given : List Expr) → PartsRead splices r r given given
parts_begin splices r given =
    record {
      end = refl;
      stack = λ k. refl;
      so_far = [];
      are = sym (append-nil (map tree_of given));
      spelled = λ z more s. s;
      shorter = omega arith;
      chars = λ h. h;
    }

-- a step of either kind
grown : (splices : Bool) (start old new : Reader) (given parts more_parts : List Expr) (es : List Tree) → PartsRead splices start old given parts →
    new.end ≡ old.end →
    ((k : List Want) → misfit start.end (point_of old).tokens old.groups (Parts ∷ k) ≡ misfit start.end (point_of new).tokens new.groups (Parts ∷ k)) →
    map tree_of more_parts ≡ map tree_of parts ++ es →
    ((z : Point) (more : List Tree) → SpellsParts splices (point_of new) z more → SpellsParts splices (point_of old) z (es ++ more)) →
    length new.rest.now ≤ length old.rest.now →
    (Each OneCharEach parts → Each OneCharEach more_parts) →
    PartsRead splices start new given more_parts
grown splices start old new given parts more_parts es r same stack are spelled h chars = record {
  end = same ∙ r.end;
  stack = λ k. r.stack k ∙ stack k;
  so_far = r.so_far ++ es;
  are = are ∙ ap (λ l. l ++ es) r.are ∙ append_assoc (map tree_of given) r.so_far es;
  spelled = λ z more s. subst (SpellsParts splices (point_of start) z) (sym (append_assoc r.so_far es more)) (r.spelled z (es ++ more) (spelled z more s));
  shorter = let a = r.shorter in omega (arith, a, h);
  chars = λ k. chars (r.chars k);
}

pub parts_next : (splices : Bool) (start old new : Reader) (given parts more_parts : List Expr) (e : Expr) → PartsRead splices start old given parts →
    (splices ≡ true → is_at_text (point_of old).tokens ≡ false) → Spells (point_of old) (point_of new) (tree_of e) × (new.end ≡ old.end) × OneCharEach e →
    more_parts ≡ parts ++ e ∷ [] →
    length new.rest.now < length old.rest.now →
    PartsRead splices start new given more_parts
parts_next splices start old new given parts more_parts e r plain s are h =
    grown splices start old new given parts more_parts (tree_of e ∷ []) r s.1
    (λ k. wants_node start.end (point_of old).tokens old.groups k (not_closing s.0) ∙ node_stands s.0 start.end (Parts ∷ k))
    (ap (map tree_of) are ∙ map-append tree_of parts (e ∷ []))
    (λ z more t. part plain s.0 t)
    (omega (arith, h))
    (λ k. subst (Each OneCharEach) (sym are) (each_append OneCharEach parts (e ∷ []) k (s.2, tt)))

pub parts_splice : (splices : Bool) (start old new : Reader) (given parts more_parts : List Expr) (q : Bool × List ℕ) → splices ≡ true →
    PartsRead splices start old given parts →
    Takes quoted (point_of old) q (point_of new) → new.end ≡ old.end → map tree_of more_parts ≡ map tree_of parts ++ parts_of_text q.0 q.1 →
    (Each OneCharEach parts → Each OneCharEach more_parts) →
    length new.rest.now < length old.rest.now →
    PartsRead splices start new given more_parts
parts_splice false start old new given parts more_parts q on r t same are chars h = absurd (cc)
parts_splice true start old new given parts more_parts q on r t same are chars h =
    grown true start old new given parts more_parts (parts_of_text q.0 q.1) r same
    (λ k. wants_node start.end (point_of old).tokens old.groups k (first_is t closing ∙ text_not_closing q _ t.is) ∙ text_stands t start.end (Parts ∷ k))
    are
    (λ z more s. spliced t s)
    (omega (arith, h))
    chars

pub parts_done : (splices : Bool) (start old new : Reader) (given parts : List Expr) → PartsRead splices start old given parts →
    Takes closing (point_of old) tt (point_of new) × (new.end ≡ old.end) →
    SpellsPartsAfter splices given parts (point_of start) (point_of new) × (new.end ≡ start.end)
parts_done splices start old new given parts r t = (
  (r.so_far, subst (SpellsParts splices (point_of start) (point_of new)) (append-nil r.so_far) (r.spelled (point_of new) [] (no_part t.0)), r.are, r.chars),
  t.1 ∙ r.end,
)

pub parts_fail : (splices : Bool) (start old : Reader) (given parts : List Expr) (e : Error) → PartsRead splices start old given parts →
    first_gives closing (point_of old).tokens ≡ None → Fails (Node ∷ []) old e → Fails (Parts ∷ []) start e
parts_fail splices start old given parts e r c f =
    fails_on start old (Parts ∷ []) (Node ∷ Parts ∷ []) e r.end
    (λ k. r.stack k ∙ wants_node start.end (point_of old).tokens old.groups k c)
    (fails_first Node (Parts ∷ []) old e f)
