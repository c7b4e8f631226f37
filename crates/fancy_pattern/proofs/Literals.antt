-- Pieces that begin with a literal.
use Rattle.std.proofs.Common.{◌≡◌, ℕ, Bool, false, not, List, [], ◌∷◌, ◌++◌, map, filter, Option, Some, None, Result, Ok, Err, IfOk, cond, refl, sym, ap, ◌∙◌, append-nil, append_assoc}
use Rattle.std.proofs.lemmas.List.{map-append}
use Rattle.std.specs.declared.alloc.AllocError.{AllocError}
use Rattle.fancy_meaning.specs.Tree.{Tree, Literal}
use Rattle.fancy_expr.specs.declared.expr.Expr.{Expr}
use Rattle.fancy_expr.specs.Views.{tree_of}
use Rattle.fancy_pattern.specs.declared.reader.Reader.{Reader}
use Rattle.fancy_tokens.specs.declared.tokens.Quantifier.{Quantifier}
use Rattle.fancy_tokens.specs.declared.tokens.Suffix.{Suffix}
use Rattle.fancy_tokens.specs.declared.tokens.Suffix.TheVariants.{Turned, Possessive}
use Rattle.fancy_tokens.specs.Tokens.{Placed}
use Rattle.fancy_pattern.specs.Grammar.{Names, first_gives, is_at, is_empty, quantifier, node_of, node, suffixed, Takes, SpellsSuffix}
use Rattle.fancy_pattern.specs.Reading.{point_of, Skips, Adds, Pushes, Quantifies, alone, by, SpellsSome, none_read, PushesRow}
use Rattle.fancy_pattern.proofs.OneChars.{with_part}
use Rattle.fancy_pattern.proofs.Points.{takes_next, piece_spelled, filtered}
use Rattle.fancy_pattern.proofs.Rows.{row_more}
use Rattle.fancy_pattern.proofs.WhereStuck.{piece_begins}

-- a loop is something
loop_is_some : (q : Quantifier) (greedy : Bool) (s : Option Suffix) (e : Tree) → is_empty (suffixed q greedy s e) ≡ false
loop_is_some q greedy None e = refl
loop_is_some q greedy (Some Turned) e = refl
loop_is_some q greedy (Some Possessive) e = refl

quantified_some : {e r : Tree} {x z : List Placed} → Quantifies e x z r → is_empty e ≡ false → is_empty r ≡ false
quantified_some (alone h) some = some
quantified_some {e = e} (by {q = q} {s = s} may t more) some = loop_is_some q.0 q.1 s e

-- a literal, and what its quantifier makes of it
pub literal_read : (names : Names) (c : ℕ) (casei : Bool) (old mid new : Reader) (below all : List Expr) (r : Result (Unit {0}) AllocError) →
    first_gives (node_of names) (point_of old) ≡ Some (Literal c casei) → Skips old mid →
    IfOk r (λ u. Pushes (Quantifies (Literal c casei)) mid new below all) → IfOk r (λ u. Pushes (SpellsSome names) old new below all)
literal_read names c casei old mid new below all (Ok u) is s h =
    record {
      read = h.read;
      adds = h.adds;
      spelled = (
        piece_spelled names (Literal c casei) h.read (point_of old) (point_of mid) (point_of new)
            (node (takes_next (node_of names) (Literal c casei) old mid is s)) h.spelled,
        quantified_some h.spelled refl,
      );
    }
literal_read names c casei old mid new below all (Err f) is s h = tt

-- a literal without a quantifier
pub literal_alone : (c : ℕ) (casei : Bool) (now : Reader) (below all : List Expr) (r : Result (Unit {0}) AllocError) →
    is_at quantifier (point_of now) ≡ false → IfOk r (λ u. Adds (Literal c casei) below all) →
    IfOk r (λ u. Pushes (Quantifies (Literal c casei)) now now below all)
literal_alone c casei now below all (Ok u) calm h = record { read = Literal c casei; adds = h; spelled = alone calm }
literal_alone c casei now below all (Err f) calm h = tt

-- with one
pub literal_repeated : (c : ℕ) (casei : Bool) (q : Quantifier) (greedy : Bool) (s : Option Suffix) (old mid new : Reader) (below all : List Expr)
    (r : Result (Unit {0}) AllocError) → Takes quantifier (point_of old) (q, greedy) (point_of mid) → SpellsSuffix (point_of mid) (point_of new) s →
    IfOk r (λ u. Adds (suffixed q greedy s (Literal c casei)) below all) → IfOk r (λ u. Pushes (Quantifies (Literal c casei)) old new below all)
literal_repeated c casei q greedy s old mid new below all (Ok u) t more h =
    record { read = suffixed q greedy s (Literal c casei); adds = h; spelled = by refl t more }
literal_repeated c casei q greedy s old mid new below all (Err f) t more h = tt

-- ---- rows

pub row_begins : (names : Names) (r : Reader) (nodes : List Expr) → PushesRow names r r nodes nodes
row_begins names r nodes = record { read = []; row = none_read; added = sym (append-nil (map tree_of nodes)); one_char = λ h. h }

-- a piece more
pub row_goes_on : (names : Names) (start old new : Reader) (below made all : List Expr) → PushesRow names start old below made →
    Pushes (SpellsSome names) old new made all → PushesRow names start new below all
row_goes_on names start old new below made all r p =
    let adds = p.adds in
    let spelled = p.spelled in
    record {
      read = r.read ++ p.read ∷ [];
      row = row_more r.row (piece_begins spelled.0) spelled.0;
      added =
          ap (map tree_of) adds.added
          ∙ map-append tree_of made (adds.node ∷ [])
          ∙ ap (λ t. map tree_of made ++ t ∷ []) adds.made
          ∙ ap (λ l. l ++ p.read ∷ []) r.added
          ∙ append_assoc (map tree_of below) (filter (λ e. not (is_empty e)) r.read) (p.read ∷ [])
          ∙ ap (λ l. map tree_of below ++ l) (one_more r.read p.read spelled.1);
      one_char = λ h. with_part made all adds.node adds.added adds.one_char (r.one_char h);
    }
  where
    one_more : (es : List Tree) (e : Tree) → is_empty e ≡ false →
        filter (λ x. not (is_empty x)) es ++ e ∷ [] ≡ filter (λ x. not (is_empty x)) (es ++ e ∷ [])
    one_more es e some = sym (filtered es e ∙ ap (λ b. filter (λ x. not (is_empty x)) es ++ cond b [] (e ∷ [])) some)
