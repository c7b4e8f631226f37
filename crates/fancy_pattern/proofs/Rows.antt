-- The pieces, the branches and the class texts that were read, up to a place where more may follow.
use Rattle.std.proofs.Common.{◌≡◌, ℕ, ◌≤◌, false, List, [], ◌∷◌, ◌++◌, length, refl, sym, ap, ◌∙◌, subst, arith}
use Rattle.std.proofs.lemmas.Bool.{true≢false}
use Rattle.fancy_meaning.specs.Tree.{Tree}
use Rattle.fancy_tokens.specs.Tokens.{Placed}
use Rattle.fancy_pattern.specs.Stuck.{Within, whole, Alike}
use Rattle.fancy_pattern.specs.Reading.{Row, none_read, one_read}
use Rattle.fancy_pattern.specs.Grammar.{Names, Takes, is_branch_end, bar, class_text, SpellsClass, class_end, class_piece, SpellsPiece, SpellsPieces, no_piece, piece, SpellsBranch, SpellsBars, no_bar, barred}
use Rattle.fancy_pattern.proofs.Lengths as lengths
use Rattle.fancy_pattern.proofs.Splits as splits
use Rattle.fancy_pattern.proofs.OneSpelling.{one_token, one_piece, one_branch, there_or_not, clash, text_or_end}
use Rattle.fancy_pattern.proofs.Moved.{Calm, Follows, Moved, tested_alike, token_moved, piece_moved, branch_moved}

-- ---- pieces

pub row_more : {names : Names} {x y z : List Placed} {es : List Tree} {e : Tree} → Row names x y es → is_branch_end y ≡ false → SpellsPiece names y z e →
    Row names x z (es ++ e ∷ [])
row_more none_read on p = one_read on p none_read
row_more (one_read at q more) on p = one_read at q (row_more more on p)

pub row_within : {names : Names} {x y : List Placed} {es : List Tree} → Row names x y es → Within y x
row_within none_read = whole
row_within (one_read on p more) = splits.on (splits.one_piece p) (row_within more)

pub row_moved : {names : Names} {r r' x x' y : List Placed} {es : List Tree} → Row names x y es → length r ≤ length y → (length y ≡ length r → Calm r r') →
    Alike r r' x x' → Moved (Row names) r r' y x' es
row_moved {x' = x'} none_read h c l = record { behind = x'; alike = l; spelled = none_read }
row_moved (one_read on p more) h c l =
    let i = lengths.one_piece p in
    let j = splits.shorter (row_within more) in
    let m = piece_moved p (omega (arith, h, j)) (λ e. c (omega (arith, h, j, e))) l in
    let n = row_moved more h c m.alike in
    record {
      behind = n.behind;
      alike = n.alike;
      spelled = one_read (tested_alike is_branch_end false (λ p ps qs. refl) l (λ e. absurd (omega (arith, h, i, j, e))) on) m.spelled n.spelled;
    }

-- what follows pieces that were read
pub row_rest : {names : Names} {x x' y z : List Placed} {es ds : List Tree} → x ≡ x' → Row names x y es → SpellsPieces names x' z ds →
    (us : List Tree) × SpellsPieces names y z us
row_rest {names = names} {z = z} {ds = ds} q none_read s = (ds, subst (λ x. SpellsPieces names x z ds) (sym q) s)
row_rest q (one_read on p more) (no_piece h) = absurd (true≢false (sym h ∙ ap is_branch_end (sym q) ∙ on))
row_rest q (one_read on p more) (piece at s rest) = let h = one_piece q p s in row_rest h.1 more rest

pub row_then : {names : Names} {x y z : List Placed} {es us : List Tree} → Row names x y es → SpellsPieces names y z us →
    (vs : List Tree) × SpellsPieces names x z vs
row_then {us = us} none_read s = (us, s)
row_then (one_read {e = e} on p more) s = let r = row_then more s in (e ∷ r.0, piece on p r.1)

-- two rows are one
pub row_both : {names : Names} {x y z : List Placed} {es ds : List Tree} → Row names x y es → Row names y z ds → Row names x z (es ++ ds)
row_both none_read s = s
row_both (one_read on p more) s = one_read on p (row_both more s)

-- pieces that were read, and those behind them
pub row_pieces : {names : Names} {x y z : List Placed} {es ds : List Tree} → Row names x y es → SpellsPieces names y z ds → SpellsPieces names x z (es ++ ds)
row_pieces none_read s = s
row_pieces (one_read on p more) s = piece on p (row_pieces more s)

-- ---- branches, each behind a bar

pub data BarRow (names : Names) : List Placed → List Placed → List Tree → Type 0 where
  none_barred : {x : List Placed} → BarRow names x x []
  one_barred : {x y z u : List Placed} {e : Tree} {es : List Tree} → Takes bar x tt y → SpellsBranch names y z e → BarRow names z u es →
      BarRow names x u (e ∷ es)

pub bar_row_more : {names : Names} {x y z u : List Placed} {es : List Tree} {e : Tree} → BarRow names x y es → Takes bar y tt z → SpellsBranch names z u e →
    BarRow names x u (es ++ e ∷ [])
bar_row_more none_barred t b = one_barred t b none_barred
bar_row_more (one_barred s a more) t b = one_barred s a (bar_row_more more t b)

pub bar_row_within : {names : Names} {x y : List Placed} {es : List Tree} → BarRow names x y es → Within y x
bar_row_within none_barred = whole
bar_row_within (one_barred t b more) = splits.on (splits.takes t) (splits.on (splits.one_branch b) (bar_row_within more))

pub bar_row_moved : {names : Names} {r r' x x' y : List Placed} {es : List Tree} → BarRow names x y es → length r ≤ length y →
    (length y ≡ length r → Follows r r') → Alike r r' x x' → Moved (BarRow names) r r' y x' es
bar_row_moved {x' = x'} none_barred h f l = record { behind = x'; alike = l; spelled = none_barred }
bar_row_moved (one_barred t b more) h f l =
    let i = lengths.one_branch b in
    let j = splits.shorter (bar_row_within more) in
    let m = token_moved t (omega (arith, h, i, j)) l in
    let n = branch_moved b (omega (arith, h, j)) (λ e. f (omega (arith, h, j, e))) m.alike in
    let o = bar_row_moved more h f n.alike in
    record { behind = o.behind; alike = o.alike; spelled = one_barred m.spelled n.spelled o.spelled }

pub bar_row_rest : {names : Names} {x x' y z : List Placed} {es ds : List Tree} → x ≡ x' → BarRow names x y es → SpellsBars names x' z ds →
    (us : List Tree) × SpellsBars names y z us
bar_row_rest {names = names} {z = z} {ds = ds} q none_barred s = (ds, subst (λ x. SpellsBars names x z ds) (sym q) s)
bar_row_rest q (one_barred t b more) (no_bar h) = there_or_not (sym q) h t
bar_row_rest q (one_barred t b more) (barred s d rest) = let i = one_token q t s in let h = one_branch i.1 b d in bar_row_rest h.1 more rest

pub bar_row_then : {names : Names} {x y z : List Placed} {es us : List Tree} → BarRow names x y es → SpellsBars names y z us →
    (vs : List Tree) × SpellsBars names x z vs
bar_row_then {us = us} none_barred s = (us, s)
bar_row_then (one_barred {e = e} t b more) s = let r = bar_row_then more s in (e ∷ r.0, barred t b r.1)

-- ---- texts of a class

pub data TextRow : List Placed → List Placed → List ℕ → Type 0 where
  none_text : {x : List Placed} → TextRow x x []
  one_text : {x y z : List Placed} {piece text : List ℕ} → Takes class_text x piece y → TextRow y z text → TextRow x z (piece ++ text)

pub text_row_more : {x y z : List Placed} {text piece : List ℕ} → TextRow x y text → Takes class_text y piece z → (all : List ℕ) × TextRow x z all
text_row_more {piece = p} none_text t = (p ++ [], one_text t none_text)
text_row_more (one_text {piece = q} s more) t = let r = text_row_more more t in (q ++ r.0, one_text s r.1)

pub text_row_within : {x y : List Placed} {text : List ℕ} → TextRow x y text → Within y x
text_row_within none_text = whole
text_row_within (one_text t more) = splits.on (splits.takes t) (text_row_within more)

pub text_row_moved : {r r' x x' y : List Placed} {text : List ℕ} → TextRow x y text → length r ≤ length y → Alike r r' x x' → Moved TextRow r r' y x' text
text_row_moved {x' = x'} none_text h l = record { behind = x'; alike = l; spelled = none_text }
text_row_moved (one_text t more) h l =
    let j = splits.shorter (text_row_within more) in
    let m = token_moved t (omega (arith, h, j)) l in
    let n = text_row_moved more h m.alike in
    record { behind = n.behind; alike = n.alike; spelled = one_text m.spelled n.spelled }

pub text_row_rest : {x x' y z : List Placed} {text all : List ℕ} → x ≡ x' → TextRow x y text → SpellsClass x' z all → (left : List ℕ) × SpellsClass y z left
text_row_rest {z = z} {all = all} q none_text s = (all, subst (λ x. SpellsClass x z all) (sym q) s)
text_row_rest q (one_text t more) (class_end s) = clash (text_or_end _) q t s
text_row_rest q (one_text t more) (class_piece s rest) = let h = one_token q t s in text_row_rest h.1 more rest

pub text_row_then : {x y z : List Placed} {text left : List ℕ} → TextRow x y text → SpellsClass y z left → (all : List ℕ) × SpellsClass x z all
text_row_then {left = left} none_text s = (left, s)
text_row_then (one_text {piece = p} t more) s = let r = text_row_then more s in (p ++ r.0, class_piece t r.1)
