-- A batch enumerates the first way of its nodes: literals, one class, one `Any`, nodes without a name, or a delegate.
use Rattle.std.proofs.Common.{◌≡◌, ℕ, Bool, true, false, if◌then◌else◌, List, [], ◌∷◌, map, take, Option, Some, None, encode_utf8_all, refl, sym, ap, ◌∙◌, subst, map-id}
use Rattle.std.specs.List.{list_any}
use Rattle.std.specs.Char.{IsScalar}
use Rattle.std.proofs.lemmas.List.Concat.{flat_map_single}
use Rattle.fancy_meaning.specs.Tree.{Tree, Trees, none, more, Any, Literal, Delegate, Concat}
use Rattle.fancy_meaning.specs.MatchState.{MatchState, Ways, in_order}
use Rattle.fancy_meaning.specs.Ways.{ways_with}
use Rattle.fancy_meaning.specs.Instr.{Instr}
use Rattle.fancy_meaning.specs.Moves.{past_bytes, past_char}
use Rattle.fancy_meaning.specs.Chars.{is_class, any_takes, class_takes}
use Rattle.fancy_meaning.specs.Batches.{all_joined, literal_chars, each_literal, literal_instr, class_code, any_instr, pattern_of, fragment, group_range, delegate_code, batch_code, batch}
use Rattle.fancy_meaning.specs.Code as code
use Rattle.fancy_meaning.specs.Code.{Code}
use Rattle.fancy_meaning.specs.CompileRefusals.{IsWritten, IsAmong, here, there, part}
use Rattle.fancy_laws.proofs.Every.{Every, no_item, item, every_append}
use Rattle.fancy_delegation.proofs.EasyNodes.{IsEasy}
use Rattle.fancy_composed.proofs.Continuations.{Ground}
use Rattle.fancy_composed.proofs.Parts.{at_place, moves_at, setting, whole, Simulates}
use Rattle.fancy_composed.proofs.Simulates.{simulates_as, simulates_nothing, simulates_moves}
use Rattle.fancy_composed.proofs.Atoms.{simulates_any, simulates_class}
use Rattle.fancy_composed.proofs.Ready.{Ready}
use Rattle.fancy_headline.proofs.Literals.{Chars, skip_all, bytes_of_all, joined_parts, list_takes_chars}
use Rattle.fancy_headline.proofs.Nameless.{list_stays}
use Rattle.fancy_headline.proofs.Delegates.{IsSteady, IsNumbered, simulates_delegate}

-- neighbours without a name, and with one
pub no_name : (unicode : Bool) (es : List Tree) → pattern_of unicode es ≡ [] → delegate_code unicode es ≡ code.nothing
no_name unicode es e = rw e refl

pub some_name : (unicode : Bool) (es : List Tree) (c : ℕ) (cs : List ℕ) → pattern_of unicode es ≡ c ∷ cs →
    delegate_code unicode es ≡ code.one (Instr.Delegate (c ∷ cs) (fragment unicode es) (group_range es))
some_name unicode es c cs e = rw e refl

-- all characters of literal nodes that are written out are characters
module _ (w : Ground) (r : Ready w) where
  abbrev Scalars : Chars → Type 0
  Scalars cs = Every (λ c. IsScalar c.0) cs

  mutual
    scalars_of : (e : Tree) (cs : Chars) → IsWritten (whole w) e → literal_chars e ≡ Some cs → Scalars cs
    scalars_of (Literal c casei) cs wr e =
        let same : (c, casei) ∷ [] ≡ cs = cc in
        subst Scalars same (item (r.fine (Literal c casei) (r.there (Literal c casei) wr)) no_item)
    scalars_of (Concat es) cs wr e = scalars_of_each es cs (λ d m. part wr m) e
    scalars_of _ cs wr e = cc

    scalars_of_each : (es : Trees) (cs : Chars) → ((d : Tree) → IsAmong d es → IsWritten (whole w) d) →
        all_joined (each_literal es) ≡ Some cs → Scalars cs
    scalars_of_each none cs wr e = let same : [] ≡ cs = cc in subst Scalars same no_item
    scalars_of_each (more d ds) cs wr e =
        let p = joined_parts (literal_chars d) (each_literal ds) cs e in
        subst Scalars (sym p.4)
        (every_append (scalars_of d p.0 (wr d here) p.2) (scalars_of_each ds p.1 (λ x m. wr x (there m)) p.3))

  scalars_of_list : {es : List Tree} (cs : Chars) → Every (IsWritten (whole w)) es →
      all_joined (map literal_chars es) ≡ Some cs → Scalars cs
  scalars_of_list cs no_item e = let same : [] ≡ cs = cc in subst Scalars same no_item
  scalars_of_list cs (item {x = d} {xs = ds} wr wrs) e =
      let p = joined_parts (literal_chars d) (map literal_chars ds) cs e in
      subst Scalars (sym p.4) (every_append (scalars_of d p.0 wr p.2) (scalars_of_list p.1 wrs p.3))

  -- ---- literals

  simulates_chars : (cs : Chars) → Scalars cs →
      Simulates w (code.one (literal_instr (w.plan).unicode cs))
      (λ s. at_place s (skip_all (w.plan).unicode (w.task).text cs s.place))
  simulates_chars cs ok = by_fold (list_any (λ c. c.1) cs) refl
    where
      text : List ℕ
      text = (w.task).text

      unicode : Bool
      unicode = (w.plan).unicode

      by_fold : (v : Bool) → list_any (λ c. c.1) cs ≡ v →
          Simulates w (code.one (if v then Instr.LitCasei cs unicode else Instr.Lit (encode_utf8_all (map (λ c. c.0) cs))))
          (λ s. at_place s (skip_all unicode text cs s.place))
      by_fold true e =
          simulates_moves w (Instr.LitCasei cs unicode) (λ s. skip_all unicode text cs s.place)
          (λ s slots a marks bs count so st. refl)
      by_fold false e =
          simulates_as w (λ s. at_place s (skip_all unicode text cs s.place))
          (simulates_moves w (Instr.Lit (encode_utf8_all (map (λ c. c.0) cs)))
          (λ s. past_bytes text (encode_utf8_all (map (λ c. c.0) cs)) s.place) (λ s slots a marks bs count so st. refl))
          (λ s so. ap (at_place s) (bytes_of_all unicode text cs s.place e ok))

  -- one place at most is the first
  first_place : (s : MatchState) (o : Option ℕ) → take 1 (at_place s o) ≡ at_place s o
  first_place s None = refl
  first_place s (Some i) = refl

  -- ---- any batch

  module _ (meant : ℕ → Ways) where
    abbrev pub first_of : List Tree → Ways
    first_of es s = take 1 (in_order (map (ways_with (setting w) meant) es) s)

    abbrev Steady : List Tree → Type 0
    Steady es = (s : MatchState) → Every (IsSteady (w.plan).end_text s) (in_order (map (ways_with (setting w) meant) es) s)

    simulates_literals : {es : List Tree} (cs : Chars) → Every (IsWritten (whole w)) es →
        all_joined (map literal_chars es) ≡ Some cs →
        Simulates w (code.one (literal_instr (w.plan).unicode cs)) (first_of es)
    simulates_literals {es} cs wr e =
        simulates_as w (first_of es) (simulates_chars cs (scalars_of_list cs wr e))
        (λ s so.
        sym
        (ap (take 1) (list_takes_chars (setting w) meant es cs e s)
        ∙ first_place s (skip_all (w.plan).unicode (w.task).text cs s.place)))

    -- a node alone, that takes one character
    alone : (e : Tree) (f : ℕ → Option ℕ) (c : Code) →
        ((s : MatchState) → ways_with (setting w) meant e s ≡ at_place s (f s.place)) →
        Simulates w c (ways_with (setting w) meant e) → Simulates w c (first_of (e ∷ []))
    alone e f c is p =
        simulates_as w (first_of (e ∷ [])) p
        (λ s so. is s
        ∙ sym
        (ap (take 1)
        (flat_map_single (λ t. t) (ways_with (setting w) meant e s) ∙ map-id (ways_with (setting w) meant e s) ∙ is s)
        ∙ first_place s (f s.place)))

    module _ {es : List Tree} (wr : Every (IsWritten (whole w)) es) (easy : Every (IsEasy (w.plan).analysis) es)
        (numbered : Every (IsNumbered w) es) (steady : Steady es) where
      simulates_named : Simulates w (delegate_code (w.plan).unicode es) (first_of es)
      simulates_named = by_name (pattern_of (w.plan).unicode es) refl
        where
          by_name : (t : List ℕ) → pattern_of (w.plan).unicode es ≡ t →
              Simulates w (delegate_code (w.plan).unicode es) (first_of es)
          by_name [] e =
              subst (λ c. Simulates w c (first_of es)) (sym (no_name (w.plan).unicode es e))
              (simulates_as w (first_of es) (simulates_nothing w)
              (λ s so.
              sym
              (ap (take 1)
              (list_stays (setting w) meant (w.plan).analysis (whole w) (λ d wd. r.fine d (r.there d wd)) wr easy e s))))
          by_name (c ∷ cs) e =
              subst (λ x. Simulates w x (first_of es)) (sym (some_name (w.plan).unicode es c cs e))
              (simulates_delegate w (c ∷ cs) (group_range es) es meant easy numbered steady)

    one_class : (inner : List ℕ) (casei : Bool) → is_class (w.plan).unicode inner casei ≡ true →
        Simulates w (class_code (w.plan).unicode inner casei) (first_of (Delegate inner casei ∷ []))
    one_class inner casei there' =
        alone (Delegate inner casei) (past_char (w.task).text (class_takes (w.plan).unicode inner casei))
        (class_code (w.plan).unicode inner casei)
        (λ s.
        moves_at (setting w) (past_char (w.task).text (class_takes (w.plan).unicode inner casei)) s
        (past_char (w.task).text (class_takes (w.plan).unicode inner casei) s.place) refl)
        (simulates_class w (w.plan).unicode inner casei there')

    one_any : (newline crlf : Bool) → Simulates w (code.one (any_instr newline crlf)) (first_of (Any newline crlf ∷ []))
    one_any newline crlf =
        alone (Any newline crlf) (past_char (w.task).text (any_takes newline crlf)) (code.one (any_instr newline crlf))
        (λ s.
        moves_at (setting w) (past_char (w.task).text (any_takes newline crlf)) s
        (past_char (w.task).text (any_takes newline crlf) s.place) refl)
        (simulates_any w newline crlf)

    -- where a class is written, it is one
    abbrev Classes : Type 0
    Classes =
        (inner : List ℕ) (casei : Bool) → IsWritten (whole w) (Delegate inner casei) → is_class
        (w.plan).unicode inner casei ≡ true

    by_shape : Classes → (o : Option Chars) (es : List Tree) → all_joined (map literal_chars es) ≡ o →
        Every (IsWritten (whole w)) es → Every (IsEasy (w.plan).analysis) es →
        Every (IsNumbered w) es → Steady es → Simulates w (batch_code (w.plan).unicode o es) (first_of es)
    by_shape known (Some cs) es e wr easy numbered steady = simulates_literals cs wr e
    by_shape known None (Delegate inner casei ∷ []) e (item wd no_item) easy numbered steady =
        one_class inner casei (known inner casei wd)
    by_shape known None (Any newline crlf ∷ []) e wr easy numbered steady = one_any newline crlf
    by_shape known None es e wr easy numbered steady = simulates_named wr easy numbered steady

    pub simulates_batch : Classes → (es : List Tree) → Every (IsWritten (whole w)) es → Every (IsEasy (w.plan).analysis) es →
        Every (IsNumbered w) es → Steady es →
        Simulates w (batch (w.plan).unicode es) (first_of es)
    simulates_batch known [] wr easy numbered steady = simulates_as w (first_of []) (simulates_nothing w) (λ s so. refl)
    simulates_batch known (e ∷ es) wr easy numbered steady =
        by_shape known (all_joined (map literal_chars (e ∷ es))) (e ∷ es) refl wr easy numbered steady
