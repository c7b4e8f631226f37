-- The lines that are selected, one after the other.
use Rattle.std.proofs.Common.{◌≡◌, ◌≢◌, ◌-◌, ◌==◌, if◌then◌else◌, slice_index, ap₂, drop, drop-cons, drop_of_length-le, eqb-true, inl, inr, ℕ, suc, ◌≤◌, ◌<◌, length, take, Bool, false, true, Bor, IfSome, Option, Some, None, is_some, option_map, List, [], ◌∷◌, ◌++◌, map, append_assoc, append-nil, Result, Ok, Err, refl, sym, ap, subst, ◌∙◌, arith}
use Rattle.std.specs.Str.Lines.{strip_carriage_return}
use Rattle.std.proofs.lemmas.List.{length-append, length-map, map-append, take-append-drop, take-append-le, take_all}
use Rattle.std.proofs.lemmas.List.Elements.{filter-append}
use Rattle.std.proofs.lemmas.Option.{none-some, same_Some}
use Rattle.fancy_meaning.specs.Options as plain
use Rattle.fancy_meaning.specs.Premises.{Input}
use Rattle.fancy_literals.specs.Required.{IsRequired, Lacks, required_of}
use Rattle.fancy_literals.specs.Required as plain_required
use Rattle.fancy_literals.specs.declared.required.Required.{Required}
use Rattle.fancy_matches.specs.Listing.{begun_at}
use Rattle.fancy_matches.proofs.Stepping.{of_same, same_twice}
use Rattle.fancy_regex.specs.Regexes.{FindsWhether, IsSame}
use Rattle.fancy_regex.specs.declared.error.Error.{Error}
use Rattle.fancy_regex.specs.declared.regexes.Regex.{Regex}
use Rattle.fancy_grep.specs.Context.{AreRising, numbers_of}
use Rattle.fancy_grep.specs.Lines.{Line, line_of, lines, lines_of}
use Rattle.fancy_grep.specs.Matching.{Grows, Helps, IsRegexFor, LeavesFrom, StopsAt, TakesLine, TellsMatch, has_match, is_selected, selected}
use Rattle.fancy_grep.specs.Occurrences.{sought, sought_in}
use Rattle.fancy_grep.specs.Standing.{IsLineIn}
use Rattle.fancy_grep.specs.declared.matching.Choice.{Choice}
use Rattle.fancy_grep.specs.declared.occurrences.Occurrences.{Occurrences}
use Rattle.fancy_grep.specs.declared.lines.Line as code
use Rattle.fancy_grep.proofs.LineLaws.{AreCounted, numbered_counts}
use Rattle.fancy_grep.proofs.StandingLaws.{line_in_text}

-- what a search tells of a line
pub tells_match : (i : Input) (o : List ℕ → plain.RunOptions) (line : List ℕ) (r : Result Bool Error) →
    FindsWhether i line (begun_at (o line) 0) r → TellsMatch i o line r
tells_match i o line (Ok found) h = h.1
tells_match i o line (Err e) h = h

-- ---- the regex stays the same

pub is_same : (r : Regex) → IsSame r r
is_same r = record { engine = (refl, refl); names = refl; pattern = refl; options = refl }

pub is_same_still : (r s t : Regex) → IsSame r s → IsSame s t → IsSame r t
is_same_still r s t a b = record {
  engine = same_twice r.engine s.engine t.engine a.engine b.engine;
  names = b.names ∙ a.names;
  pattern = b.pattern ∙ a.pattern;
  options = b.options ∙ a.options;
}

pub is_for_same : (i : Input) (o : List ℕ → plain.RunOptions) (r s : Regex) → IsSame r s → IsRegexFor i o r → IsRegexFor i o s
is_for_same i o r s same h = λ text. of_same r.engine s.engine i text (o text) same.engine (h text)

-- ---- the numbers rise

-- the numbers rise from this one on, and are below the next one
abbrev pub RiseTo : ℕ → ℕ → List ℕ → Type 0
RiseTo least next [] = least ≤ next
RiseTo least next (n ∷ ns) = (least ≤ n) × RiseTo (suc n) next ns

pub rise : (least next : ℕ) (ns : List ℕ) → RiseTo least next ns → AreRising least ns
rise least next [] h = tt
rise least next (n ∷ ns) h = (h.0, rise (suc n) next ns h.1)

pub rise_on : (least next : ℕ) (ns : List ℕ) → RiseTo least next ns → RiseTo least (suc next) ns
rise_on least next [] h = omega arith
rise_on least next (n ∷ ns) h = (h.0, rise_on (suc n) next ns h.1)

pub rise_with : (least next : ℕ) (ns : List ℕ) → RiseTo least next ns → RiseTo least (suc next) (ns ++ next ∷ [])
rise_with least next [] h = (h, omega arith)
rise_with least next (n ∷ ns) h = (h.0, rise_with (suc n) next ns h.1)

-- a line more, or none
pub rises_with : (next : ℕ) (line : code.Line) (before after : List code.Line) → line.number ≡ next → Grows line before after →
    RiseTo 1 next (numbers_of before) → RiseTo 1 (suc next) (numbers_of after)
rises_with next line before after is (inl same) h = subst (λ ls. RiseTo 1 (suc next) (numbers_of ls)) (sym same) (rise_on 1 next (numbers_of before) h)
rises_with next line before after is (inr more) h =
    let one = rise_with 1 next (numbers_of before) h in
    let ends : RiseTo 1 (suc next) (numbers_of before ++ line.number ∷ []) = subst (λ n. RiseTo 1 (suc next) (numbers_of before ++ n ∷ [])) (sym is) one in
    subst (λ ls. RiseTo 1 (suc next) (numbers_of ls)) (sym more)
    (subst (RiseTo 1 (suc next)) (sym (map-append (λ (l : code.Line). l.number) before (line ∷ []))) ends)

-- ---- so many lines at most

pub still_few : (most : ℕ) (line : code.Line) (before after : List code.Line) → length before < most → Grows line before after →
    length after ≤ most
still_few most line before after few (inl same) = omega (arith, few, ap length same)
still_few most line before after few (inr more) = omega (arith, few, ap length more, length-append before (line ∷ []))

-- ---- what is selected

module _ (i : Input) (o : List ℕ → plain.RunOptions) (choice : Choice) where
  pub none_selected : selected i o choice [] ≡ []
  none_selected = refl

  pub selected_with : (before : List Line) (line : Line) → selected i o choice (before ++ line ∷ []) ≡ selected i o choice before ++ selected i o choice (line ∷ [])
  selected_with before line = filter-append (is_selected i o choice) before (line ∷ [])

-- ---- what is looked for

-- this is required, if something is
abbrev pub IsRequiredOf : Input → Option (Bor Required) → Type 0
IsRequiredOf i required = IfSome required (λ r. IsRequired (required_of r.now) true i)

-- it is looked for in this text
abbrev pub IsSoughtIn : Option (Bor Required) → List ℕ → Option Occurrences → Type 0
IsSoughtIn required text o = sought_in o ≡ option_map (λ r. (required_of r.now, text)) required

pub helps : (i : Input) (line : code.Line) (text : List ℕ) (required : Option (Bor Required)) (o : Option Occurrences) →
    IsSoughtIn required text o → IsRequiredOf i required → IsLineIn text (line_of line) → Helps i line o
helps i line text required None same is_required is = tt
helps i line text None (Some s) same is_required is = absurd (none-some (sought s) (sym same))
helps i line text (Some r) (Some s) same is_required is =
    let both = same_Some (sought s) (required_of r.now, text) same in (
      subst (λ p. IsRequired p true i) (sym (ap (λ p. p.0) both)) is_required,
      subst (λ t. IsLineIn t (line_of line)) (sym (ap (λ p. p.1) both)) is,
    )

-- a text that does not end in a carriage return

return_by : (l : List ℕ) (b : Bool) → (b ≡ true → ⊥) → l ≡ (if b then take (length l - 1) l else l)
return_by l true none = absurd (none refl)
return_by l false none = refl

last_return : (l : List ℕ) → 0 < length l → (slice_index l (length l - 1) == 13) ≡ true → l ≡ take (length l - 1) l ++ 13 ∷ []
last_return l some e =
    let n = length l - 1 in
    let end : drop (suc n) l ≡ [] = drop_of_length-le l {i = suc n} (omega arith) in
    let last : slice_index l n ≡ 13 = eqb-true _ 13 e in
    sym (take-append-drop n l) ∙ ap (λ d. take n l ++ d) (drop-cons l n 0 (omega (arith, some)) ∙ ap₂ (λ b bs. b ∷ bs) last end)

pub return_kept : (l : List ℕ) → ((front : List ℕ) → l ≢ front ++ 13 ∷ []) → l ≡ strip_carriage_return l
return_kept [] none = refl
return_kept (b ∷ bs) none = return_by (b ∷ bs) _ (λ e. none _ (last_return (b ∷ bs) (omega arith) e))

pub searched_whole : (b : Bool) (text : List ℕ) → text ≡ strip_carriage_return text → text ≡ (if b then strip_carriage_return text else text)
searched_whole true text is = is
searched_whole false text is = refl

-- it helps with a part of a line that stands wherever the line does
pub helps_part : (i : Input) (line part : code.Line) (o : Option Occurrences) →
    ((text : List ℕ) → IsLineIn text (line_of line) → IsLineIn text (line_of part)) → Helps i line o → Helps i part o
helps_part i line part None stands h = tt
helps_part i line part (Some s) stands h = (h.0, stands s.text.now h.1)

-- a line that is not searched has no match
pub has_no_match : (i : Input) (o : List ℕ → plain.RunOptions) (r : plain_required.Required) (line : List ℕ) → IsRequired r true i → Lacks r line →
    has_match i o line ≡ false
has_no_match i o r line required lacks = ap is_some (required line (begun_at (o line) 0) lacks)

-- ---- a search line by line

-- So far the search of a text has come: these lines were found, the regex is so, and these lines of the text are left.
pub record Searched (r : Regex) (required : Option (Bor Required)) (choice : Choice) (text : List ℕ) (lines : List code.Line) (s : Regex)
    (now : Option Occurrences) (left : List Line) : Type 0 where
  pub before : List Line
  pub split : lines_of text ≡ before ++ left
  pub selects : (i : Input) (o : List ℕ → plain.RunOptions) → IsRegexFor i o r → IsRequiredOf i required →
      map line_of lines ≡ selected i o choice before
  pub is_sought : IsSoughtIn required text now
  pub next : ℕ
  pub counted : AreCounted next left
  pub rises : RiseTo 1 next (numbers_of lines)
  pub same : IsSame r s

-- what is known of a line that was taken
pub record Took (s : Regex) (now : Option Occurrences) (choice : Choice) (line : code.Line) (lines : List code.Line)
    (result : Result (Unit {0}) Error) (more : List code.Line) (t : Regex) (after : Option Occurrences) : Type 0 where
  pub promise : (i : Input) (o : List ℕ → plain.RunOptions) → IsRegexFor i o s → Helps i line now → TakesLine i o choice line lines result more
  pub still : sought_in after ≡ sought_in now
  pub grows : Grows line lines more
  pub same : IsSame s t

module _ (r : Regex) (required : Option (Bor Required)) (choice : Choice) (text : List ℕ) where
  pub searched_none : (now : Option Occurrences) (left : List Line) → IsSoughtIn required text now → left ≡ lines_of text →
      Searched r required choice text [] r now left
  searched_none now left same is = record {
    before = [];
    split = sym is;
    selects = λ i o h required. refl;
    is_sought = same;
    next = 1;
    counted = subst (AreCounted 1) (sym is) (numbered_counts 1 0 (lines text));
    rises = omega arith;
    same = is_same r;
  }

  module _ (lines more : List code.Line) (s t : Regex) (now after : Option Occurrences) (line : code.Line) (rest : List Line)
      (h : Searched r required choice text lines s now (line_of line ∷ rest)) where
    -- the line stands in the text, so what is looked for helps
    line_helps : (i : Input) → IsRequiredOf i required → Helps i line now
    line_helps i is_required =
        helps i line text required now h.is_sought is_required
        (line_in_text text h.before 1 0 text (line_of line) rest (omega arith) refl h.split)

    pub searched_more : (u : Unit {0}) → Took s now choice line lines (Ok u) more t after →
        Searched r required choice text more t after rest
    searched_more u took = record {
      before = h.before ++ line_of line ∷ [];
      split = h.split ∙ sym (append_assoc h.before (line_of line ∷ []) rest);
      selects = λ i o is required.
          took.promise i o (is_for_same i o r s h.same is) (line_helps i required)
          ∙ ap (λ ls. ls ++ selected i o choice (line_of line ∷ [])) (h.selects i o is required)
          ∙ sym (selected_with i o choice h.before (line_of line));
      is_sought = took.still ∙ h.is_sought;
      next = suc h.next;
      counted = h.counted.1;
      rises = rises_with h.next line lines more h.counted.0 took.grows h.rises;
      same = is_same_still r s t h.same took.same;
    }

    pub searched_stops : (e : Error) → Took s now choice line lines (Err e) more t after →
        (i : Input) (o : List ℕ → plain.RunOptions) → IsRegexFor i o r → IsRequiredOf i required →
        StopsAt i o choice text (map line_of more) line.number e
    searched_stops e took i o is required =
        let taken = took.promise i o (is_for_same i o r s h.same is) (line_helps i required) in record {
          before = h.before;
          line = line_of line;
          after = rest;
          split = h.split;
          at = refl;
          selects = ap (map line_of) taken.0 ∙ h.selects i o is required;
          fails = taken.1;
        }

    pub stopped_few : (e : Error) → Took s now choice line lines (Err e) more t after → (most : ℕ) → length lines < most →
        (i : Input) (o : List ℕ → plain.RunOptions) → IsRegexFor i o r → IsRequiredOf i required → length more < most
    stopped_few e took most few i o is required =
        omega (arith, few, ap length (took.promise i o (is_for_same i o r s h.same is) (line_helps i required)).0)

    pub stopped_rises : (e : Error) → Took s now choice line lines (Err e) more t after → AreRising 1 (numbers_of more)
    stopped_rises e took = rise 1 (suc h.next) (numbers_of more) (rises_with h.next line lines more h.counted.0 took.grows h.rises)

    pub stopped_same : (e : Error) → Took s now choice line lines (Err e) more t after → IsSame r t
    stopped_same e took = is_same_still r s t h.same took.same

  -- from this line on nothing is searched
  pub left_from : (lines : List code.Line) (s : Regex) (now : Option Occurrences) (line : code.Line) (rest : List Line) →
      Searched r required choice text lines s now (line_of line ∷ rest) → (i : Input) (o : List ℕ → plain.RunOptions) → IsRegexFor i o r →
      IsRequiredOf i required → LeavesFrom i o choice text (map line_of lines) line.number
  left_from lines s now line rest h i o is required = record {
    before = h.before;
    line = line_of line;
    after = rest;
    split = h.split;
    at = refl;
    selects = h.selects i o is required;
  }

  module _ (lines : List code.Line) (s : Regex) (now : Option Occurrences) (left : List Line) where
    pub searched_all : Searched r required choice text lines s now left → left ≡ [] → (i : Input) (o : List ℕ → plain.RunOptions) →
        IsRegexFor i o r → IsRequiredOf i required → map line_of lines ≡ selected i o choice (lines_of text)
    searched_all h none i o is required =
        h.selects i o is required ∙ ap (selected i o choice) (sym (append-nil h.before) ∙ sym (h.split ∙ ap (λ l. h.before ++ l) none))

    -- so many are found, and the lines that are left are not searched
    pub searched_most : (most : ℕ) → Searched r required choice text lines s now left → length lines ≤ most → most ≤ length lines →
        (i : Input) (o : List ℕ → plain.RunOptions) → IsRegexFor i o r → IsRequiredOf i required →
        map line_of lines ≡ take most (selected i o choice (lines_of text))
    searched_most most h few many i o is required =
        let long = length-map lines line_of in
        sym
        (ap (λ ls. take most (selected i o choice ls)) h.split ∙ ap (take most) (filter-append (is_selected i o choice) h.before left)
        ∙ ap (λ ls. take most (ls ++ selected i o choice left)) (sym (h.selects i o is required))
        ∙ take-append-le most (map line_of lines) (selected i o choice left) (omega (arith, many, long))
        ∙ take_all most (map line_of lines) (omega (arith, few, long)))

    -- no line is left
    pub searched_few : (most : ℕ) → Searched r required choice text lines s now left → length lines ≤ most → left ≡ [] →
        (i : Input) (o : List ℕ → plain.RunOptions) → IsRegexFor i o r → IsRequiredOf i required →
        map line_of lines ≡ take most (selected i o choice (lines_of text))
    searched_few most h few none i o is required =
        let all = searched_all h none i o is required in
        all ∙ sym (take_all most (selected i o choice (lines_of text)) (omega (arith, few, ap length all, length-map lines line_of)))

    pub all_rises : Searched r required choice text lines s now left → AreRising 1 (numbers_of lines)
    all_rises h = rise 1 h.next (numbers_of lines) h.rises
