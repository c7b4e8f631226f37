-- How the rows of a scan are written one after the other.
use Rattle.std.proofs.Common.{◌≡◌, ℕ, zero, suc, ◌+◌, ◌*◌, ◌<◌, ◌≤◌, All, List, [], ◌∷◌, ◌++◌, length, drop, take, Option, Some, None, Ok, option_map, refl, sym, ap, ap₂, ◌∙◌, subst, arith, append_assoc, append-nil, length-append}
use Rattle.std.proofs.lemmas.List.{flat_map_more, length-drop, length-take}
use Rattle.std.proofs.lemmas.List.Elements.{All-append, All-nil}
use Rattle.std.proofs.lemmas.Option.{none-some}
use Rattle.fancy_meaning.specs.Answer.{span_numbers}
use Rattle.fancy_meaning.specs.Numbers.{usize_max}
use Rattle.fancy_steps.specs.Outcomes.{first_pair}
use Rattle.fancy_matches.specs.Listing.{group_span}
use Rattle.fancy_matches.specs.Matchers.{numbers_in}
use Rattle.fancy_matches.specs.declared.found.Captures.{Captures}
use Rattle.fancy_scanner.specs.Kept.{kept_captures, shown_whole}
use Rattle.fancy_scanner.specs.Scanning.{Rule, Scans}
use Rattle.fancy_scanner.specs.Scans.{IsWholeIn, found_match}
use Rattle.fancy_scanner.specs.declared.answers.Answer.{Answer}
use Rattle.fancy_scanner.specs.declared.scan_text.TreeMatch.{TreeMatch}
use Rattle.fancy_scanner.specs.declared.scanner.Scan.{Scan}
use Rattle.fancy_scanner.specs.declared.scanner.ScanMatch.{ScanMatch}
use Rattle.fancy_scanner.specs.declared.scanner.Stopped.{Stopped}
use Rattle.fancy_host.specs.declared.outcome.FancyOutcome.{FancyOutcome}
use Rattle.fancy_host.specs.Hosted.{over, over_from, with_count}
use Rattle.fancy_host.specs.Lists.{numbers_of}
use Rattle.fancy_host.specs.Scanned.{ComesTo, Stops, Writes, by_match, group_numbers, next_place, row_of, stays, stopped_numbers, width_of, writes}
use Rattle.fancy_host.proofs.RowsWritten.{over_is, over_then}
use Rattle.fancy_host.proofs.Widths.{pair_has_two}

-- ---- numbers behind what was written

length_over : (new old : List ℕ) → length (over new old) ≡ length old
length_over new old =
    omega (arith, length-append (take (length old) new) (drop (length new) old), length-take (length old) new, length-drop (length new) old)

pub written_more : (done more old room newer : List ℕ) (at : ℕ) → room ≡ over done old → length done ≡ at → at ≤ length room →
    newer ≡ over_from at more room → newer ≡ over (done ++ more) old
written_more done more old room newer at is ends fits so =
    let short : length done ≤ length old = omega (arith, ends, fits, ap length is, length_over done old) in
    so ∙ ap₂ (λ n r. over_from n more r) (sym ends) is ∙ over_then done more old short

-- ---- groups

pub groups_are_wide : (numbers : List ℕ) (n : ℕ) → length (group_numbers numbers n) ≡ 2 * n
groups_are_wide numbers zero = refl
groups_are_wide numbers (suc n) =
    let before = groups_are_wide numbers n in
    let pair = pair_has_two (group_span numbers n) in
    omega (arith, before, pair, length-append (group_numbers numbers n) (span_numbers (group_span numbers n)))

-- the first groups are written, up to this place
pub record GroupsWritten (numbers before : List ℕ) (at groups n to : ℕ) (room : List ℕ) : Type 0 where
  pub few : n ≤ groups
  pub ends : to ≡ at + 2 * n
  pub long : length room ≡ length before
  pub are : (done old : List ℕ) → before ≡ over done old → length done ≡ at → room ≡ over (done ++ group_numbers numbers n) old

pub no_group_written : (numbers before : List ℕ) (at groups : ℕ) → GroupsWritten numbers before at groups 0 at before
no_group_written numbers before at groups = record {
  few = omega arith;
  ends = omega arith;
  long = refl;
  are = λ done old is ends. is ∙ ap (λ d. over d old) (sym (append-nil done));
}

module _ (numbers before : List ℕ) (at groups n to : ℕ) (room : List ℕ) (w : GroupsWritten numbers before at groups n to room) where
  pub group_more : n < groups → at + 2 * groups ≤ length before → (pair newer : List ℕ) → pair ≡ span_numbers (group_span numbers n) →
      newer ≡ over_from to pair room → length newer ≡ length room → GroupsWritten numbers before at groups (n + 1) (to + 2) newer
  group_more lt fits pair newer is_pair so same = record {
    few = omega (arith, lt);
    ends = let ends = w.ends in omega (arith, ends);
    long = same ∙ w.long;
    are = λ done old is starts.
        let wide = groups_are_wide numbers n in
        let ends = w.ends in
        let long = w.long in
        let one : suc n ≡ n + 1 = omega arith in
        written_more (done ++ group_numbers numbers n) pair old room newer to (w.are done old is starts)
        (omega (arith, length-append done (group_numbers numbers n), starts, wide, ends)) (omega (arith, long, fits, lt, ends)) so
        ∙ ap (λ d. over d old)
        (append_assoc done (group_numbers numbers n) pair ∙ ap (λ p. done ++ (group_numbers numbers n ++ p)) is_pair
        ∙ ap (λ k. done ++ group_numbers numbers k) one);
  }

-- ---- a row

pub row_is_wide : (groups index : ℕ) (numbers : List ℕ) (stopped : Option Stopped) → length (row_of groups index numbers stopped) ≡ 2 * groups + 3
row_is_wide groups index numbers stopped = let wide = groups_are_wide numbers groups in omega (arith, wide)

-- its three numbers first, then its groups
pub row_written : (groups index : ℕ) (numbers : List ℕ) (stopped : Option Stopped) (at : ℕ) (pair : ℕ × ℕ) → pair ≡ stopped_numbers stopped →
    (before then after : List ℕ) → at + (2 * groups + 3) ≤ length before → then ≡ over_from at (index ∷ pair.0 ∷ pair.1 ∷ []) before →
    ((done old : List ℕ) → then ≡ over done old → length done ≡ at + 3 → after ≡ over (done ++ group_numbers numbers groups) old) →
    (done old : List ℕ) → before ≡ over done old → length done ≡ at → after ≡ over (done ++ row_of groups index numbers stopped) old
row_written groups index numbers stopped at pair told before then after fits head rest done old is starts =
    let first = index ∷ pair.0 ∷ pair.1 ∷ [] in
    rest (done ++ first) old (written_more done first old before then at is starts (omega (arith, fits)) head)
    (omega (arith, length-append done first, starts))
    ∙ ap (λ d. over d old)
    (append_assoc done first (group_numbers numbers groups)
    ∙ ap (λ (p : ℕ × ℕ). done ++ (index ∷ p.0 ∷ p.1 ∷ group_numbers numbers groups)) told)

-- ---- what a scan found

pub found_so : (answers : List (Option Answer)) (found : Option TreeMatch) (m : TreeMatch) (r : Captures) → found ≡ Some m →
    kept_captures answers m.index ≡ Some r → found_match answers found ≡ Some (record { index = m.index; captures = r })
found_so answers found m r is kept =
    ap (found_match answers) is ∙ ap (option_map (λ c. record { index = m.index; captures = c })) kept

-- the groups of a match are kept
pub not_lost : (answers : List (Option Answer)) (m : TreeMatch) → IsWholeIn answers m → kept_captures answers m.index ≡ None → ⊥
not_lost answers m whole lost = none-some _ (sym (whole ∙ ap (option_map shown_whole) lost))

-- ---- steps of the loop

pub all_one : (P : List ℕ → Type 0) (x : List ℕ) → P x → All P (x ∷ [])
all_one P x h zero d lt = h
all_one P x h (suc k) d lt = absurd (omega (arith, lt))

module _ (rules : List Rule) (text : List ℕ) (groups : ℕ) where
  -- so many rows are written, up to this place, by which the scan came from `from` to `pos`
  pub record Written (from : ℕ) (old : List ℕ) (count at pos : ℕ) (room : List ℕ) : Type 0 where
    pub rows : List (List ℕ)
    pub counts : length rows ≡ count
    pub ends : length (numbers_of rows) ≡ at
    pub within : at ≤ length old
    pub wide : All (λ row. length row ≡ width_of groups) rows
    pub comes : ComesTo rules text groups from rows pos
    pub are : room ≡ over (numbers_of rows) old

  pub none_written : (from : ℕ) (old : List ℕ) → Written from old 0 0 from old
  none_written from old = record {
    rows = [];
    counts = refl;
    ends = refl;
    within = omega arith;
    wide = All-nil (λ row. length row ≡ width_of groups);
    comes = stays;
    are = sym (over_is [] old (omega arith));
  }

  module _ (from : ℕ) (old : List ℕ) (n place pos : ℕ) (room : List ℕ) (w : Written from old n place pos room) where
    pub one_written : (width : ℕ) → width ≡ width_of groups → 2 * groups + 3 < usize_max → place + width ≤ length old →
        (scan : Scan) (found : ScanMatch) → Scans text pos rules (Ok scan) → scan.found ≡ Some found → (next : ℕ) →
        next ≡ next_place text pos (first_pair (numbers_in found.captures)) → (newer : List ℕ) →
        ((done old : List ℕ) → room ≡ over done old → length done ≡ place →
        newer ≡ over (done ++ row_of groups found.index (numbers_in found.captures) scan.stopped) old) →
        Written from old (n + 1) (place + width) next newer
    one_written width is_wide small fits scan found scans is next goes newer puts =
        let row = row_of groups found.index (numbers_in found.captures) scan.stopped in
        let rows = w.rows ++ row ∷ [] in
        let numbers : numbers_of w.rows ++ row ≡ numbers_of rows = flat_map_more (λ (r : List ℕ). r) [] w.rows row in
        let wide = row_is_wide groups found.index (numbers_in found.captures) scan.stopped in
        let more = length-append (numbers_of w.rows) row in
        let same = ap length numbers in
        record {
          rows = rows;
          counts = let counts = w.counts in omega (arith, length-append w.rows (row ∷ []), counts);
          ends = let ends = w.ends in omega (arith, more, same, ends, wide, is_wide, small);
          within = fits;
          wide = All-append (λ r. length r ≡ width_of groups) w.rows (row ∷ []) w.wide
              (all_one (λ r. length r ≡ width_of groups) row (omega (arith, wide, small)));
          comes = subst (ComesTo rules text groups from rows) (sym goes) (by_match w.comes scan found scans is);
          are = puts (numbers_of w.rows) old w.are w.ends ∙ ap (λ xs. over xs old) numbers;
        }

    pub writes_so : (reason outcome : FancyOutcome) → Stops rules text groups (length old) w.rows pos reason → outcome ≡ with_count n reason →
        Writes rules text groups from old pos room outcome
    writes_so reason outcome stop is =
        subst (λ xs. Writes rules text groups from old pos xs outcome) (sym w.are)
        (subst (λ x. Writes rules text groups from old pos (over (numbers_of w.rows) old) x) (ap (λ k. with_count k reason) w.counts ∙ sym is)
        (writes w.rows w.wide (let within = w.within in let ends = w.ends in omega (arith, ends, within)) w.comes stop))
