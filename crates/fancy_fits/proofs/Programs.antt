-- The whole program fits.
use Rattle.std.proofs.Common.{◌≡◌, ℕ, ◌+◌, ◌-◌, ◌*◌, ◌<◌, ◌≤◌, max, Bool, true, false, ◌||◌, not, if◌then◌else◌, nat_lt, List, [], ◌∷◌, ◌++◌, length, Some, refl, sym, ap, ◌∙◌, subst, arith, append_assoc, length-append}
use Rattle.std.specs.Prelude.{slice_get}
use Rattle.std.specs.List.{list_all}
use Rattle.std.proofs.lemmas.Bool.{lt-ltb, le-leb}
use Rattle.std.proofs.Math.Seq.{get_or-append_seam}
use Rattle.std.proofs.lemmas.Option.{slice_get-get_or}
use Rattle.fancy_meaning.specs.Tree.{Tree}
use Rattle.fancy_meaning.specs.Nodes.{nodes}
use Rattle.fancy_meaning.specs.OpenCalls.{no_calls, free_calls}
use Rattle.fancy_meaning.specs.Options.{Plan}
use Rattle.fancy_meaning.specs.Instr.{Instr}
use Rattle.fancy_meaning.specs.Code.{Laid, Code, nothing, one, ◌>>◌}
use Rattle.fancy_meaning.specs.Layout.{root_code, called_code, search_code, edge_code, end_text_code, program_code, group_numbers, first_fresh, program, layout, undelegated_layout}
use Rattle.fancy_meaning.specs.Hard.{is_hard}
use Rattle.fancy_meaning.specs.Fits.{instr_fits, is_end_instr, program_fits}
use Rattle.fancy_meaning.specs.Premises.{plan}
use Rattle.fancy_meaning.specs.Theorems.{LayoutsFit}
use Rattle.fancy_laws.proofs.Every.{Every, no_item, item, every_append}
use Rattle.fancy_fits.proofs.Codes.{both, Good, good_jump, fits_if, fits_nothing}
use Rattle.fancy_fits.proofs.Constructs.{Fits, fits_plain}
use Rattle.fancy_fits.proofs.Known.{Known}
use Rattle.fancy_fits.proofs.Calls.{fits_root, fits_calls}
use Rattle.fancy_fits.proofs.Accepted.{known}

-- the list ends with the end
abbrev EndsWell : List Instr → Type 0
EndsWell is = (before : List Instr) × (is ≡ before ++ Instr.End ∷ [])

last_is_end : (is : List Instr) → EndsWell is → is_end_instr (slice_get is (length is - 1)) ≡ true
last_is_end is e =
    let before = e.0 in
    let sum = length-append before (Instr.End ∷ []) in
    let at : length (before ++ Instr.End ∷ []) - 1 ≡ length before = omega (arith, sum) in
    let there : slice_get (before ++ Instr.End ∷ []) (length before) ≡ Some Instr.End =
    slice_get-get_or (before ++ Instr.End ∷ []) (length before) Instr.End (omega (arith, sum))
    ∙ ap Some (get_or-append_seam before Instr.End [] Instr.End) in
    subst (λ l. is_end_instr (slice_get l (length l - 1)) ≡ true) (sym e.1)
    (ap (λ n. is_end_instr (slice_get (before ++ Instr.End ∷ []) n)) at ∙ ap is_end_instr there)

all_pass : (test : Instr → Bool) {is : List Instr} → Every (λ i. test i ≡ true) is → list_all test is ≡ true
all_pass test no_item = refl
all_pass test (item p h) = both p (all_pass test h)

module _ (len slots : ℕ) where
  -- code that ends: with nothing behind it, its targets lie in it
  record Ends (c : Code) : Type 0 where
    grows : (base fresh : ℕ) → fresh ≤ (c base fresh).fresh
    ends : (base fresh : ℕ) → EndsWell (c base fresh).instrs
    good : (base fresh : ℕ) → (c base fresh).fresh ≤ slots → base + length (c base fresh).instrs ≤ len →
        Every (Good len slots) (c base fresh).instrs

  end_ends : Ends (one Instr.End)
  end_ends = record {
    grows = λ base fresh. omega arith;
    ends = λ base fresh. ([], refl);
    good = λ base fresh s e. item refl no_item;
  }

  next_ends : (a b : Code) → Fits len slots a → Ends b → Ends (a >> b)
  next_ends a b f g = record {
    grows = λ base fresh.
        let first = a base fresh in
        let u = f.grows base fresh in
        let v = g.grows (base + length first.instrs) first.fresh in
        omega (arith, u, v);
    ends = λ base fresh.
        let first = a base fresh in
        let second = g.ends (base + length first.instrs) first.fresh in
        (first.instrs ++ second.0, ap (λ l. first.instrs ++ l) second.1 ∙ sym (append_assoc first.instrs second.0 (Instr.End ∷ [])));
    good = λ base fresh s e.
        let first = a base fresh in
        let second = b (base + length first.instrs) first.fresh in
        let v = g.grows (base + length first.instrs) first.fresh in
        let sum = length-append first.instrs second.instrs in
        let end = g.ends (base + length first.instrs) first.fresh in
        let some = ap length end.1 ∙ length-append end.0 (Instr.End ∷ []) in
        every_append (f.good tt base fresh (omega (arith, s, v)) (omega (arith, e, sum, some)))
        (g.good (base + length first.instrs) first.fresh s (omega (arith, e, sum)));
  }

module _ (p : Plan) (easy : Tree → Bool) where
  abbrev count : ℕ
  count = group_numbers p

  abbrev root : Code
  root = root_code p easy (called_code p easy (free_calls p.analysis.tree no_calls) no_calls) false

  module _ (len slots : ℕ) (two : 2 ≤ slots) (room : 2 * count ≤ slots) (is_known : Known count slots (nodes p.analysis.tree)) where
    fits_search : Fits len slots (search_code p)
    fits_search =
        fits_if len slots p.anchored nothing (one (Instr.SplitUnanchored 3 1) >> one Instr.Any >> one (Instr.Jmp 0))
        (fits_nothing len slots)
        (record {
          grows = λ base fresh. omega arith;
          good = λ c base fresh s e.
              item (both (both (lt-ltb 3 len (omega (arith, e))) (lt-ltb 1 len (omega (arith, e)))) refl)
              (item refl (item (good_jump len slots 0 (omega (arith, e))) no_item));
        })

    fits_edge : (slot : ℕ) → slot < 2 → Fits len slots (edge_code p slot)
    fits_edge slot lt =
        fits_if len slots p.analysis.explicit_capture_group_0 nothing (one (Instr.Save slot)) (fits_nothing len slots)
        (fits_plain len slots (Instr.Save slot) (lt-ltb slot slots (omega (arith, lt, two))))

    fits_end_text : Fits len slots (end_text_code p)
    fits_end_text =
        fits_if len slots p.end_text (one Instr.RejectEmptyMatchAtEOFFollowingNewline) nothing
        (fits_plain len slots Instr.RejectEmptyMatchAtEOFFollowingNewline refl) (fits_nothing len slots)

    program_ends : Ends len slots (program_code p easy)
    program_ends =
        let last = end_text_code p >> one Instr.End in
        let behind = edge_code p 1 >> last in
        let tree = root >> behind in
        next_ends len slots (search_code p) (edge_code p 0 >> tree) fits_search
        (next_ends len slots (edge_code p 0) tree (fits_edge 0 (omega arith))
        (next_ends len slots root behind
        (fits_root p easy len count slots two room is_known (called_code p easy (free_calls p.analysis.tree no_calls) no_calls)
        (fits_calls p easy len count slots two room is_known (free_calls p.analysis.tree no_calls) no_calls) false)
        (next_ends len slots (edge_code p 1) last (fits_edge 1 (omega arith))
        (next_ends len slots (end_text_code p) (one Instr.End) fits_end_text (end_ends len slots)))))

  -- ---- with the slots of the program itself

  module _ (is_known : (slots : ℕ) → 2 ≤ slots → 2 * count ≤ slots → Known count slots (nodes p.analysis.tree)) where
    abbrev laid : Laid
    laid = program_code p easy 0 (first_fresh p)

    abbrev slots : ℕ
    slots = max 2 laid.fresh

    abbrev len : ℕ
    len = length laid.instrs

    -- the slots are not fewer than the first fresh one
    grown : first_fresh p ≤ laid.fresh
    grown =
        let enough = 2 + 2 * count in
        let two : 2 ≤ enough = omega arith in
        let room : 2 * count ≤ enough = omega arith in
        (program_ends 0 enough two room (is_known enough two room)).grows 0 (first_fresh p)

    with_flag : (v : Bool) → 2 * count + (if v then 1 else 0) ≤ slots → (not v || nat_lt (2 * count) slots) ≡ true
    with_flag true le = lt-ltb (2 * count) slots (omega (arith, le))
    with_flag false le = refl

    two : 2 ≤ slots
    two = omega arith

    room : 2 * count ≤ slots
    room = omega (arith, grown)

    pub fits : program_fits (program p easy) ≡ true
    unfolding program_fits
    fits =
        let ends = program_ends len slots two room (is_known slots two room) in
        both
        (both (le-leb 2 slots two) (le-leb (2 * count) slots room))
        (both (last_is_end laid.instrs (ends.ends 0 (first_fresh p)))
        (subst (λ flag. list_all (instr_fits len slots flag) laid.instrs ≡ true) (sym (with_flag p.end_text (omega (arith, grown))))
        (all_pass (instr_fits len slots true) (ends.good 0 (first_fresh p) (omega arith) (omega arith)))))

pub layouts_fit : LayoutsFit
unfolding layout undelegated_layout
layouts_fit i allowed =
    let p = plan i in (
      fits p (λ e. false) (λ slots two room. known i allowed slots two room),
      fits p (λ e. not (is_hard p.analysis e)) (λ slots two room. known i allowed slots two room),
    )
