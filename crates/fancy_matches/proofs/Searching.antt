-- A search of a matcher: which options it may have, and that it answers as is promised.
use Rattle.std.proofs.Common.{IfSome, ◌≡◌, ◌≤◌, ℕ, true, List, [], length, Option, Some, None, Ok, is_some, option_map, refl, sym, ap, subst}
use Rattle.std.proofs.Math.Logic.{∥∥₁_elim}
use Rattle.std.proofs.Props.{props}
use Rattle.std.proofs.lemmas.Bool.{and_parts, and_from}
use Rattle.std.proofs.lemmas.Option.{none-some, same_Some}
use Rattle.std.specs.declared.vec.Vec.{Vec}
use Rattle.std.specs.declared.alloc.Global.{Global}
use Rattle.fancy_meaning.specs.Answer.{answer, search_of}
use Rattle.fancy_meaning.specs.Fits.{run_fits}
use Rattle.fancy_meaning.specs.MatchState.{Span}
use Rattle.fancy_meaning.specs.Places.{is_place}
use Rattle.fancy_meaning.specs.Premises.{Input, plan, IsSpan, IsText}
use Rattle.fancy_steps.specs.Outcomes.{first_pair}
use Rattle.fancy_steps.specs.Tasks.{options_of as run_options_of, task_of}
use Rattle.fancy_program.specs.declared.insn.Prog.{Prog}
use Rattle.fancy_steps.specs.declared.options.RunOptions.{RunOptions}
use Rattle.fancy_search.specs.declared.search.Compiled.{Compiled}
use Rattle.fancy_search.specs.Searches.{HasSource, IsCompiledFrom, Promises, PromisesPair, program}
use Rattle.fancy_program.proofs.FitsLaws.{run_place}
use Rattle.fancy_matches.specs.Listing.{AreSpans, begun_at, options_for}
use Rattle.fancy_matches.specs.Matchers.{shown_match, with_numbers, with_span}
use Rattle.fancy_matches.specs.declared.found.Match.{Match}
use Rattle.fancy_matches.proofs.Lists.{AreNumbers, answer_sound, numbers_found, spans_of_pairs}

-- options that fit the empty text fit every text from any of its places on
pub fits_at : (prog : Prog) (base o : RunOptions) (text : List ℕ) → run_fits (task_of prog [] base) ≡ true →
    is_place text o.pos ≡ true → o.not_empty ≡ base.not_empty → o.leftmost_longest ≡ base.leftmost_longest →
    run_fits (task_of prog text o) ≡ true
unfolding run_fits
fits_at prog base o text fits at empty longest =
    let rest = (and_parts (is_place [] base.pos) _ fits).1 in
    and_from (is_place text o.pos) _ at (rw (empty, longest) rest)

pub fits_begun : (prog : Prog) (base o : RunOptions) (asked : Option ℕ) (text : List ℕ) (pos : ℕ) → run_fits (task_of prog [] base) ≡ true →
    is_place text pos ≡ true → run_options_of o ≡ begun_at (options_for (run_options_of base) asked text) pos →
    run_fits (task_of prog text o) ≡ true
fits_begun prog base o asked text pos fits at is =
    fits_at prog base o text fits (subst (λ p. is_place text p ≡ true) (sym (ap (λ q. q.pos) is)) at)
    (ap (λ q. q.not_empty) is) (ap (λ q. q.leftmost_longest) is)

pub fits_listed : (prog : Prog) (base o : RunOptions) (asked : Option ℕ) (text : List ℕ) → run_fits (task_of prog [] base) ≡ true →
    run_options_of o ≡ options_for (run_options_of base) asked text → run_fits (task_of prog [] o) ≡ true
fits_listed prog base o asked text fits is =
    fits_at prog base o [] fits (subst (λ p. is_place [] p ≡ true) (sym (ap (λ q. q.pos) is)) (run_place (task_of prog [] base) fits))
    (ap (λ q. q.not_empty) is) (ap (λ q. q.leftmost_longest) is)

-- ---- what was found lies in the text, whatever tree the program is of

pub captures_sound : (compiled : Compiled) (text : List ℕ) (o : RunOptions) (numbers : Vec ℕ Global) → IsText text →
    is_place text o.pos ≡ true → HasSource compiled →
    ((i : Input) → IsCompiledFrom i compiled → Promises i text (run_options_of o) (Ok (Some numbers))) →
    AreNumbers text o.pos numbers.items × AreSpans text numbers.items
captures_sound compiled text o numbers is at source promise =
    ∥∥₁_elim source (Prim.hlevel props) (λ from.
    let sound = numbers_found (search_of (plan from.0) text (run_options_of o)) numbers.items is at (sym (promise from.0 from.1).1) in
    (sound.0, spans_of_pairs text numbers.items sound.1))

pair_is_span : (text : List ℕ) (pos start end : ℕ) (x : Option (List ℕ)) → IfSome x (AreNumbers text pos) →
    Some (start, end) ≡ option_map first_pair x → IsSpan text (start, end) × (pos ≤ end)
pair_is_span text pos start end None h e = absurd (none-some _ (sym e))
pair_is_span text pos start end (Some m) h e =
    subst (λ (p : Span). IsSpan text p × (pos ≤ p.1)) (sym (same_Some (start, end) (first_pair m) e)) (h.whole, h.on)

pub pair_sound : (compiled : Compiled) (text : List ℕ) (o : RunOptions) (start end : ℕ) → IsText text →
    is_place text o.pos ≡ true → HasSource compiled →
    ((i : Input) → IsCompiledFrom i compiled → PromisesPair i text (run_options_of o) (Ok (Some (start, end)))) →
    IsSpan text (start, end) × (o.pos ≤ end)
pair_sound compiled text o start end is at source promise =
    ∥∥₁_elim source (Prim.hlevel props) (λ from.
    pair_is_span text o.pos start end (answer (search_of (plan from.0) text (run_options_of o)))
    (answer_sound (search_of (plan from.0) text (run_options_of o)) is at) (promise from.0 from.1).1)

-- ---- what is shown of an answer

pub pair_shown : (text : List ℕ) (x : Option (List ℕ)) (found : Option Span) → found ≡ option_map first_pair x →
    option_map (λ span. (text, span)) found ≡ option_map (with_span text) x
pair_shown text None found e = ap (option_map (λ (span : Span). (text, span))) e
pair_shown text (Some m) found e = ap (option_map (λ (span : Span). (text, span))) e

pub numbers_shown : (text : List ℕ) (x found : Option (List ℕ)) → found ≡ x →
    option_map (with_numbers text) found ≡ option_map (with_numbers text) x
numbers_shown text x found e = ap (option_map (with_numbers text)) e

-- whether a match is there, by its span
pub told : (text : List ℕ) (x : Option (List ℕ)) (found : Option Match) → option_map shown_match found ≡ option_map (with_span text) x →
    is_some found ≡ is_some x
told text None None e = refl
told text None (Some m) e = absurd (none-some _ (sym e))
told text (Some n) None e = absurd (none-some _ e)
told text (Some n) (Some m) e = refl
