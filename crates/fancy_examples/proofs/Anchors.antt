-- Where a match can begin.
use Rattle.std.specs.Prelude.{◌≡◌, true, false, [], ◌∷◌, refl}
use Rattle.fancy_meaning.specs.Numbering.{numbered}
use Rattle.fancy_meaning.specs.Tree.{ContinueFromPreviousMatchEnd, KeepOut, StartLine, StartText}
use Rattle.fancy_meaning.specs.Laws.{can_be_anchored}
use Rattle.fancy_meaning.specs.Marks.{has_marked_continue}
use Rattle.fancy_examples.proofs.Notation.{lit, cat, alt, grp, rep, assert, ahead, row}

text_start : can_be_anchored (assert StartText) ≡ true
unfolding row
text_start = refl

continuing_first : can_be_anchored (cat (ContinueFromPreviousMatchEnd ∷ lit "a" ∷ [])) ≡ true
unfolding row
continuing_first = refl

text_start_first : can_be_anchored (cat (assert StartText ∷ lit "a" ∷ [])) ≡ true
unfolding row
text_start_first = refl

no_sequence : can_be_anchored (cat []) ≡ false
unfolding row
no_sequence = refl

continuing_alone : can_be_anchored ContinueFromPreviousMatchEnd ≡ false
unfolding row
continuing_alone = refl

group_of_text_start : can_be_anchored (grp (assert StartText)) ≡ false
unfolding row
group_of_text_start = refl

text_start_later : can_be_anchored (cat (lit "a" ∷ assert StartText ∷ [])) ≡ false
unfolding row
text_start_later = refl

line_start_first : can_be_anchored (cat (assert (StartLine false) ∷ lit "a" ∷ [])) ≡ false
unfolding row
line_start_first = refl

sequence_in_a_sequence : can_be_anchored (cat (cat (assert StartText ∷ []) ∷ lit "a" ∷ [])) ≡ false
unfolding row
sequence_in_a_sequence = refl

branches_of_text_start : can_be_anchored (alt (assert StartText ∷ assert StartText ∷ [])) ≡ false
unfolding row
branches_of_text_start = refl

begins_in_groups : (let e = numbered 1 (grp (cat (grp ContinueFromPreviousMatchEnd ∷ lit "a" ∷ []))) in has_marked_continue e e) ≡ true
unfolding row
begins_in_groups = refl

begins_past_nothing : (let e =
    numbered 1 (cat (ahead (lit "ab") ∷ assert (StartLine false) ∷ KeepOut ∷ ContinueFromPreviousMatchEnd ∷ [])) in
    has_marked_continue e e) ≡ true
unfolding row
begins_past_nothing = refl

does_not_begin_past_a_letter : (let e = numbered 1 (cat (lit "a" ∷ ContinueFromPreviousMatchEnd ∷ [])) in has_marked_continue e e) ≡ false
unfolding row
does_not_begin_past_a_letter = refl

does_not_begin_past_an_option : (let e = numbered 1 (cat (rep 0 1 (lit "a") ∷ ContinueFromPreviousMatchEnd ∷ [])) in has_marked_continue e e) ≡ false
unfolding row
does_not_begin_past_an_option = refl

does_not_begin_in_a_branch : (let e =
    numbered 1 (alt (ContinueFromPreviousMatchEnd ∷ ContinueFromPreviousMatchEnd ∷ [])) in has_marked_continue e e)
    ≡ false
unfolding row
does_not_begin_in_a_branch = refl

does_not_begin_in_a_look_ahead : (let e = numbered 1 (ahead ContinueFromPreviousMatchEnd) in has_marked_continue e e) ≡ false
unfolding row
does_not_begin_in_a_look_ahead = refl
