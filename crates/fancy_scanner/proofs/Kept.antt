-- What a scan keeps of its trees, one by one.
use Rattle.std.proofs.Common.{◌≡◌, ℕ, zero, suc, true, false, List, [], ◌∷◌, ◌++◌, length, slice_set, Option, Some, None, Ok, refl, sym, ap, ap₂, ◌∙◌, subst, arith, ⊎_elim}
use Rattle.std.specs.Prelude.{option_and_then, slice_get}
use Rattle.std.proofs.lemmas.List.{length-append, length-set}
use Rattle.std.proofs.lemmas.Bool.{true≢false}
use Rattle.std.proofs.lemmas.Bool.Decides.{eqb_tells}
use Rattle.std.proofs.lemmas.Option.{none-some, same_Some}
use Rattle.fancy_matches.specs.Listing.{begun_at}
use Rattle.fancy_matches.specs.Matchers.{FindsCaptures}
use Rattle.fancy_scanner.specs.Kept.{answer_start, found_in, kept_captures}
use Rattle.fancy_scanner.specs.Reuse.{holds_at}
use Rattle.fancy_scanner.specs.Scanning.{IsRuleAt, IsScannerOf, KeepsTrees, Rule, reuse_at, trees_of}
use Rattle.fancy_scanner.specs.Scans.{AreAnswersOf, GoesOn, HasRoom, KeepsLoans, IsAnswerOf, IsScanOf, KeepsHeld, answers_of, holds_for, is_held, text_of}
use Rattle.fancy_scanner.specs.declared.answers.Answer.{Answer}
use Rattle.fancy_scanner.specs.declared.reuse.Reuse.{Reuse}
use Rattle.fancy_scanner.specs.declared.scan_text.TreeScan.{TreeScan}
use Rattle.fancy_scanner.proofs.Holding.{kept_holds}
use Rattle.fancy_scanner.proofs.Reading.{get_other}
use Rattle.fancy_scanner.proofs.Rules.{keeps_itself, keeps_twice, reuse_of, same_rule}

-- ---- a list of answers

module _ (text : List ℕ) where
  pub room_made : (rules : List Rule) (answers : List (Option Answer)) → AreAnswersOf rules text answers →
      AreAnswersOf rules text (answers ++ None ∷ [])
  room_made [] [] h = tt
  room_made (r ∷ rules) [] h = tt
  room_made [] (a ∷ answers) h = tt
  room_made (r ∷ rules) (None ∷ answers) h = room_made rules answers h
  room_made (r ∷ rules) (Some a ∷ answers) h = (h.0, room_made rules answers h.1)

  -- the answer with this number is one for the rule with this number
  pub answer_at : (rules : List Rule) (answers : List (Option Answer)) (k : ℕ) (r : Rule) (a : Answer) → AreAnswersOf rules text answers →
      IsRuleAt rules k r → slice_get answers k ≡ Some (Some a) → IsAnswerOf text r a
  answer_at rules [] k r a h at e = absurd (no_slot e)
    where
      no_slot : None ≡ Some (Some a) → ⊥
      no_slot e = cc
  answer_at [] (x ∷ answers) zero r a h at e = absurd (no_rule at)
    where
      no_rule : [] ≡ r ∷ [] → ⊥
      no_rule e = cc
  answer_at [] (x ∷ answers) (suc k) r a h at e = absurd (no_rule at)
    where
      no_rule : [] ≡ r ∷ [] → ⊥
      no_rule e = cc
  answer_at (q ∷ rules) (None ∷ answers) zero r a h at e = absurd (no_slot e)
    where
      no_slot : Some None ≡ Some (Some a) → ⊥
      no_slot e = cc
  answer_at (q ∷ rules) (Some b ∷ answers) zero r a h at e =
      subst (λ (x : Answer). IsAnswerOf text r x) (same_Some b a (same_Some (Some b) (Some a) e))
      (subst (λ (p : Rule). IsAnswerOf text p b) (same_rule (q ∷ rules) rules q r at) h.0)
  answer_at (q ∷ rules) (None ∷ answers) (suc k) r a h at e = answer_at rules answers k r a h at e
  answer_at (q ∷ rules) (Some b ∷ answers) (suc k) r a h at e = answer_at rules answers k r a h.1 at e

  -- one is put in a place that is one for the rule there
  pub put_answer : (rules : List Rule) (answers : List (Option Answer)) (k : ℕ) (a : Answer) → AreAnswersOf rules text answers →
      ((r : Rule) → IsRuleAt rules k r → IsAnswerOf text r a) → AreAnswersOf rules text (slice_set answers k (Some a))
  put_answer rules [] k a h is = tt
  put_answer [] (x ∷ answers) zero a h is = tt
  put_answer [] (x ∷ answers) (suc k) a h is = tt
  put_answer (r ∷ rules) (None ∷ answers) zero a h is = (is r refl, h)
  put_answer (r ∷ rules) (Some b ∷ answers) zero a h is = (is r refl, h.1)
  put_answer (r ∷ rules) (None ∷ answers) (suc k) a h is = put_answer rules answers k a h is
  put_answer (r ∷ rules) (Some b ∷ answers) (suc k) a h is = (h.0, put_answer rules answers k a h.1 is)

-- ---- what is held

-- what is kept of a tree and holds here
pub record Held (s : TreeScan) (k pos : ℕ) : Type 0 where
  pub reuse : Reuse
  pub answer : Answer
  pub lasts : reuse_at s.scanner.now k ≡ Some reuse
  pub kept : slice_get (answers_of s) k ≡ Some (Some answer)
  pub holds : holds_at reuse answer.from (answer_start answer) pos ≡ true

pub held : (s : TreeScan) (k pos : ℕ) → is_held s k pos ≡ true → Held s k pos
held s k pos e = go (reuse_at s.scanner.now k) (slice_get (answers_of s) k) refl refl e
  where
    go : (l : Option Reuse) (a : Option (Option Answer)) → reuse_at s.scanner.now k ≡ l → slice_get (answers_of s) k ≡ a →
        holds_for l a pos ≡ true → Held s k pos
    go (Some reuse) (Some (Some a)) lasts kept h = record { reuse = reuse; answer = a; lasts = lasts; kept = kept; holds = h }
    go (Some reuse) (Some None) lasts kept h = absurd (true≢false (sym h))
    go (Some reuse) None lasts kept h = absurd (true≢false (sym h))
    go None (Some (Some a)) lasts kept h = absurd (true≢false (sym h))
    go None (Some None) lasts kept h = absurd (true≢false (sym h))
    go None None lasts kept h = absurd (true≢false (sym h))

-- it is what a search for the rule answers from here on
pub held_answers : (s : TreeScan) (k pos : ℕ) → is_held s k pos ≡ true → (rules : List Rule) (r : Rule) → IsScanOf rules s → IsRuleAt rules k r →
    FindsCaptures r.input (text_of s) (begun_at r.options pos) (Ok (kept_captures (answers_of s) k))
held_answers s k pos e rules r h at =
    let now = held s k pos e in
    subst (λ found. FindsCaptures r.input (text_of s) (begun_at r.options pos) (Ok found)) (sym (ap (option_and_then found_in) now.kept))
    (kept_holds (text_of s) r now.answer now.reuse pos (answer_at (text_of s) rules (answers_of s) k r now.answer h.answers at now.kept)
    (reuse_of (text_of s) rules (trees_of s.scanner.now) k r now.reuse h.scanner at now.lasts) now.holds)

-- so it still is where the scan has the same trees and keeps what was held
pub held_still : (s t u : TreeScan) (pos : ℕ) → KeepsTrees s.scanner.now t.scanner.now → KeepsHeld pos s t → KeepsHeld pos t u → KeepsHeld pos s u
held_still s t u pos trees h g = λ k e.
    let same = h k e in
    g k (ap₂ (λ l a. holds_for l a pos) (trees.reuse k) same ∙ e) ∙ same

-- so it is where the answer of a tree is put that was not held
pub put_held : (s : TreeScan) (index pos : ℕ) (y : Option Answer) → is_held s index pos ≡ false → (k : ℕ) → is_held s k pos ≡ true →
    slice_get (slice_set (answers_of s) index y) k ≡ slice_get (answers_of s) k
put_held s index pos y not_held k e = ⊎_elim
    (λ same. absurd (true≢false (sym e ∙ ap (λ j. is_held s j pos) same.1 ∙ not_held)))
    (λ other. get_other (answers_of s) index k y other.1)
    (eqb_tells k index)

get_before : {X : Type 0} (xs ys : List X) (k : ℕ) (x : X) → slice_get xs k ≡ Some x → slice_get (xs ++ ys) k ≡ slice_get xs k
get_before [] ys k x e = absurd (none-some x e)
get_before (z ∷ xs) ys zero x e = refl
get_before (z ∷ xs) ys (suc k) x e = get_before xs ys k x e

-- and where one place more is made
pub room_held : (s : TreeScan) (pos k : ℕ) → is_held s k pos ≡ true → slice_get (answers_of s ++ None ∷ []) k ≡ slice_get (answers_of s) k
room_held s pos k e =
    let now = held s k pos e in get_before (answers_of s) (None ∷ []) k (Some now.answer) now.kept

-- ---- what is left of a scan

pub goes_itself : (s : TreeScan) → GoesOn s s
goes_itself s = record {
  within = refl;
  trees = keeps_itself s.scanner.now;
  loans = record { scanner = refl; cache = refl };
  still = λ rules h. h;
  count = omega arith;
}

same_twice : (s t u : TreeScan) → KeepsLoans s t → KeepsLoans t u → KeepsLoans s u
same_twice s t u h g = record { scanner = g.scanner ∙ h.scanner; cache = g.cache ∙ h.cache }

pub goes_twice : (s t u : TreeScan) → GoesOn s t → GoesOn t u → GoesOn s u
goes_twice s t u h g = record {
  within = g.within ∙ h.within;
  trees = keeps_twice s.scanner.now t.scanner.now u.scanner.now h.trees g.trees;
  loans = same_twice s t u h.loans g.loans;
  still = λ rules of. g.still rules (h.still rules of);
  count = omega (arith, h.count, g.count);
}

pub room_left : (s t : TreeScan) → GoesOn s t → HasRoom s → HasRoom t
room_left s t h room = omega (arith, (h.trees).count, h.count, room)

-- one place more, for the answer of a tree
pub goes_on_room : (s t : TreeScan) → text_of t ≡ text_of s → t.scanner ≡ s.scanner → t.cache.ghost_name ≡ s.cache.ghost_name →
    answers_of t ≡ answers_of s ++ None ∷ [] → GoesOn s t
goes_on_room s t within scanner cache more = record {
  within = within;
  trees = subst (λ m. KeepsTrees s.scanner.now m.now) (sym scanner) (keeps_itself s.scanner.now);
  loans = record { scanner = ap (λ m. m.ghost_name) scanner; cache = cache };
  still = λ rules h. record {
    scanner = subst (λ u. IsScannerOf rules u t.scanner.now) (sym within) (subst (λ m. IsScannerOf rules (text_of s) m.now) (sym scanner) h.scanner);
    answers =
        subst (λ u. AreAnswersOf rules u (answers_of t)) (sym within)
        (subst (AreAnswersOf rules (text_of s)) (sym more) (room_made (text_of s) rules (answers_of s) h.answers));
  };
  count = omega (arith, ap length more, length-append (answers_of s) (None ∷ []));
}

-- places were made for answers, and what is held is kept
pub record MakesRoom (s t : TreeScan) : Type 0 where
  pub goes : GoesOn s t
  pub holds : (pos : ℕ) → KeepsHeld pos s t

pub no_room_yet : (s : TreeScan) → MakesRoom s s
no_room_yet s = record { goes = goes_itself s; holds = λ pos k e. refl }

pub more_room : (s t u : TreeScan) → MakesRoom s t → text_of u ≡ text_of t → u.scanner ≡ t.scanner →
    u.cache.ghost_name ≡ t.cache.ghost_name → answers_of u ≡ answers_of t ++ None ∷ [] → MakesRoom s u
more_room s t u h within scanner cache more = record {
  goes = goes_twice s t u h.goes (goes_on_room t u within scanner cache more);
  holds = λ pos.
      held_still s t u pos (h.goes).trees (h.holds pos) (λ k e. ap (λ l. slice_get l k) more ∙ room_held t pos k e);
}

-- an answer of a search for the tree with this number is kept in the place of the one before
pub goes_on_answer : (s t : TreeScan) (k : ℕ) (a : Answer) → text_of t ≡ text_of s → KeepsTrees s.scanner.now t.scanner.now →
    KeepsLoans s t → answers_of t ≡ slice_set (answers_of s) k (Some a) →
    ((rules : List Rule) (r : Rule) → IsScannerOf rules (text_of s) s.scanner.now → IsRuleAt rules k r → IsAnswerOf (text_of s) r a) →
    GoesOn s t
goes_on_answer s t k a within trees loans put is = record {
  within = within;
  trees = trees;
  loans = loans;
  still = λ rules h. record {
    scanner =
        subst (λ u. IsScannerOf rules u t.scanner.now) (sym within) (trees.same (text_of s) rules h.scanner);
    answers =
        subst (λ u. AreAnswersOf rules u (answers_of t)) (sym within)
        (subst (AreAnswersOf rules (text_of s)) (sym put)
        (put_answer (text_of s) rules (answers_of s) k a h.answers (λ r at. is rules r h.scanner at)));
  };
  count = omega (arith, ap length put, length-set (answers_of s) k (Some a));
}
