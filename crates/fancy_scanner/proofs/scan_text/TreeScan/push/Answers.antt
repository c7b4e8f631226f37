use Rattle.std.proofs.Common.{◌++◌, ◌∷◌, [], IfErr, OnOk, OnErr, Result, Ok, Err, ap, ◌∙◌, subst, sym}
use Rattle.std.specs.Prelude.{slice_get}
use Rattle.fancy_scanner.specs.Scanning.{trees_of}
use Rattle.fancy_scanner.specs.Scans.{AreAnswersOf, answers_of, text_of}
use Rattle.fancy_scanner.proofs.OrderSteps.{answers_of_more, answers_taken, held_taken}
use Rattle.fancy_scanner.proofs.scan_text.TreeScan.push.Goals as goal

on_ok : {A E P Q : Type 0} (r : Result A E) → (P → Q) → OnOk r P → OnOk r Q
on_ok (Ok x) f h = f h
on_ok (Err e) f h = tt

on_err : {A E P Q : Type 0} (r : Result A E) → (P → Q) → IfErr r (λ _. P) → OnErr r Q
on_err (Ok x) f h = tt
on_err (Err e) f h = f h

pub returns-clause-ok : goal.returns-clause-ok
returns-clause-ok c =
    let s = c.args.self.now in
    let text = text_of s in
    on_ok c.push.result
    (λ more rules r h tree. record {
      scanner = more text rules r h.scanner tree;
      answers =
          subst (AreAnswersOf (rules ++ r ∷ []) text) (sym c.truncate.ensures.items)
          (answers_of_more text rules (trees_of s.scanner.now) (answers_of s) c.tree_count.result r h.scanner c.tree_count.ensures h.answers);
    })
    c.push.ensures.ok

pub returns-clause-err : goal.returns-clause-err
returns-clause-err c =
    let s = c.args.self.now in
    let text = text_of s in
    on_err c.push.result
    (λ same rules h. record {
      scanner = same text rules h.scanner;
      answers =
          subst (AreAnswersOf rules text) (sym c.truncate.ensures.items)
          (answers_taken text rules (answers_of s) c.tree_count.result h.answers);
    })
    c.push.ensures.err

pub returns-clause-held : goal.returns-clause-held
returns-clause-held c = λ pos k e.
    ap (λ answers. slice_get answers k) c.truncate.ensures.items
    ∙ held_taken c.args.self.now pos c.tree_count.result k c.tree_count.ensures e
