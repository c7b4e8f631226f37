use Rattle.std.proofs.Common.{refl, sym, ap, subst}
use Rattle.std.proofs.lemmas.List.{length-set}
use Rattle.fancy_steps.specs.SearchLimits.{StaysWithin}
use Rattle.fancy_scanner.specs.declared.scanner.ScanTree.{ScanTree}
use Rattle.fancy_scanner.proofs.Passed.{passed_of}
use Rattle.fancy_scanner.proofs.Reading.{get_other, get_same}
use Rattle.fancy_scanner.proofs.Rules.{reuse_put, same_put, tree_at}
use Rattle.fancy_scanner.proofs.scanner.TreeScanner.captures_of.Goals as goal

pub returns-clause-promise : goal.returns-clause-promise
returns-clause-promise c = λ rules r h at.
    let x = c.index_mut.result.now in
    let of = tree_at c.args.text.now rules c.args.self.now.trees.items c.args.index r x h at c.requires.within c.index_mut.ensures.value in
    c.captures_from.ensures.promise r.input r.options of.matcher

pub returns-clause-same : goal.returns-clause-same
returns-clause-same c =
    let trees = c.args.self.now.trees.items in
    let x = c.index_mut.result.now in
    let y : ScanTree = record { matcher = c.captures_from.new.self; reuse = x.reuse } in
    record {
      count = length-set trees c.args.index y;
      reuse = reuse_put trees c.args.index x y c.index_mut.ensures.value refl;
      same = λ text rules h. same_put text rules trees c.args.index x y h c.index_mut.ensures.value c.captures_from.ensures.same refl;
    }

pub returns-clause-stays : goal.returns-clause-stays
returns-clause-stays c =
    let trees = c.args.self.now.trees.items in
    let y : ScanTree = record { matcher = c.captures_from.new.self; reuse = c.index_mut.result.now.reuse } in
    subst (StaysWithin c.captures_from.result) (sym (ap passed_of (get_same trees c.args.index y c.requires.within)))
    c.captures_from.ensures.stays

pub returns-clause-others : goal.returns-clause-others
returns-clause-others c = λ k ne. ap passed_of (get_other c.args.self.now.trees.items c.args.index k _ ne)
