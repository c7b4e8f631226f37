use Rattle.std.proofs.Common.{sym, ap, ◌∙◌}
use Rattle.fancy_characters.specs.Classes.{class_of}
use Rattle.fancy_code.proofs.ClassTable.{classes_with_key}
use Rattle.fancy_code.proofs.classes.SharedClasses.get.Goals as goal

pub returns-in-Some-clause-class : goal.returns-in-Some-clause-class
returns-in-Some-clause-class c =
    let there = sym (rw (c.as_str.ensures.value, c.in_ok-key.ensures) at c.in-Some.ensures.value) in
    ap class_of c.in_ok-clone-in-Some.ensures.cases ∙ (c.args.self.now.known c.args.unicode c.args.casei c.args.inner.now c.in-Some.class.now there).0

pub returns-in-Some-clause-is_class : goal.returns-in-Some-clause-is_class
returns-in-Some-clause-is_class c =
    let there = sym (rw (c.as_str.ensures.value, c.in_ok-key.ensures) at c.in-Some.ensures.value) in
    (c.args.self.now.known c.args.unicode c.args.casei c.args.inner.now c.in-Some.class.now there).1

pub invariant_of-self-2 : goal.invariant_of-self-2
invariant_of-self-2 c =
    let same = ap class_of (c.in_ok-clone.ensures.cases ∙ c.in_ok-shared.ensures.ok) in record {
      known = classes_with_key c.args.self.now.classes c.insert.new.self c.in_ok-key.key c.in_ok-clone.field-0 c.args.unicode c.args.casei c.args.inner.now
          c.in_ok-key.ensures
          (same ∙ c.in_ok-class.ensures.class, c.in_ok-class.ensures.is_class) c.args.self.now.known c.insert.result c.insert.ensures.updates
          c.insert.ensures.err;
    }
