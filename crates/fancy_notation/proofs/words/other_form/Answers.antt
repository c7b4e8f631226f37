use Rattle.std.proofs.Common.{sym, ap}
use Rattle.fancy_notation.specs.Words.{found, other_forms}
use Rattle.fancy_notation.proofs.words.other_form.Goals as goal

pub returns-in-cat : goal.returns-in-cat
returns-in-cat c = ap (found other_forms) (sym c.in-cat.is)

pub returns-in-alt : goal.returns-in-alt
returns-in-alt c = ap (found other_forms) (sym c.in-alt.is)

pub returns-in-rep : goal.returns-in-rep
returns-in-rep c = ap (found other_forms) (sym c.in-rep.is)

pub returns-in-lazy : goal.returns-in-lazy
returns-in-lazy c = ap (found other_forms) (sym c.in-lazy.is)

pub returns-in-set : goal.returns-in-set
returns-in-set c = ap (found other_forms) (sym c.in-set.is)

pub returns-in-iset : goal.returns-in-iset
returns-in-iset c = ap (found other_forms) (sym c.in-iset.is)

pub returns-in-bytes : goal.returns-in-bytes
returns-in-bytes c = ap (found other_forms) (sym c.in-bytes.is)

pub returns-in-ref : goal.returns-in-ref
returns-in-ref c = ap (found other_forms) (sym c.in-ref.is)

pub returns-in-iref : goal.returns-in-iref
returns-in-iref c = ap (found other_forms) (sym c.in-iref.is)

pub returns-in-reflevel : goal.returns-in-reflevel
returns-in-reflevel c = ap (found other_forms) (sym c.in-reflevel.is)

pub returns-in-has : goal.returns-in-has
returns-in-has c = ap (found other_forms) (sym c.in-has.is)

pub returns-in-haslevel : goal.returns-in-haslevel
returns-in-haslevel c = ap (found other_forms) (sym c.in-haslevel.is)

pub returns-in-verb : goal.returns-in-verb
returns-in-verb c = ap (found other_forms) (sym c.in-verb.is)

pub returns-in-if : goal.returns-in-if
returns-in-if c = ap (found other_forms) (sym c.in-if.is)

pub returns-in-call : goal.returns-in-call
returns-in-call c = ap (found other_forms) (sym c.in-call.is)

pub returns-in-absexp : goal.returns-in-absexp
returns-in-absexp c = ap (found other_forms) (sym c.in-absexp.is)
