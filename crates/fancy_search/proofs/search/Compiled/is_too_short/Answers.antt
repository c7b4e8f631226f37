use Rattle.std.proofs.Common.{◌<◌, length, arith}
use Rattle.fancy_meaning.specs.Numbers.{usize_max}
use Rattle.fancy_search.proofs.TooShort.{finds_none}
use Rattle.fancy_search.proofs.search.Compiled.is_too_short.Goals as goal

pub returns : goal.returns
returns c short =
    let small : length c.args.text.now < usize_max = omega arith in
    finds_none c.args.self.now c.args.text.now c.args.pos (record { utf8 = c.utf8.text; fits = small }) (c.exceeds_rest.ensures short)
