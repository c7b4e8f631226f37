use Rattle.fancy_matches.specs.Matchers.{captures_text, numbers_in}
use Rattle.fancy_replace.specs.Outputs.{Holds}
use Rattle.fancy_replace.proofs.Growing.{grows_if_ok}
use Rattle.fancy_host.proofs.rewriting.append.Goals as goal

pub returns : goal.returns
returns g c =
    grows_if_ok Holds c.args.out.now c.append.new.self c.replace_append.new.out c.args.piece.now
    (g.R.Replacer.replacement_text c.args.replacement.now (captures_text c.args.captures.now) (numbers_in c.args.captures.now))
    c.in_ok-append.ensures c.replace_append.result c.replace_append.ensures
