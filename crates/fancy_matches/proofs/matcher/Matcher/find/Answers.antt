use Rattle.std.proofs.lemmas.Str.{IsCharBoundary-start}
use Rattle.fancy_laws.proofs.Characters.{place_of_cut}
use Rattle.fancy_matches.proofs.matcher.Matcher.find.Goals as goal

pub find_from-requires : goal.find_from-requires
find_from-requires c = place_of_cut c.args.text.now 0 (IsCharBoundary-start c.args.text.now c.utf8.text)
