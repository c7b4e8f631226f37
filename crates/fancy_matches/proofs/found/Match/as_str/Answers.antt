use Rattle.fancy_laws.proofs.Characters.{cut_of_place}
use Rattle.fancy_matches.proofs.found.Match.as_str.Goals as goal

pub range-requires-clause-start_boundary : goal.range-requires-clause-start_boundary
range-requires-clause-start_boundary c =
    λ _. cut_of_place c.args.self.now.text.now c.args.self.now.start c.args.self.now.in_text.from

pub range-requires-clause-end_boundary : goal.range-requires-clause-end_boundary
range-requires-clause-end_boundary c =
    cut_of_place c.args.self.now.text.now c.args.self.now.end c.args.self.now.in_text.to
