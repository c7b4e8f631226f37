use Rattle.fancy_code.specs.Drafts.{draft_of}
use Rattle.fancy_code.proofs.Closings.{ended_group}
use Rattle.fancy_code.proofs.writer.CodeWriter.end_group.Goals as goal

pub returns : goal.returns
returns c = λ p body es s t start h b. ended_group p body es s t (draft_of c.args.self.now) c.args.start start c.args.group _ h b (c.push.ensures.writes p)
