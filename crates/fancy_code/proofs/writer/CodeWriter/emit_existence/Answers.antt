use Rattle.std.proofs.Common.{◌∷◌, [], sym, subst}
use Rattle.fancy_meaning.specs.Tree as plain
use Rattle.fancy_meaning.specs.AnalysisRefusals as refusal
use Rattle.fancy_code.specs.Faults.{refused_as, HasRejected}
use Rattle.fancy_code.specs.Sites.{within_node}
use Rattle.fancy_code.specs.Drafts.{draft_of, Writes, written_code}
use Rattle.fancy_code.proofs.Written.{with_level}
use Rattle.fancy_code.proofs.Alone.{wrote_existence}
use Rattle.fancy_code.proofs.writer.CodeWriter.emit_existence.Goals as goal

pub returns-in-Some : goal.returns-in-Some
returns-in-Some c = λ p call at_start in_hard room. c.refuse.ensures p _ _
    (subst (λ l. HasRejected p (plain.BackrefExists c.args.group l ∷ []) (refused_as refusal.FeatureNotYetSupported))
    (sym c.in-Some.is) (with_level p c.args.group _))

pub returns-in-None : goal.returns-in-None
returns-in-None c = λ p call at_start in_hard room.
    subst (λ l. Writes p (written_code p call (plain.BackrefExists c.args.group l) at_start in_hard) (plain.BackrefExists c.args.group l ∷ [])
    (draft_of c.args.self.now) (draft_of c.push.new.self))
    (sym c.in-None.is)
    (wrote_existence p call at_start in_hard _ _ room c.args.group (c.push.ensures.writes (within_node p)))
