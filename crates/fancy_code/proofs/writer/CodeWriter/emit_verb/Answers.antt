use Rattle.std.proofs.Common.{◌∷◌, [], refl, sym, subst}
use Rattle.fancy_meaning.specs.Tree as plain
use Rattle.fancy_meaning.specs.AnalysisRefusals as refusal
use Rattle.fancy_expr.specs.Views.{verb_of}
use Rattle.fancy_code.specs.Faults.{refused_as, HasRejected}
use Rattle.fancy_code.specs.Sites.{within_node}
use Rattle.fancy_code.specs.Drafts.{draft_of, Writes, written_code}
use Rattle.fancy_code.proofs.Written.{wrong_verb}
use Rattle.fancy_code.proofs.Alone.{wrote_fail}
use Rattle.fancy_code.proofs.writer.CodeWriter.emit_verb.Goals as goal

pub returns-in-Fail : goal.returns-in-Fail
returns-in-Fail c = λ p call at_start in_hard room.
    subst (λ v. Writes p (written_code p call (plain.Control (verb_of v)) at_start in_hard) (plain.Control (verb_of v) ∷ []) (draft_of c.args.self.now)
    (draft_of c.push.new.self))
    (sym c.in-Fail.is)
    (wrote_fail p call at_start in_hard _ _ room (c.push.ensures.writes (within_node p)))

pub returns-in-Accept : goal.returns-in-Accept
returns-in-Accept c = λ p call at_start in_hard room. c.refuse.ensures p _ _
    (subst (λ v. HasRejected p (plain.Control (verb_of v) ∷ []) (refused_as refusal.FeatureNotYetSupported))
    (sym c.in-Accept.is) (wrong_verb p plain.Accept refl))

pub returns-in-Commit : goal.returns-in-Commit
returns-in-Commit c = λ p call at_start in_hard room. c.refuse-in-Commit.ensures p _ _
    (subst (λ v. HasRejected p (plain.Control (verb_of v) ∷ []) (refused_as refusal.FeatureNotYetSupported))
    (sym c.in-Commit.is) (wrong_verb p plain.Commit refl))

pub returns-in-Skip : goal.returns-in-Skip
returns-in-Skip c = λ p call at_start in_hard room. c.refuse-in-Skip.ensures p _ _
    (subst (λ v. HasRejected p (plain.Control (verb_of v) ∷ []) (refused_as refusal.FeatureNotYetSupported)) (sym c.in-Skip.is) (wrong_verb p plain.Skip refl))

pub returns-in-Prune : goal.returns-in-Prune
returns-in-Prune c = λ p call at_start in_hard room. c.refuse-in-Prune.ensures p _ _
    (subst (λ v. HasRejected p (plain.Control (verb_of v) ∷ []) (refused_as refusal.FeatureNotYetSupported))
    (sym c.in-Prune.is) (wrong_verb p plain.Prune refl))
