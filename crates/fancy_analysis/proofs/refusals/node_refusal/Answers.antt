use Rattle.std.proofs.Common.{refl}
use Rattle.fancy_meaning.specs.AnalysisRefusals.{FeatureNotYetSupported}
use Rattle.fancy_expr.proofs.AbsentTests.{absent_same}
use Rattle.fancy_analysis.specs.Refusals.{refusal_of}
use Rattle.fancy_analysis.proofs.refusals.node_refusal.Goals as goal

pub returns-in-Absent : goal.returns-in-Absent
returns-in-Absent c = absent_same refusal_of FeatureNotYetSupported (λ x. refl) (λ x y. refl) (λ x. refl) refl _ _ c.in-Absent.is
