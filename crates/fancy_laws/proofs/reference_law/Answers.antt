use Rattle.fancy_laws.proofs.SpansHold.{reference_reads_a_span}
use Rattle.fancy_laws.proofs.reference_law.Goals as goal

pub returns : goal.returns
returns c = reference_reads_a_span
