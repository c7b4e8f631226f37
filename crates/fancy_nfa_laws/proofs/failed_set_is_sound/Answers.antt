use Rattle.fancy_nfa_laws.proofs.PlainSearch.{failed_set_is_sound}
use Rattle.fancy_nfa_laws.proofs.failed_set_is_sound.Goals as goal

pub returns : goal.returns
returns c = failed_set_is_sound
