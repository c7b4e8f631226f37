use Rattle.fancy_nfa_laws.proofs.PlainSearch.{plain_search_finds}
use Rattle.fancy_nfa_laws.proofs.plain_search_finds.Goals as goal

pub returns : goal.returns
returns c = plain_search_finds
