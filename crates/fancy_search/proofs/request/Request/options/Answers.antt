use Rattle.fancy_search.proofs.RequestLaws.{request_fits}
use Rattle.fancy_search.proofs.request.Request.options.Goals as goal

pub returns-clause-fits : goal.returns-clause-fits
returns-clause-fits c text at = request_fits c.args.self.now text _ c.analysis.ensures c.compilation.ensures c.running.ensures at
