use Rattle.std.proofs.Common.{sym, subst}
use Rattle.fancy_steps.specs.SearchLimits.{EndsBy}
use Rattle.fancy_regex.proofs.error.Error.of_search.Goals as goal

pub returns-in-CompileError-clause-limit : goal.returns-in-CompileError-clause-limit
returns-in-CompileError-clause-limit c h = sym (subst (λ e. EndsBy e c.args.passed) c.in-CompileError.is h)

pub returns-in-RuntimeError-clause-limit : goal.returns-in-RuntimeError-clause-limit
returns-in-RuntimeError-clause-limit c h = sym (subst (λ e. EndsBy e c.args.passed) c.in-RuntimeError.is h)

pub returns-in-TreeFault-clause-limit : goal.returns-in-TreeFault-clause-limit
returns-in-TreeFault-clause-limit c h = sym (subst (λ e. EndsBy e c.args.passed) c.in-TreeFault.is h)

pub returns-in-NestLimitExceeded-clause-limit : goal.returns-in-NestLimitExceeded-clause-limit
returns-in-NestLimitExceeded-clause-limit c h = sym (subst (λ e. EndsBy e c.args.passed) c.in-NestLimitExceeded.is h)
