-- Limits of delegates, by the memory of a search.
use Rattle.std.proofs.Common.{◌≡◌, Option, Result, ap, sym, subst}
use Rattle.fancy_expr.specs.declared.error.Error.{Error}
use Rattle.fancy_expr.specs.declared.error.Error.TheVariants.{Memory}
use Rattle.fancy_steps.specs.SearchLimits.{EndsBy, StaysWithin, passed_by}
use Rattle.fancy_search.specs.Scratches.{cost_of, limits_of, passed_of}
use Rattle.fancy_search.specs.declared.scratch.Scratch.{Scratch}
use Rattle.fancy_steps.specs.declared.search_limits.SearchLimit.{SearchLimit}
use Rattle.fancy_host.specs.declared.options.FancyOptions.{FancyOptions}
use Rattle.fancy_host.specs.Hosted.{limits, passed_in}

-- the limit that is passed is one of these options, where the limits are theirs
pub passed_so : (o : FancyOptions) (s : Scratch) → limits_of s ≡ limits o → passed_of s ≡ passed_in o s
passed_so o s is = ap (λ l. passed_by l (cost_of s)) is

-- want of memory says nothing of a limit
pub memory_ends : (e : Error) (passed : Option SearchLimit) → e ≡ Memory → EndsBy e passed
memory_ends e passed is = subst (λ x. EndsBy x passed) (sym is) tt

pub stays_so : {A : Type 0} (result r : Result A Error) (passed : Option SearchLimit) → result ≡ r → StaysWithin result passed → StaysWithin r passed
stays_so result r passed is h = subst (λ x. StaysWithin x passed) is h
