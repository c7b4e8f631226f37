use Rattle.std.proofs.Common.{refl}
use Rattle.fancy_scanner.proofs.scanner.TreeScanner.scan.Goals as goal

pub returns : goal.returns
returns c = record {
  scanner = refl;
  name = refl;
  within = refl;
  cache = refl;
  cache_name = refl;
  right = λ rules h. h;
}
