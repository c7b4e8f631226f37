use Rattle.std.proofs.Common.{◌≡◌, ◌-◌, ◌≤◌, length}
use Rattle.regex_hir.specs.Re.{Re}
use Rattle.regex_hir.specs.Find.{find_str}
use Rattle.fancy_hybrid.specs.Engines.{Searches}
use Rattle.fancy_hybrid.proofs.engine.Engine.find.Given as goal

abbrev pub invariant-starts : goal.invariant-starts
invariant-starts l =
    (l.at ≤ length l.text) × (l.fn.start ≤ l.at)
    × ((re : Re) → Searches re l.fn.self → find_str re l.text l.fn.start ≡ find_str re l.text l.at)
    × (l.self.dfa ≡ l.fn.self.dfa) × (l.self.cells ≡ l.fn.self.cells)

abbrev pub decreases-starts : goal.decreases-starts
decreases-starts l = length l.text - l.at
