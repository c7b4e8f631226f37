-- What a handle owns says the same to every thread.
use base.Fraction.{full_share}
use base.Shift.{Keyless}
use mir.Raw.{raw}
use denote.Memory.{lone}
use denote.Param.Send.{IsSend, IsSync, part_keyless, sendable}
use denote.RattleType.{RattleType}
use denote.RawPtr.{Ptr, block_ptr, null_ptr, lies_at}
use Rattle.std.specs.Prelude.{Option, None, Some}
use Rattle.std.specs.Global.{Global}
use Rattle.std.proofs.Crossing as std
use Rattle.std.proofs.MapsCrossing as maps
use Rattle.fancy_search.proofs.ThreadsLaws.{compiled_sends, compiled_syncs, scratch_sends}
use Rattle.fancy_matches.proofs.ThreadsLaws.{regex_sends}
use Rattle.fancy_scanner.specs.contracts.scanner.ScanTree as ScanTree
use Rattle.fancy_scanner.specs.contracts.scanner.TreeScanner as TreeScanner
use Rattle.fancy_host.specs.Owned.{owned, owned_scanner}
use Rattle.fancy_host.specs.contracts.searches.Searcher as Searcher
use Rattle.fancy_host.specs.contracts.tree.CompiledTree as CompiledTree

tree_sends : IsSend CompiledTree.the_field.row
tree_sends = search (compiled_sends, std.crosses, maps.crosses, sendable) depth 60 fits 20000

tree_syncs : IsSync CompiledTree.the_field.row
tree_syncs = search (compiled_syncs, std.crosses, maps.crosses, sendable) depth 60 fits 20000

searcher_sends : IsSend Searcher.the_row
searcher_sends = search (tree_sends, tree_syncs, scratch_sends, std.crosses, sendable) depth 60 fits 20000

rule_sends : IsSend ScanTree.the_field.row
rule_sends = search (regex_sends, std.crosses, sendable) depth 60 fits 20000

scanner_sends : IsSend TreeScanner.the_row
scanner_sends = search (rule_sends, std.crosses, sendable) depth 60 fits 20000

lies : (R : RattleType) → IsSend R → (p : Ptr) (x : R.Denot) → Keyless (lies_at R full_share p x)
lies R s (block_ptr b o) x = part_keyless R s full_share x b o
lies R s null_ptr x = tt

pub owned_keyless : (alloc : Global) (at : Ptr) (searcher : Option (Searcher.the_row).Denot) → Keyless (owned alloc at searcher)
owned_keyless alloc at None = tt
owned_keyless alloc at (Some x) = (lies Searcher.the_row searcher_sends at x, std.frees.frees alloc (raw (lone (Searcher.the_row).mir)) at)

pub scanner_keyless : (alloc : Global) (at : Ptr) (scanner : Option (TreeScanner.the_row).Denot) → Keyless (owned_scanner alloc at scanner)
scanner_keyless alloc at None = tt
scanner_keyless alloc at (Some x) = (lies TreeScanner.the_row scanner_sends at x, std.frees.frees alloc (raw (lone (TreeScanner.the_row).mir)) at)
