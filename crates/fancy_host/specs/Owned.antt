-- What a handle owns: a compiled tree or a scanner in a box, or nothing.
use base.Fml.{Fml, ftrue}
use base.Stored.{Coded}
use denote.RawPtr.{Ptr}
use Rattle.std.specs.Prelude.{Option, None, Some}
use Rattle.std.specs.Coded.{coded_option}
use Rattle.std.specs.Box.Ownership.{box_owns}
use Rattle.std.specs.Global.{Global}
use Rattle.std.specs.contracts.impls.GlobalAllocator.TheImpl.{ghosts}
use Rattle.fancy_scanner.specs.contracts.scanner.TreeScanner as of_scanner
use Rattle.fancy_host.specs.contracts.searches.Searcher.{the_row}

abbrev pub owned : Global → Ptr → Option the_row.Denot → Fml
owned alloc at None = ftrue
owned alloc at (Some searcher) = box_owns (ghosts.dealloc_token alloc) the_row at searcher

abbrev pub searcher_coded : Coded (Option the_row.Denot)
searcher_coded = coded_option the_row.coded

abbrev pub owned_scanner : Global → Ptr → Option (of_scanner.the_row).Denot → Fml
owned_scanner alloc at None = ftrue
owned_scanner alloc at (Some scanner) = box_owns (ghosts.dealloc_token alloc) of_scanner.the_row at scanner

abbrev pub scanner_coded : Coded (Option (of_scanner.the_row).Denot)
scanner_coded = coded_option (of_scanner.the_row).coded
