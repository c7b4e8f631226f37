use Rattle.std.proofs.Common.{◌≡◌, List, Some, Global, length, slice_get, ap₂, refl, sym, subst, ◌∙◌}
use Rattle.std.proofs.lemmas.Option.{slice_get_read}
use Rattle.std.specs.declared.sync.Arc.{Arc}
use Rattle.fancy_scanner.specs.Kept.{kept_captures}
use Rattle.fancy_regex.specs.Scanners.{answers_of}
use Rattle.fancy_regex.specs.declared.names.GroupNames.{GroupNames}
use Rattle.fancy_regex.proofs.Scanning.{kept_with_names, some_named}
use Rattle.fancy_regex.proofs.scanner.ScanText.captures.Goals as goal

pub returns : goal.returns
returns c =
    let self = c.args.self.now in
    let at = c.in-Some.ensures.lookup in
    let names = self.scanner.now.names.items in
    let read = c.deref.result.now in
    let here =
    subst (λ (ns : List (Arc GroupNames Global)). slice_get ns c.args.index ≡ Some c.in-Some.names.now) c.deref.ensures.value
    (slice_get_read read (length read) c.args.index c.in-Some.names.now refl at.3.0 at.1) in
    let kept = kept_captures (answers_of self) c.args.index in
    ap₂ some_named c.in_ok-named.ensures.0 c.in_ok-named.ensures.1
    ∙ kept_with_names names c.args.index kept c.in-Some.names.now c.in-Some-captures.groups.now here (sym c.in-Some-captures.ensures)
