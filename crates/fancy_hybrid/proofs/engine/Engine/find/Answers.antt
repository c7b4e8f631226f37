use Rattle.std.proofs.Common.{◌≡◌, ◌+◌, false, Some, option_map, sym, ap, subst, ◌∙◌, arith, refl, true}
use Rattle.regex_compile.specs.Implements.{Implements}
use Rattle.regex_dfa.specs.declared.dfa.Dfa.{Dfa}
use Rattle.regex_hir.specs.Find.{find, find_str}
use Rattle.regex_hir.specs.Re.{empty}
use Rattle.regex_hir.specs.Text.{is_boundary}
use Rattle.regex_meta.proofs.ProgramLemmas.{none_of_option_map, value_of_option_map}
use Rattle.regex_vm.specs.Found.{span}
use Rattle.regex.proofs.SearchLemmas.{inside_char, leftmost_here, leftmost_none, leftmost_retry}
use Rattle.fancy_hybrid.proofs.engine.Engine.find.Goals as goal

pub returns-in_default-clause-found : goal.returns-in_default-clause-found
returns-in_default-clause-found c = λ re searches.
    let text = c.args.text.now in
    let inv = c.starts.invariant in
    let found = c.in_ok-from.ensures.found re (subst (λ (d : Dfa). Implements d.nfa re) (sym inv.3) searches) in
    let none = none_of_option_map span _ (sym (rw (c.as_bytes-bytes.ensures.value, c.in_default.is) at found)) in
    sym (ap (option_map span) (inv.2 re searches ∙ leftmost_none re text true c.starts.at none))

pub returns-then-is_whole_at-clause-found : goal.returns-then-is_whole_at-clause-found
returns-then-is_whole_at-clause-found c = λ re searches.
    let text = c.args.text.now in
    let inv = c.starts.invariant in
    let found = c.in_ok-from.ensures.found re (subst (λ (d : Dfa). Implements d.nfa re) (sym inv.3) searches) in
    let v = value_of_option_map span (find re text c.starts.at) (c.in-Some.from, c.in-Some.end)
    (sym (rw (c.as_bytes-bytes.ensures.value, c.in-Some.is) at found)) in
    let starts : v.0.start ≡ c.in-Some.from = ap (λ s. s.0) v.2 in
    let whole : is_boundary text c.in-Some.from ≡ true =
    sym (rw c.as_bytes-bytes.ensures.value at c.is_whole_at.ensures) ∙ c.if-is_whole_at.true in
    let here = leftmost_here re text true c.starts.at v.0 v.1 (λ _. ap (is_boundary text) starts ∙ whole) in
    sym (ap (option_map span) (inv.2 re searches ∙ here) ∙ ap (λ s. Some s) v.2)

pub starts-smaller : goal.starts-smaller
starts-smaller c =
    let text = c.args.text.now in
    let cut : is_boundary text c.in-Some.from ≡ false =
    sym (rw c.as_bytes-bytes.ensures.value at c.is_whole_at.ensures) ∙ c.if-is_whole_at.false in
    let inside = inside_char empty text c.in-Some.from cut in
    let within = rw c.in-Some.is at c.in_ok-from.ensures.within in
    omega (arith, inside, within.0)

pub starts-preserved : goal.starts-preserved
starts-preserved c =
    let text = c.args.text.now in
    let inv = c.starts.invariant in
    let cut : is_boundary text c.in-Some.from ≡ false =
    sym (rw c.as_bytes-bytes.ensures.value at c.is_whole_at.ensures) ∙ c.if-is_whole_at.false in
    let inside = inside_char empty text c.in-Some.from cut in
    let within = rw c.in-Some.is at c.in_ok-from.ensures.within in (
      omega (arith, inside),
      omega (arith, inv.1, within.0),
      λ re searches.
          let found = c.in_ok-from.ensures.found re (subst (λ (d : Dfa). Implements d.nfa re) (sym inv.3) searches) in
          let v = value_of_option_map span (find re text c.starts.at) (c.in-Some.from, c.in-Some.end)
          (sym (rw (c.as_bytes-bytes.ensures.value, c.in-Some.is) at found)) in
          let starts : v.0.start ≡ c.in-Some.from = ap (λ s. s.0) v.2 in
          inv.2 re searches
          ∙ leftmost_retry re text true c.starts.at v.0 refl v.1 (ap (is_boundary text) starts ∙ cut)
          ∙ ap (λ s. find_str re text (s + 1)) starts,
      c.span_from.ensures.dfa ∙ inv.3,
      c.span_from.ensures.cells ∙ inv.4,
    )
