use Rattle.std.specs.Ordering.{ord_max, nat_cmp}
use Rattle.std.proofs.lemmas.Bool.Decides.{nat_tests}
use Rattle.std.proofs.Common.{◌≡◌, ℕ, max, ◌∷◌, [], ◌++◌, ◌+◌, ◌≤◌, All, false, take, length, ap, subst, arith, ◌∙◌}
use Rattle.std.proofs.lemmas.List.{take_all, length-replicate, replicate-append-replicate}
use Rattle.std.proofs.lemmas.List.Elements.{All-more, All-weaker}
use Rattle.fancy_analysis.specs.Reached.{flag}
use Rattle.fancy_analysis.proofs.EndingRules.{no_flag}
use Rattle.fancy_analysis.proofs.reached.flags_for.Goals as goal

greater : (a b : ℕ) → ord_max nat_cmp a b ≡ max a b
greater a b = grind (arith, nat_tests)

pub loop-link-init : goal.loop-link-init
loop-link-init c = λ k d lt. absurd (omega arith)

pub loop-link-preserved : goal.loop-link-preserved
loop-link-preserved c =
    let links = c.args.links.now in
    let i = c.loop-link.link-index in
    let last = c.max-last.result in
    All-more (λ l. l.from ≤ last) links i (record { from = 0; to = 0; at_once = false }) (omega arith)
    (All-weaker (λ l. l.from ≤ c.loop-link.last) (λ l. l.from ≤ last)
    (λ l le. omega (arith, le, c.max-last.ensures ∙ greater c.loop-link.last _)) (take i links) c.loop-link.invariant)
    (omega (arith, c.max-last.ensures ∙ greater c.loop-link.last _))

pub returns : goal.returns
returns c =
    let links = c.args.links.now in
    let last = c.loop-link.last in
    let all = c.in_ok-push.ensures.items ∙ ap (λ l. l ++ false ∷ []) c.in_ok-flags.ensures ∙ replicate-append-replicate last 1 false in
    let long = ap length all ∙ length-replicate (last + 1) false in
    let each = subst (All (λ l. l.from ≤ last)) (take_all c.loop-link.link-index links (omega arith)) c.loop-link.invariant in
    record {
      room = record { whole = omega (arith, long); each = λ k d lt. let le = each k d lt in omega (arith, long, le) };
      clear = λ n. ap (λ l. flag l n) all ∙ no_flag (last + 1) n;
    }
