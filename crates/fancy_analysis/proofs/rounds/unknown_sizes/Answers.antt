use Rattle.std.proofs.Common.{[], ◌∷◌, ◌++◌, map, replicate, ap, ◌∙◌}
use Rattle.std.proofs.lemmas.List.{map-append, replicate-append-replicate}
use Rattle.fancy_meaning.specs.Sizes.{unknown}
use Rattle.fancy_info.specs.Sized.{size_of}
use Rattle.fancy_analysis.proofs.rounds.unknown_sizes.Goals as goal

pub loop-i-preserved : goal.loop-i-preserved
loop-i-preserved c =
    ap (map size_of) c.in_ok-push.ensures.items
    ∙ map-append size_of c.loop-i.sizes.items (c.unknown.result ∷ [])
    ∙ ap (λ l. l ++ (size_of c.unknown.result ∷ [])) c.loop-i.invariant
    ∙ ap (λ s. replicate c.loop-i.i unknown ++ (s ∷ [])) c.unknown.ensures
    ∙ replicate-append-replicate c.loop-i.i 1 unknown
