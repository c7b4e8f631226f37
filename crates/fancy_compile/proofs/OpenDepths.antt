-- How many calls of each group are open, a call at a time.
use Rattle.std.proofs.Common.{◌≡◌, ℕ, Option, Some, None, if◌then◌else◌, ◌==◌, ap, refl, ◌∙◌, Bor}
use Rattle.fancy_meaning.specs.OpenCalls.{Depths}
use Rattle.fancy_compile.specs.declared.calls.OpenCall.{OpenCall}
use Rattle.fancy_compile.specs.declared.calls.OpenCall.TheOpen.{OpenCall-F}
use Rattle.fancy_compile.specs.declared.calls.OpenCall.TheViews.{out-OpenCall, roll-OpenCall}
use Rattle.fancy_compile.specs.declared.calls.OpenCall.TheFolds.{fold_out-OpenCall, fold-roll-OpenCall, map-OpenCall}
use Rattle.fancy_compile.specs.OpenDepths.{depths_in, depths_step, outer_depths, depths_of}

abbrev pub depth_by : ℕ → ℕ → ℕ → ℕ → ℕ
depth_by group depth outer g = if g == group then depth else outer

abbrev layer : ℕ → ℕ → Option (Bor OpenCall) → OpenCall-F OpenCall
layer group depth m = record { group = group; depth = depth; outer = m }

outer_is : (group depth : ℕ) (m : Option (Bor OpenCall)) (g : ℕ) → outer_depths
    (map-OpenCall OpenCall Depths depths_in (layer group depth m)).outer g ≡ depths_of m g
outer_is group depth None g = refl
outer_is group depth (Some o) g = refl

pub depth_out : (o : OpenCall) (g : ℕ) → depths_in o g ≡ depth_by (out-OpenCall o).group (out-OpenCall o).depth (depths_of (out-OpenCall o).outer g) g
depth_out o g =
    ap (λ f. f g) (fold_out-OpenCall Depths depths_step o)
    ∙ ap (λ n. depth_by (out-OpenCall o).group (out-OpenCall o).depth n g) (outer_is (out-OpenCall o).group (out-OpenCall o).depth (out-OpenCall o).outer g)

-- one more call
pub depth_rolled : (group depth : ℕ) (outer : Option (Bor OpenCall)) (g : ℕ)
    → depths_in (roll-OpenCall (layer group depth outer)) g ≡ depth_by group depth (depths_of outer g) g
depth_rolled group depth outer g =
    ap (λ f. f g) (fold-roll-OpenCall Depths depths_step (layer group depth outer))
    ∙ ap (λ n. depth_by group depth n g) (outer_is group depth outer g)
