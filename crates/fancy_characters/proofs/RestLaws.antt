-- The rest of a list, item by item.
use Rattle.std.proofs.Common.{◌≡◌, ℕ, suc, ◌+◌, ◌<◌, List, ◌∷◌, length, drop, get_or, ap, arith, drop-cons, ◌∙◌}

pub rest_here : {T : Type 0} (items : List T) (i : ℕ) (default : T) → i < length items →
    drop i items ≡ get_or items i default ∷ drop (i + 1) items
rest_here items i default h =
    let next : suc i ≡ i + 1 = omega arith in
    drop-cons items i default h ∙ ap (λ n. get_or items i default ∷ drop n items) next
