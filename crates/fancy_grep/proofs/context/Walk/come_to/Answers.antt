use Rattle.std.proofs.Common.{◌≡◌, Bool, Some, if◌then◌else◌, length, nat_lt, sym, ap, ap₂, ◌∙◌, subst}
use Rattle.std.proofs.lemmas.Bool.{lt-ltb, le-ltb}
use Rattle.std.proofs.lemmas.List.{length-map}
use Rattle.fancy_grep.specs.Context.{numbers_of}
use Rattle.fancy_grep.proofs.WalkLaws.{Comes, comes}
use Rattle.fancy_grep.proofs.context.Walk.come_to.Goals as goal
use Rattle.fancy_grep.proofs.context.Walk.come_to.Goals.{then-is_selected, else-is_selected}

pub returns : goal.returns
returns c all h =
    let n = c.args.number in
    let before = c.args.self.now.left.now in
    let after = c.past-left.result.now in
    let b : Bool = nat_lt (length after) (length before) in
    let last : c.if-is_selected.self.last ≡ (if b then Some n else c.args.self.now.last) = elim c.if-is_selected.branch [
      | then-is_selected w ↦ ap (λ s. s.last) w.self-is ∙ sym (ap (λ t. if t then Some n else c.args.self.now.last) (lt-ltb _ _ w.if-is_selected.true))
      | else-is_selected w ↦ ap (λ s. s.last) w.self-is ∙ sym (ap (λ t. if t then Some n else c.args.self.now.last) (le-ltb _ _ w.if-is_selected.false))
    ] in
    let shorter : nat_lt (length (numbers_of after)) (length (numbers_of before)) ≡ b =
    ap₂ nat_lt (length-map after (λ l. l.number)) (length-map before (λ l. l.number)) in
    let at = subst (λ left. Comes all n c.args.self.now.last left (nat_lt (length left) (length (numbers_of before)))) (sym c.past-left.ensures)
    (comes all n c.args.self.now.last (numbers_of before) h) in
    let here : Comes all n c.args.self.now.last (numbers_of after) b = subst (Comes all n c.args.self.now.last (numbers_of after)) shorter at in
    (rw last here.stands, here.is)
