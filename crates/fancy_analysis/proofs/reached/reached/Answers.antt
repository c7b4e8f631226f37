use Rattle.std.proofs.Common.{◌≡◌, ◌<◌, ◌∷◌, ◌++◌, [], true, length, sym, ap, ◌∙◌, subst, arith}
use Rattle.std.proofs.lemmas.List.{length-append, length-set, nil_from_length}
use Rattle.std.proofs.Math.ListN.{set}
use Rattle.fancy_analysis.specs.Reached.{listed}
use Rattle.fancy_analysis.proofs.SearchSteps.{IsReaching, reaching_done, reaching_first, reaching_next, reaching_past, room_kept, listed_at, total_set}
use Rattle.fancy_analysis.proofs.reached.reached.Goals as goal

pub loop-number-init : goal.loop-number-init
loop-number-init c =
    let ways = c.in_ok-ways.ways.items in
    let flags = c.in_ok-flags.flags.items in
    record {
      same_length = omega (arith, c.in_ok-ways.ensures.length, c.in_ok-flags.flags.ok.0);
      room = c.in_ok-flags.ensures.room;
      reaching = subst (IsReaching c.args.links.now ways flags) (sym (c.in_ok-push.ensures.items ∙ ap (λ l. l ++ 0 ∷ []) c.new-next.ensures.items))
          (reaching_first c.args.links.now ways flags c.in_ok-ways.ensures.ways c.in_ok-flags.ensures.clear);
    }

pub loop-number-preserved-then-number-len : goal.loop-number-preserved-then-number-len
loop-number-preserved-then-number-len c =
    let s = c.loop-number.invariant in
    let ways = c.loop-number.ways.items in
    let flags = c.loop-number.flags.items in
    record {
      same_length = s.same_length;
      room = s.room;
      reaching = reaching_past c.args.links.now ways flags c.pop.new.self.items c.in-Some.number (omega arith) s.room.whole
          (subst (IsReaching c.args.links.now ways flags) c.in-Some.ensures.items s.reaching);
    }

pub loop-number-smaller-then-number-len : goal.loop-number-smaller-then-number-len
loop-number-smaller-then-number-len c =
    omega (arith, ap length c.in-Some.ensures.items, length-append c.pop.new.self.items (c.in-Some.number ∷ []))

pub index-requires : goal.index-requires
index-requires c = omega (arith, c.loop-number.invariant.same_length, c.loop-number.ways.ok.0)

pub index_mut-requires : goal.index_mut-requires
index_mut-requires c = omega (arith, c.loop-number.invariant.same_length, c.loop-number.ways.ok.0)

pub loop-number-preserved : goal.loop-number-preserved
loop-number-preserved c =
    let links = c.args.links.now in
    let s = c.loop-number.invariant in
    let ways = c.loop-number.ways.items in
    let flags = c.loop-number.flags.items in
    let n = c.in-Some.number in
    let rest = c.pop.new.self.items in
    let within : n < length flags = omega arith in
    let inside : n < length ways = omega (arith, s.same_length) in
    let way : c.deref.result.now ≡ listed ways n = c.deref.ensures.value ∙ sym (listed_at ways n c.index.result.now inside c.index.ensures) in
    let v = c.clear.new.self in
    record {
      same_length = omega (arith, s.same_length, length-set flags n true, length-set ways n v);
      room = room_kept links flags (set flags n true) (sym (length-set flags n true)) s.room;
      reaching = subst (IsReaching links (set ways n v) (set flags n true)) (sym (c.in_ok-extend_from_slice.ensures.items ∙ ap (λ l. rest ++ l) way))
          (reaching_next links ways flags rest n v within inside c.clear.ensures.items
          (subst (IsReaching links ways flags) c.in-Some.ensures.items s.reaching));
    }

pub loop-number-smaller : goal.loop-number-smaller
loop-number-smaller c =
    let ways = c.loop-number.ways.items in
    let n = c.in-Some.number in
    let rest = c.pop.new.self.items in
    let inside : n < length ways = omega (arith, c.loop-number.invariant.same_length) in
    let way : c.deref.result.now ≡ listed ways n = c.deref.ensures.value ∙ sym (listed_at ways n c.index.result.now inside c.index.ensures) in
    let popped = ap length c.in-Some.ensures.items ∙ length-append rest (n ∷ []) in
    let added = ap length (c.in_ok-extend_from_slice.ensures.items ∙ ap (λ l. rest ++ l) way) ∙ length-append rest (listed ways n) in
    omega (arith, total_set ways n c.clear.new.self inside, ap length c.clear.ensures.items, popped, added)

pub returns : goal.returns
returns c =
    let next = c.loop-number.next in
    let none : next.items ≡ [] = nil_from_length next.items (omega (arith, c.in_default.ensures.cases.0, next.ok.0)) in
    let flags = c.loop-number.flags.items in
    let ways = c.loop-number.ways.items in
    reaching_done c.args.links.now ways flags c.loop-number.invariant.room
    (subst (IsReaching c.args.links.now ways flags) none c.loop-number.invariant.reaching)
