use Rattle.std.proofs.Common.{◌<◌, ◌++◌, ◌∷◌, [], false, true, not, length, slice_index_or, Contains, refl, sym, ap, ◌∙◌, subst, arith}
use Rattle.std.proofs.lemmas.List.{length-append}
use Rattle.std.proofs.lemmas.List.Elements.{Contains-push}
use Rattle.fancy_expr.proofs.Listed.{false_true, true_false}
use Rattle.fancy_analysis.specs.Reached.{IsState, unset_count}
use Rattle.fancy_analysis.proofs.SearchSteps.{listed_at, listed_within, dropped, entered_on, found, left, moved, one_less, stays_set, total_set, undone_inside}
use Rattle.fancy_analysis.proofs.cycle_search.CycleSearch.step.Goals as goal

pub returns-in_default : goal.returns-in_default
returns-in_default c = λ links start s path.
    let old = c.args.self.now in
    let n = c.args.number in
    let here = subst (IsState links start old.ways.items old.seen.items old.done.items) path.is s in
    let back = c.drop_last.ensures path.before n path.is in
    record {
      cycle = λ t. absurd (false_true t);
      goes_on = λ f. moved links start refl refl c.set.ensures back
          (left links start old.ways.items old.seen.items old.done.items path.before n n here c.in_default.ensures);
      less = λ f. omega (arith, ap length back, ap length path.is, length-append path.before (n ∷ []));
      seen = λ m at. at;
    }

pub index_mut-requires : goal.index_mut-requires
index_mut-requires c =
    let old = c.args.self.now in
    let way = c.in-Some.ensures in
    let lt = listed_within old.ways.items c.args.number c.in-Some.to (subst (λ l. Contains l c.in-Some.to) (sym way.is) (Contains-push way.before c.in-Some.to)) in
    omega (arith, lt, old.ways.ok.0)

pub returns-then-is_done : goal.returns-then-is_done
returns-then-is_done c = λ links start s path.
    let old = c.args.self.now in
    let n = c.args.number in
    let to = c.in-Some.to in
    let way = c.in-Some.ensures in
    let list = c.drop_last-then-is_done.new.list in
    let here = subst (IsState links start old.ways.items old.seen.items old.done.items) path.is s in
    let lt = listed_within old.ways.items n to (subst (λ l. Contains l to) (sym way.is) (Contains-push way.before to)) in
    let at = listed_at old.ways.items n c.index_mut.result.now lt c.index_mut.ensures.value in
    let is = way.is ∙ ap (λ l. l ++ to ∷ []) (sym (c.drop_last-then-is_done.ensures way.before to (sym at ∙ way.is))) in
    record {
      cycle = λ t. absurd (false_true t);
      goes_on = λ f. moved links start refl refl refl path.is
          (dropped links start old.ways.items old.seen.items old.done.items path.before n to here list lt is (sym c.is_done.ensures ∙ c.if-is_done.true));
      less = λ f. omega (arith, total_set old.ways.items n list lt, ap length is, length-append list.items (to ∷ []));
      seen = λ m at. at;
    }

pub returns-then-is_set : goal.returns-then-is_set
returns-then-is_set c = λ links start s path.
    let old = c.args.self.now in
    let n = c.args.number in
    let to = c.in-Some.to in
    let way = c.in-Some.ensures in
    let here = subst (IsState links start old.ways.items old.seen.items old.done.items) path.is s in
    let link = s.only n to (subst (λ l. Contains l to) (sym way.is) (Contains-push way.before to)) in
    record {
      cycle = λ t. found links start old.ways.items old.seen.items old.done.items path.before n to here link
          (sym (c.is_set.ensures ∙ ap (λ l. slice_index_or l to false) c.deref.ensures.value) ∙ c.if-is_set.true)
          (sym c.is_done.ensures ∙ c.if-is_done.false);
      goes_on = λ f. absurd (true_false f);
      less = λ f. absurd (true_false f);
      seen = λ m at. at;
    }

pub returns : goal.returns
returns c = λ links start s path.
    let old = c.args.self.now in
    let n = c.args.number in
    let to = c.in-Some.to in
    let way = c.in-Some.ensures in
    let here = subst (IsState links start old.ways.items old.seen.items old.done.items) path.is s in
    let link = s.only n to (subst (λ l. Contains l to) (sym way.is) (Contains-push way.before to)) in
    let within : to < length old.seen.items = omega (arith, s.dones, undone_inside old.done.items to (sym c.is_done.ensures ∙ c.if-is_done.false)) in
    let seen = c.set-2.ensures in
    let on = c.in_ok-push.ensures.items in
    record {
      cycle = λ t. absurd (false_true t);
      goes_on = λ f. moved links start refl seen refl (on ∙ ap (λ l. l ++ to ∷ []) path.is)
          (entered_on links start old.ways.items old.seen.items old.done.items path.before n to here link within);
      less = λ f.
          let off = sym (c.is_set.ensures ∙ ap (λ l. slice_index_or l to false) c.deref.ensures.value) ∙ c.if-is_set.false in
          let one = one_less not old.seen.items to false true within (ap not off) refl in
          omega (arith, one, ap unset_count seen, ap length on, length-append old.path.items (to ∷ []));
      seen = λ m at. ap (λ l. slice_index_or l m false) seen ∙ stays_set old.seen.items to m within at;
    }
