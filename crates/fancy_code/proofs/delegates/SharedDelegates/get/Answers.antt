use Rattle.std.proofs.Common.{map, ap, ◌∙◌}
use Rattle.std.specs.Prelude.{is_ok}
use Rattle.fancy_info.specs.Infos.{info_tree}
use Rattle.fancy_meaning.specs.Batches.{fragment, group_range}
use Rattle.fancy_meaning.specs.Instr.{Instr}
use Rattle.fancy_fragments.specs.Delegates.{delegate_instr}
use Rattle.fancy_code.proofs.DelegateTable.{named_push, named_built}
use Rattle.fancy_code.proofs.delegates.SharedDelegates.get.Goals as goal

pub invariant_of-self-2 : goal.invariant_of-self-2
invariant_of-self-2 c =
    let es = map info_tree c.args.infos.now in
    let same = ap delegate_instr (c.in_ok-clone.ensures.cases ∙ c.in_ok-shared.ensures.ok) ∙ c.in_ok-delegate.ensures.delegate
    ∙ ap (λ t. Instr.Delegate t (fragment c.args.unicode es) (group_range es)) c.requires.text in record {
      known = named_push (is_ok c.push.result) c.note_last.new.self.delegates.items c.push.new.self.items c.in_ok-clone.field-0 c.push.ensures.items
          c.note_last.new.self.known
          (named_built c.args.unicode c.args.infos.now _ same c.in_ok-delegate.ensures.classes);
    }
