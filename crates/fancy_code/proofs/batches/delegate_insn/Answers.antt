use Rattle.std.proofs.Common.{map, sym, ap, ◌∙◌}
use Rattle.fancy_info.specs.Infos.{info_tree}
use Rattle.fancy_meaning.specs.Code.{one}
use Rattle.fancy_headline.proofs.Batches.{no_name}
use Rattle.fancy_code.proofs.BatchCodes.{named, no_text, some_text}
use Rattle.fancy_code.proofs.EasyClasses.{textless_classes}
use Rattle.fancy_code.proofs.batches.delegate_insn.Goals as goal

pub get-requires-clause-text : goal.get-requires-clause-text
get-requires-clause-text c = c.in_ok-text.ensures.text c.args.unicode

pub returns-then-is_empty : goal.returns-then-is_empty
returns-then-is_empty c =
    let text = sym (c.in_ok-text.ensures.text c.args.unicode)
    ∙ no_text _ _ c.in_ok-text.text.bytes.ok.0 (sym c.is_empty.ensures ∙ c.if-is_empty.true) in record {
      value = sym (no_name c.args.unicode (map info_tree c.args.infos.now) text);
      classes = textless_classes c.requires.analysis c.args.unicode c.args.infos.now c.requires.each c.requires.fine text;
      refused = tt;
    }

pub returns : goal.returns
returns c =
    let unicode = c.args.unicode in
    let es = map info_tree c.args.infos.now in
    let some = some_text _ _ c.in_ok-text.text.bytes.ok.0 (sym c.is_empty.ensures ∙ c.if-is_empty.false) in record {
      value = ap one c.in_ok-delegate.ensures.value ∙ named unicode es (λ e. some (c.in_ok-text.ensures.text unicode ∙ e));
      classes = c.in_ok-delegate.ensures.classes;
      refused = tt;
    }
