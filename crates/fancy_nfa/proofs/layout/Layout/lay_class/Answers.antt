use Rattle.std.proofs.Common.{ap, inr, ◌∙◌}
use Rattle.fancy_nfa_laws.specs.NfaCode.{one}
use Rattle.fancy_nfa_laws.specs.NfaStates as plain
use Rattle.fancy_meaning.specs.Tree.{Delegate}
use Rattle.fancy_nfa.specs.ClassTexts.{itself, texts_of}
use Rattle.fancy_characters.specs.Classes.{class_of}
use Rattle.fancy_nfa.specs.Views.{class_test_of}
use Rattle.fancy_nfa.proofs.Laid.{lays_fault}
use Rattle.fancy_nfa.proofs.Texts.{lays_class}
use Rattle.fancy_nfa.proofs.layout.Layout.lay_class.Goals as goal

pub returns-in_err-class : goal.returns-in_err-class
returns-in_err-class c =
    let inner = c.args.inner.now in
    lays_fault (one (plain.Character (plain.InClass inner c.args.casei))) (texts_of (Delegate inner c.args.casei)) c.args.self.now c.args.self.now _ _
    c.from_residual.ensures (inr (inner, (c.args.casei, (itself, c.in_err-class.ensures.refused))))

pub push-requires : goal.push-requires
push-requires c =
    (c.args.inner.now, (c.args.casei, ap class_of c.in_ok-class-2.ensures.ok ∙ c.in_ok-class.ensures.class))

pub returns : goal.returns
returns c =
    lays_class c.args.inner.now c.args.casei _ c.args.self.now _
    (ap (λ k. plain.Character (class_test_of (class_of k))) c.in_ok-class-2.ensures.ok
    ∙ ap (λ k. plain.Character (class_test_of k)) c.in_ok-class.ensures.class)
    c.in_ok-class.ensures.is_class _ c.push.ensures
