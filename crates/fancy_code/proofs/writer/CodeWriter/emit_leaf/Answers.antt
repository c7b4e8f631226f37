use Rattle.std.proofs.Common.{◌∷◌, [], slice_index, chars, refl, subst}
use Rattle.fancy_meaning.specs.Tree as plain
use Rattle.fancy_code.specs.Sites.{within_node}
use Rattle.fancy_code.specs.Drafts.{draft_of, Writes, written_code}
use Rattle.fancy_code.proofs.Writing.{wrote_nothing}
use Rattle.fancy_code.proofs.Written.{wrote_node, safe_fine}
use Rattle.fancy_code.proofs.Alone.{wrote_leaf, wrote_any, wrote_keep_out, wrote_continue}
use Rattle.fancy_code.proofs.writer.CodeWriter.emit_leaf.Goals as goal

pub returns-in-Empty : goal.returns-in-Empty
returns-in-Empty c = λ p call in_hard start w es room u. wrote_leaf p call c.args.at_start in_hard _ _ room start w es c.args.expr.now _ c.in-Empty.is
    (wrote_node p room _ (plain.Empty) _ _ (safe_fine p (plain.Empty) refl refl) (wrote_nothing (within_node p) (draft_of c.args.self.now)))

pub returns-in-Any : goal.returns-in-Any
returns-in-Any c = λ p call in_hard start w es room u. wrote_leaf p call c.args.at_start in_hard _ _ room start w es c.args.expr.now _ c.in-Any.is
    (wrote_any p call c.args.at_start in_hard _ _ room _ _ _ c.any_insn.ensures (c.push.ensures.writes (within_node p)))

pub returns-in-Literal : goal.returns-in-Literal
returns-in-Literal c = λ p call in_hard start w es room u. wrote_leaf p call c.args.at_start in_hard _ _ room start w es c.args.expr.now _ c.in-Literal.is
    (subst (λ v. Writes p (written_code p call (plain.Literal (slice_index (chars v) 0) c.in-Literal.casei) c.args.at_start in_hard)
    (plain.Literal (slice_index (chars v) 0) c.in-Literal.casei ∷ []) (draft_of c.args.self.now) (draft_of c.emit_literal.new.self))
    c.deref.ensures (c.emit_literal.ensures p call c.args.at_start in_hard room u))

pub returns-in-LiteralBytes : goal.returns-in-LiteralBytes
returns-in-LiteralBytes c = λ p call in_hard start w es room u.
    wrote_leaf p call c.args.at_start in_hard _ _ room start w es c.args.expr.now _ c.in-LiteralBytes.is
    (subst (λ v. Writes p (written_code p call (plain.LiteralBytes v) c.args.at_start in_hard) (plain.LiteralBytes v ∷ []) (draft_of c.args.self.now)
    (draft_of c.emit_bytes.new.self))
    c.deref-in-LiteralBytes.ensures.value (c.emit_bytes.ensures p call c.args.at_start in_hard room))

pub returns-in-Backref : goal.returns-in-Backref
returns-in-Backref c = λ p call in_hard start w es room u. wrote_leaf p call c.args.at_start in_hard _ _ room start w es c.args.expr.now _ c.in-Backref.is
    (c.emit_backref.ensures p call c.args.at_start in_hard room u)

pub returns-in-BackrefWithRelativeRecursionLevel : goal.returns-in-BackrefWithRelativeRecursionLevel
returns-in-BackrefWithRelativeRecursionLevel c = λ p call in_hard start w es room u.
    wrote_leaf p call c.args.at_start in_hard _ _ room start w es c.args.expr.now _
    c.in-BackrefWithRelativeRecursionLevel.is
    (wrote_node p room _ (plain.BackrefWithLevel _ _ _) _ _ (safe_fine p (plain.BackrefWithLevel _ _ _) refl refl)
    (wrote_nothing (within_node p) (draft_of c.args.self.now)))

pub returns-in-KeepOut : goal.returns-in-KeepOut
returns-in-KeepOut c = λ p call in_hard start w es room u. wrote_leaf p call c.args.at_start in_hard _ _ room start w es c.args.expr.now _ c.in-KeepOut.is
    (wrote_keep_out p call c.args.at_start in_hard _ _ room (c.push-in-KeepOut.ensures.writes (within_node p)))

pub returns-in-ContinueFromPreviousMatchEnd : goal.returns-in-ContinueFromPreviousMatchEnd
returns-in-ContinueFromPreviousMatchEnd c = λ p call in_hard start w es room u. wrote_leaf p call c.args.at_start in_hard _ _ room start w es c.args.expr.now _
    c.in-ContinueFromPreviousMatchEnd.is
    (wrote_continue p call c.args.at_start in_hard _ _ room (c.push-in-ContinueFromPreviousMatchEnd.ensures.writes (within_node p)))

pub returns-in-BackrefExistsCondition : goal.returns-in-BackrefExistsCondition
returns-in-BackrefExistsCondition c = λ p call in_hard start w es room u. wrote_leaf p call c.args.at_start in_hard _ _ room start w es c.args.expr.now _
    c.in-BackrefExistsCondition.is
    (c.emit_existence.ensures p call c.args.at_start in_hard room)

pub returns-in-BacktrackingControlVerb : goal.returns-in-BacktrackingControlVerb
returns-in-BacktrackingControlVerb c = λ p call in_hard start w es room u. wrote_leaf p call c.args.at_start in_hard _ _ room start w es c.args.expr.now _
    c.in-BacktrackingControlVerb.is
    (c.emit_verb.ensures p call c.args.at_start in_hard room)

pub returns-in-DefineGroup : goal.returns-in-DefineGroup
returns-in-DefineGroup c = λ p call in_hard start w es room u.
    wrote_leaf p call c.args.at_start in_hard _ _ room start w es c.args.expr.now _ c.in-DefineGroup.is
    (wrote_node p room _ (plain.DefineGroup _) _ _ (safe_fine p (plain.DefineGroup _) refl refl) (wrote_nothing (within_node p) (draft_of c.args.self.now)))

pub returns-in-AstNode : goal.returns-in-AstNode
returns-in-AstNode c = λ p call in_hard start w es room u. wrote_leaf p call c.args.at_start in_hard _ _ room start w es c.args.expr.now _ c.in-AstNode.is
    (wrote_node p room _ (plain.AstNode _) _ _ (safe_fine p (plain.AstNode _) refl refl) (wrote_nothing (within_node p) (draft_of c.args.self.now)))

pub returns-in-GeneralNewline : goal.returns-in-GeneralNewline
returns-in-GeneralNewline c = λ p call in_hard start w es room u.
    wrote_leaf p call c.args.at_start in_hard _ _ room start w es c.args.expr.now _ c.in-GeneralNewline.is
    (c.emit_newline.ensures p call c.args.at_start in_hard room)

pub returns-in-Delegate : goal.returns-in-Delegate
returns-in-Delegate c = λ p call in_hard start w es room u. wrote_leaf p call c.args.at_start in_hard _ _ room start w es c.args.expr.now _ c.in-Delegate.is
    (subst (λ v. Writes p (written_code p call (plain.Delegate v c.in-Delegate.casei) c.args.at_start in_hard) (plain.Delegate v c.in-Delegate.casei ∷ [])
    (draft_of c.args.self.now) (draft_of c.emit_class.new.self))
    c.deref-in-Delegate.ensures (c.emit_class.ensures p call c.args.at_start in_hard room u))
