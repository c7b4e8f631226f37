use Rattle.std.proofs.Common.{◌≡◌, ℕ, Bool, true, false, List, [], ◌∷◌, ◌++◌, encode_utf8, append-nil, sym, ap, ◌∙◌}
use Rattle.fancy_meaning.specs.Batches.{literal_instr}
use Rattle.fancy_meaning.specs.Instr.{LitCasei, Lit}
use Rattle.fancy_code.proofs.leaves.literal_insn.Goals as goal

folded : (cs : List (ℕ × Bool)) (all unicode casei : Bool) (c : ℕ) → casei ≡ true → cs ≡ (c, true) ∷ [] → all ≡ unicode →
    LitCasei cs all ≡ literal_instr unicode ((c, casei) ∷ [])
folded cs all unicode casei c is one same =
    ap (λ l. LitCasei l all) one ∙ ap (LitCasei ((c, true) ∷ [])) same ∙ ap (λ b. literal_instr unicode ((c, b) ∷ [])) (sym is)

unfolded : (bytes : List ℕ) (unicode casei : Bool) (c : ℕ) → casei ≡ false → bytes ≡ encode_utf8 c → Lit bytes ≡ literal_instr unicode ((c, casei) ∷ [])
unfolded bytes unicode casei c is one =
    ap Lit (one ∙ sym (append-nil (encode_utf8 c))) ∙ ap (λ b. literal_instr unicode ((c, b) ∷ [])) (sym is)

pub returns-then-casei : goal.returns-then-casei
returns-then-casei c =
    folded _ _ c.args.unicode c.args.casei c.args.c c.if-casei.true
    (c.new.ensures.chars ∙ c.in_ok-push.ensures.items ∙ ap (λ l. l ++ (c.args.c, true) ∷ []) c.new-chars.ensures.items) c.new.ensures.unicode

pub returns : goal.returns
returns c =
    unfolded _ c.args.unicode c.args.casei c.args.c c.if-casei.false
    (c.in_ok-push-2.ensures.bytes ∙ ap (λ l. l ++ encode_utf8 c.args.c) c.new-text.ensures.bytes)
