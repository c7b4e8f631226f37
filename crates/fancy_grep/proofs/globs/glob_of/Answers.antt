use Rattle.std.proofs.Common.{◌≡◌, ℕ, ◌-◌, ◌<◌, List, ◌++◌, ◌∷◌, [], length, take, drop, true, sym, ap, ◌∙◌, arith, append-nil, append_assoc}
use Rattle.std.proofs.lemmas.List.{map-append}
use Rattle.fancy_grep.specs.Globs.{Token, begins_after, read, token_of, tokens_of}
use Rattle.fancy_grep.proofs.GlobLaws.{nothing_left, read_none, read_step, split_first}
use Rattle.fancy_grep.proofs.globs.glob_of.Goals as goal

pub loop-left-init : goal.loop-left-init
loop-left-init c = record {
  most = length c.args.text.now;
  enough = omega arith;
  same = ap (λ tokens. tokens ++ read (length c.args.text.now) c.args.is_path true c.args.text.now) c.in_ok-tokens.ensures;
}

pub loop-left-preserved : goal.loop-left-preserved
loop-left-preserved c =
    let inv = c.loop-left.invariant in
    let left = c.loop-left.left.now in
    let rest = take (length left - 1) (drop 1 left) in
    let split : left ≡ c.c-item.result ∷ rest = split_first left c.c-item.result (omega (arith, c.in-len1-up.len_at_least)) c.c-item.is in
    let some : 0 < inv.most = omega (arith, ap length split, inv.enough) in
    let old = c.loop-left.tokens.items in
    let path = c.args.is_path in
    let token = token_of c.in_ok-token.token in
    let after = c.in_ok-token.after.now in
    let begins = c.begins_after-begins.result in record {
      most = inv.most - 1;
      enough = omega (arith, c.in_ok-token.ensures.shorter, ap length split, inv.enough);
      same =
          ap (λ ts. tokens_of ts ++ read (inv.most - 1) path begins after) c.in_ok-push.ensures.items
          ∙ ap (λ ts. ts ++ read (inv.most - 1) path begins after) (map-append token_of old (c.in_ok-token.token ∷ []))
          ∙ append_assoc (tokens_of old) (token ∷ []) _
          ∙ ap (λ b. tokens_of old ++ (token ∷ read (inv.most - 1) path b after)) c.begins_after-begins.ensures
          ∙ ap (λ ts. tokens_of old ++ ts) (sym (ap (read inv.most path c.loop-left.begins) split
          ∙ read_step inv.most path c.loop-left.begins c.c-item.result rest some
          ∙ ap (λ (e : Token × List ℕ). e.0 ∷ read (inv.most - 1) path (begins_after c.c-item.result e.0) e.1) (sym c.in_ok-token.ensures.first)))
          ∙ inv.same;
    }

pub loop-left-smaller : goal.loop-left-smaller
loop-left-smaller c =
    let left = c.loop-left.left.now in
    let split : left ≡ c.c-item.result ∷ take (length left - 1) (drop 1 left) = split_first left c.c-item.result (omega (arith, c.in-len1-up.len_at_least)) c.c-item.is in
    omega (arith, c.in_ok-token.ensures.shorter, ap length split)

pub returns : goal.returns
returns c =
    let inv = c.loop-left.invariant in
    let left = c.loop-left.left.now in
    let none : left ≡ [] = nothing_left left c.in_default.len_below in
    let old = tokens_of c.loop-left.tokens.items in
    sym (append-nil old) ∙ ap (λ ts. old ++ ts) (sym (ap (read inv.most c.args.is_path c.loop-left.begins) none
    ∙ read_none inv.most c.args.is_path c.loop-left.begins)) ∙ inv.same
