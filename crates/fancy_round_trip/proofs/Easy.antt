-- Easy nodes that hold no definition have a text.
use Rattle.std.proofs.Common.{◌≡◌, Bool, true, false, ◌||◌, refl, sym, ◌∙◌}
use Rattle.std.specs.List.{list_any}
use Rattle.std.proofs.lemmas.Bool.{true≢false, and_from}
use Rattle.std.proofs.lemmas.List.Folds.{list_any-append}
use Rattle.fancy_meaning.specs.Tree as tree
use Rattle.fancy_meaning.specs.Tree.{Tree, Trees, none, more}
use Rattle.fancy_meaning.specs.Nodes.{nodes, nodes_of_each, is_read}
use Rattle.fancy_meaning.specs.Options.{Analysis}
use Rattle.fancy_meaning.specs.Hard.{is_hard, any_hard, is_hard_assertion, is_hard_by_size}
use Rattle.fancy_round_trip.specs.RoundTrip.{is_definition}
use Rattle.fancy_round_trip.proofs.Made.{is_plain, each_plain, plain_assertion}

first_false : (a b : Bool) → (a || b) ≡ false → a ≡ false
first_false true b h = absurd (true≢false h)
first_false false b h = refl

second_false : (a b : Bool) → (a || b) ≡ false → b ≡ false
second_false true b h = absurd (true≢false h)
second_false false b h = h

middle_false : (a b c : Bool) → (a || b || c) ≡ false → b ≡ false
middle_false true b c h = absurd (true≢false h)
middle_false false true c h = absurd (true≢false h)
middle_false false false c h = refl

assertion_plain : (a : Analysis) (within : tree.Within) (w : tree.Assertion) → is_hard_assertion a within w ≡ false → plain_assertion within w ≡ true
assertion_plain a tree.InLookAhead w h = refl
assertion_plain a tree.InLookBehind w h = refl
assertion_plain a tree.NoLook (tree.EndTextIgnoreTrailingNewlines crlf) h = absurd (true≢false h)
assertion_plain a tree.NoLook (tree.StartLineOniguruma crlf) h = absurd (true≢false h)
assertion_plain a tree.NoLook w h = refl

mutual
  pub easy_plain : (a : Analysis) (e : Tree) → is_hard a e ≡ false → list_any is_definition (nodes e) ≡ false → is_plain e ≡ true
  easy_plain a tree.Empty h d = refl
  easy_plain a (tree.Any newline crlf) h d = refl
  easy_plain a (tree.Literal c casei) h d = refl
  easy_plain a (tree.Delegate inner casei) h d = refl
  easy_plain a (tree.Assert within w) h d = assertion_plain a within w h
  easy_plain a (tree.Concat es) h d = each_easy a es (first_false (any_hard a es) (is_hard_by_size a (tree.Concat es)) h) d
  easy_plain a (tree.Alt es) h d = each_easy a es (first_false (any_hard a es) (is_hard_by_size a (tree.Alt es)) h) d
  easy_plain a (tree.Group g e) h d =
      easy_plain a e (middle_false (is_read a.tree g) (is_hard a e) (is_hard_by_size a (tree.Group g e)) h) d
  easy_plain a (tree.Repeat lo hi greedy e) h d = easy_plain a e (first_false (is_hard a e) (is_hard_by_size a (tree.Repeat lo hi greedy e)) h) d
  easy_plain a (tree.DefineGroup e) h d = absurd (true≢false d)
  easy_plain a e h d = absurd (true≢false h)

  pub each_easy : (a : Analysis) (es : Trees) → any_hard a es ≡ false → list_any is_definition (nodes_of_each es) ≡ false → each_plain es ≡ true
  each_easy a none h d = refl
  each_easy a (more e es) h d =
      let split = sym (list_any-append is_definition (nodes e) (nodes_of_each es)) ∙ d in
      and_from _ _
      (easy_plain a e (first_false (is_hard a e) (any_hard a es) h) (first_false (list_any is_definition (nodes e))
      (list_any is_definition (nodes_of_each es)) split))
      (each_easy a es (second_false (is_hard a e) (any_hard a es) h) (second_false (list_any is_definition (nodes e))
      (list_any is_definition (nodes_of_each es)) split))
