use Rattle.std.proofs.Common.{ℕ, Bool, false, IsTrue, refl, sym, ◌∙◌}
use Rattle.std.specs.List.{list_any}
use Rattle.fancy_meaning.specs.Nodes.{nodes}
use Rattle.fancy_meaning.specs.WellFormed.{refers}
use Rattle.fancy_expr.specs.Views.{tree_of}
use Rattle.fancy_expr.proofs.SoundNodes.{nodes_fine, all_one_char, sound_if_fine}
use Rattle.fancy_expr.proofs.Listed.{all_pass_at, each_passes}
use Rattle.fancy_expr.proofs.well_formed.is_well_formed.Goals as goal

never : IsTrue false → ⊥
never h = cc

pub returns-then-not-all_sound : goal.returns-then-not-all_sound
returns-then-not-all_sound c =
    (λ h. absurd (never h), λ w. c.if-not-all_sound.ensures.1 (sound_if_fine c.args.tree.now.expr w.0.fine w.1))

pub returns-then-not-listed_refer : goal.returns-then-not-listed_refer
returns-then-not-listed_refer c =
    let test : ℕ → Bool = λ g. list_any (refers g) (nodes (tree_of c.args.tree.now.expr)) in
    (λ h. absurd (never h), λ w. c.if-not-listed_refer.ensures ∙ each_passes test c.args.tree.now.backrefs.keys w.0.only_references)

pub returns : goal.returns
returns c =
    let t = c.args.tree.now in
    let test : ℕ → Bool = λ g. list_any (refers g) (nodes (tree_of t.expr)) in
    let sound = c.if-not-all_sound.ensures.0 refl in
    let groups = c.if-not-groups_fit.ensures.0 refl in
    let calls = c.if-not-calls_fit.ensures.0 refl in (
      λ h. (
        record {
          fine = nodes_fine t.expr sound;
          groups = groups.0;
          not_too_many = groups.1;
          calls = calls.0;
          no_calls = calls.1;
          backrefs = c.if-not-are_listed.ensures.0 refl;
          only_references = λ g there. all_pass_at test t.backrefs.keys g (sym c.if-not-listed_refer.ensures) there;
          out_of_range = c.out_of_range_refers.ensures.0 h;
        },
        all_one_char t.expr sound,
      ),
      λ w. c.out_of_range_refers.ensures.1 w.0.out_of_range,
    )
