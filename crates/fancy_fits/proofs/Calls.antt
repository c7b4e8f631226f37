-- The code of each call fits, however many more may be opened.
use Rattle.std.proofs.Common.{◌≡◌, ℕ, zero, suc, ◌*◌, ◌≤◌, Bool, ◌&&◌, not, nat_lt, true, [], ◌∷◌, Option, Some, None, refl}
use Rattle.fancy_meaning.specs.Tree.{Tree, Group}
use Rattle.fancy_meaning.specs.Nodes.{nodes, target}
use Rattle.fancy_meaning.specs.OpenCalls.{Depths, opened, call_depth}
use Rattle.fancy_meaning.specs.Options.{Plan}
use Rattle.fancy_meaning.specs.Instr.{Instr}
use Rattle.fancy_meaning.specs.Code.{Code}
use Rattle.fancy_meaning.specs.Batches.{batch}
use Rattle.fancy_meaning.specs.Layout.{is_root_easy, root_code, target_code, fail_code, called_code, written}
use Rattle.fancy_meaning.specs.Marks.{is_marked_group}
use Rattle.fancy_laws.proofs.Every.{every_contained}
use Rattle.fancy_laws.proofs.NodesBelow.{group_of_target}
use Rattle.fancy_fits.proofs.Codes.{fits_if, fits_nothing}
use Rattle.fancy_fits.proofs.Constructs.{Fits, fits_plain}
use Rattle.fancy_fits.proofs.Known.{Known, known_below, every_known}
use Rattle.fancy_fits.proofs.Trees.{CallsFit, fits_alone, fits_group_body, fits_tree}

module _ (p : Plan) (easy : Tree → Bool) (len count slots : ℕ) (two : 2 ≤ slots) (room : 2 * count ≤ slots)
    (known : Known count slots (nodes p.analysis.tree)) where
  abbrev whole : Tree
  whole = p.analysis.tree

  abbrev Each : (ℕ → Bool → Code) → Type 0
  Each call = CallsFit len slots call

  pub fits_root : (call : ℕ → Bool → Code) → Each call → (in_hard : Bool) → Fits len slots (root_code p easy call in_hard)
  fits_root call calls in_hard =
      fits_if len slots (is_root_easy p easy && not in_hard) (batch p.unicode (whole ∷ []))
      (written p easy call whole true in_hard)
      (fits_alone p easy len count slots two room whole known)
      (fits_tree p easy len count slots two room call calls whole known true in_hard)

  fits_target : (g : ℕ) (call : ℕ → Bool → Code) → Each call → (in_hard : Bool) (o : Option Tree) → target whole g ≡ o →
      Fits len slots (target_code p easy g call in_hard o)
  fits_target g call calls in_hard None e = fits_nothing len slots
  fits_target zero call calls in_hard (Some b) e = fits_root call calls in_hard
  fits_target (suc g) call calls in_hard (Some b) e =
      let of_group = every_contained (Group (suc g) b) (every_known count slots whole known) (group_of_target whole g b e) in
      let below = known_below count slots (Group (suc g) b) (nodes b) of_group in
      fits_group_body p easy len count slots two room (suc g) b
      (written p easy call b (is_marked_group p.analysis.tree (suc g))) in_hard of_group
      (λ h. fits_tree p easy len count slots two room call calls b below (is_marked_group p.analysis.tree (suc g)) h)

  fits_fail : (o : Option Tree) → Fits len slots (fail_code o)
  fits_fail None = fits_nothing len slots
  fits_fail (Some b) = fits_plain len slots Instr.Fail refl

  pub fits_calls : (n : ℕ) (depths : Depths) → Each (called_code p easy n depths)
  fits_calls zero depths g in_hard = fits_fail (target whole g)
  fits_calls (suc n) depths g in_hard =
      fits_if len slots (nat_lt (depths g) call_depth)
      (target_code p easy g (called_code p easy n (opened g depths)) in_hard (target whole g)) (fail_code (target whole g))
      (fits_target g (called_code p easy n (opened g depths)) (fits_calls n (opened g depths)) in_hard (target whole g) refl)
      (fits_fail (target whole g))
