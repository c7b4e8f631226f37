-- What is printed of lines, one after the other.
use Rattle.std.proofs.Common.{◌≡◌, ℕ, ◌+◌, ◌<◌, ◌≤◌, add-one, drop, drop-cons, false, refl, Some, List, [], ◌∷◌, ◌++◌, Option, Result, Ok, append-nil, append_assoc, ap, get_or, length, map, sym, subst, take, ◌∙◌}
use Rattle.std.specs.Prelude.{OnOk}
use Rattle.std.specs.List.{flat_map}
use Rattle.std.proofs.lemmas.List.{drop_all, take_more}
use Rattle.fancy_grep.specs.Lines.{line_of}
use Rattle.fancy_grep.specs.Outputs.{Writes}
use Rattle.fancy_grep.specs.Printed.{gap, in_file, needs_matches, number_on, printed_all, printed_lines, printed_selected, shown_on}
use Rattle.fancy_grep.specs.declared.context.Shown.{Shown}
use Rattle.fancy_grep.specs.declared.reports.Page.{Page}
use Rattle.fancy_grep.specs.declared.lines.Line as code
use Rattle.fancy_grep.specs.declared.output.Output.{Output}
use Rattle.fancy_grep.specs.declared.printing.Style.{Style}
use Rattle.fancy_grep.specs.declared.reports.Part.{Part}
use Rattle.fancy_grep.specs.declared.settings.Settings.{Settings}
use Rattle.fancy_grep.proofs.OutputLaws.{writes_none, writes_then}

-- the last one comes last
flat_last : {X Y A : Type 0} (f : Y → List A) (g : X → Y) (xs : List X) (x : X) →
    flat_map f (map g (xs ++ x ∷ [])) ≡ flat_map f (map g xs) ++ f (g x)
flat_last f g [] x = append-nil (f (g x))
flat_last f g (y ∷ ys) x = ap (λ l. f (g y) ++ l) (flat_last f g ys x) ∙ sym (append_assoc (f (g y)) (flat_map f (map g ys)) (f (g x)))

-- one line more, where its printing succeeds
pub one_more : {W T E : Type 0} (contents : W → Option (List ℕ)) (a b c : Output W) (s : Settings) (style : Style) (passed : ℕ)
    (part : Part) (lines : List code.Line) (i : ℕ) (d : code.Line) (pushed : Result T E) (done : T) →
    i < length lines → pushed ≡ Ok done →
    (needs_matches s ≡ false → Writes contents a b (printed_lines s style passed part (map line_of (take i lines)))) →
    OnOk pushed (needs_matches s ≡ false → Writes contents b c (printed_selected s style (in_file passed part (line_of (get_or lines i d))))) →
    needs_matches s ≡ false → Writes contents a c (printed_lines s style passed part (map line_of (take (i + 1) lines)))
one_more contents a b c s style passed part lines i d pushed done within ok before now plain =
    subst (λ bytes. Writes contents a c bytes)
    (sym (ap (λ ls. printed_lines s style passed part (map line_of ls))
    (take_more lines i d within)
    ∙ flat_last (λ l. printed_selected s style (in_file passed part l)) line_of (take i lines) (get_or lines i d)))
    (writes_then contents (before plain)
    (subst (λ r. OnOk r (needs_matches s ≡ false → Writes contents b c (printed_selected s style (in_file passed part (line_of (get_or lines i d)))))) ok now plain))

-- ---- lines that are shown

-- These of them were printed, up to an index, and of the last one the number is known.
pub record Reached {W : Type 0} (contents : W → Option (List ℕ)) (page : Page) (a b : Output W) (first last : Option ℕ)
    (lines : List Shown) (i : ℕ) : Type 0 where
  pub done : List ℕ
  pub wrote : Writes contents a b done
  pub rest : printed_all page first lines ≡ done ++ printed_all page last (drop i lines)

pub reached_none : {W : Type 0} (contents : W → Option (List ℕ)) (page : Page) (a : Output W) (first : Option ℕ) (lines : List Shown) →
    Reached contents page a a first first lines 0
reached_none contents page a first lines = record { done = []; wrote = writes_none contents a; rest = refl }

-- one line more, where its printing succeeds
pub reached_more : {W T E : Type 0} (contents : W → Option (List ℕ)) (page : Page) (a b c : Output W) (first last next : Option ℕ)
    (lines : List Shown) (i : ℕ) (d : Shown) (pushed : Result T E) (ok : T) → i < length lines → pushed ≡ Ok ok →
    (needs_matches page.settings ≡ false → Reached contents page a b first last lines i) →
    OnOk pushed (needs_matches page.settings ≡ false →
    Writes contents b c (gap page last (number_on page (get_or lines i d)) ++ shown_on page (get_or lines i d))) →
    OnOk pushed (next ≡ Some (number_on page (get_or lines i d))) →
    needs_matches page.settings ≡ false → Reached contents page a c first next lines (i + 1)
reached_more contents page a b c first last next lines i d pushed ok within is before now at plain =
    let s : Shown = get_or lines i d in
    let one : List ℕ = gap page last (number_on page s) ++ shown_on page s in
    let so_far : Reached contents page a b first last lines i = before plain in
    let wrote : Writes contents b c one =
    subst (λ r. OnOk r (needs_matches page.settings ≡ false → Writes contents b c one)) is now plain in
    let next_is : next ≡ Some (number_on page s) = subst (λ r. OnOk r (next ≡ Some (number_on page s))) is at in
    let left : drop i lines ≡ s ∷ drop (i + 1) lines =
    drop-cons lines i d within ∙ ap (λ n. s ∷ drop n lines) (sym (add-one i)) in
    record {
      done = so_far.done ++ one;
      wrote = writes_then contents so_far.wrote wrote;
      rest =
          so_far.rest ∙ ap (λ ls. so_far.done ++ printed_all page last ls) left
          ∙ sym (append_assoc so_far.done one (printed_all page (Some (number_on page s)) (drop (i + 1) lines)))
          ∙ ap (λ n. (so_far.done ++ one) ++ printed_all page n (drop (i + 1) lines)) (sym next_is);
    }

pub reached_all : {W : Type 0} (contents : W → Option (List ℕ)) (page : Page) (a b : Output W) (first last : Option ℕ)
    (lines : List Shown) (i : ℕ) → length lines ≤ i →
    (needs_matches page.settings ≡ false → Reached contents page a b first last lines i) →
    needs_matches page.settings ≡ false → Writes contents a b (printed_all page first lines)
reached_all contents page a b first last lines i end before plain =
    let so_far : Reached contents page a b first last lines i = before plain in
    subst (λ bytes. Writes contents a b bytes)
    (sym (so_far.rest ∙ ap (λ ls. so_far.done ++ printed_all page last ls) (drop_all i lines end) ∙ append-nil so_far.done)) so_far.wrote
