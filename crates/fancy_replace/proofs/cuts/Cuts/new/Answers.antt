use Rattle.std.proofs.Common.{◌<◌, length, map, refl, sym, subst, arith}
use Rattle.std.proofs.lemmas.Str.{IsCharBoundary-start}
use Rattle.fancy_laws.proofs.Characters.{place_of_cut}
use Rattle.fancy_meaning.specs.Numbers.{usize_max}
use Rattle.fancy_steps.specs.Outcomes.{first_pair}
use Rattle.fancy_matches.specs.Matchers.{left_of}
use Rattle.fancy_replace.specs.Steps.{AreAhead}
use Rattle.fancy_replace.proofs.Cutting.{all_ahead}
use Rattle.fancy_replace.proofs.cuts.Cuts.new.Goals as goal

pub returns : goal.returns
returns c =
    let text = c.args.text.now in
    let small : length text < usize_max = omega arith in
    record {
      within = refl;
      from = refl;
      limit = refl;
      first = c.first.ensures;
      ahead = λ r. record {
        place = place_of_cut text 0 (IsCharBoundary-start text c.utf8.text);
        spans = λ i o h.
            subst (λ s. AreAhead text 0 (map first_pair (left_of i text o s))) (sym c.first.ensures)
            (all_ahead i text o (record { utf8 = c.utf8.text; fits = small }));
      };
    }
