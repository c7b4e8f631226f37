use Rattle.std.proofs.Common.{◌≡◌, List, Bool, ℕ, Option, false, true, refl, subst}
use Rattle.fancy_meaning.specs.Tree.{Tree, Repeat}
use Rattle.fancy_literals.specs.Opens.{OpensBy}
use Rattle.fancy_literals.specs.declared.firsts.Opening.{Opening}
use Rattle.fancy_literals.specs.declared.firsts.Opening.TheVariants as opening
use Rattle.fancy_literals.proofs.OpenLaws.{loop_opens}
use Rattle.fancy_literals.proofs.firsts.or_empty.Goals as goal

-- but for one that begins so, which is left out
kept : (o : Opening) → (o ≡ opening.Begins → ⊥) → (bytes : List Bool) (e : Tree) (unicode greedy : Bool) (hi : Option ℕ) → OpensBy unicode o bytes e →
    OpensBy unicode o bytes (Repeat 0 hi greedy e)
kept opening.Unknown other bytes e unicode greedy hi h = tt
kept opening.Stays other bytes e unicode greedy hi h = loop_opens unicode true bytes e h hi greedy
kept opening.Begins other bytes e unicode greedy hi h = absurd (other refl)

pub returns-in-Begins : goal.returns-in-Begins
returns-in-Begins c bytes e unicode greedy hi h =
    loop_opens unicode false bytes e (subst (λ o. OpensBy unicode o bytes e) c.in-Begins.is h) hi greedy

pub returns-in_default : goal.returns-in_default
returns-in_default c bytes e unicode greedy hi h = kept c.args.opening c.in_default.not-Begins bytes e unicode greedy hi h
