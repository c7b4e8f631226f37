use Rattle.std.proofs.Common.{◌<◌, ◌∷◌, [], ◌++◌, false, length, get_or, take, filter_map, sym, ap, ◌∙◌, subst, arith}
use Rattle.std.proofs.lemmas.List.{take_all, take_more}
use Rattle.std.proofs.lemmas.List.Elements.{filter_map-append}
use Rattle.fancy_analysis.specs.declared.links.Link.{Link}
use Rattle.fancy_analysis.specs.Reached.{AreWays, way_from}
use Rattle.fancy_analysis.proofs.SearchSteps.{listed_none}
use Rattle.fancy_analysis.proofs.reached.ways.Goals as goal

pub loop-link-init : goal.loop-link-init
loop-link-init c = record {
  same_length = c.in_ok-ways.ensures.length;
  listed = λ n. listed_none c.in_ok-ways.ways.items c.in_ok-ways.ensures.none n;
}

pub list_link-requires : goal.list_link-requires
list_link-requires c =
    let h = c.requires c.loop-link.link-index (record { from = 0; to = 0; at_once = false }) (omega arith) in
    omega (arith, h, c.loop-link.invariant.same_length)

pub loop-link-preserved : goal.loop-link-preserved
loop-link-preserved c =
    let links = c.args.links.now in
    let i = c.loop-link.link-index in
    let none : Link = record { from = 0; to = 0; at_once = false } in
    let lt : i < length links = omega arith in
    record {
      same_length = c.in_ok-list_link.ensures.length ∙ c.loop-link.invariant.same_length;
      listed = λ n.
          let way = way_from c.args.at_once n in
          c.in_ok-list_link.ensures.listed n
          ∙ ap (λ l. l ++ filter_map way (get_or links i none ∷ [])) (c.loop-link.invariant.listed n)
          ∙ sym (ap (filter_map way) (take_more links i none lt) ∙ filter_map-append way (take i links) (get_or links i none ∷ []));
    }

pub returns-clause-ways : goal.returns-clause-ways
returns-clause-ways c =
    subst (λ l. AreWays c.args.at_once l c.loop-link.ways.items) (take_all c.loop-link.link-index c.args.links.now (omega arith)) c.loop-link.invariant.listed
