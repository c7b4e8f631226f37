-- The links of a tree are its tracked calls, and lead to its outer groups.
use Rattle.std.proofs.Common.{◌≡◌, ◌≢◌, ◌⊎◌, ℕ, Bool, true, false, not, ◌&&◌, ◌||◌, ◌==◌, if◌then◌else◌, List, ◌∷◌, ◌++◌, map, Contains, Option, Some, None, MatchOption, refl, sym, ap, ◌∙◌, subst, inl, inr}
use Rattle.std.specs.List.{list_any}
use Rattle.std.proofs.lemmas.List.{map-append}
use Rattle.std.proofs.lemmas.Bool.{eqb-true, eqb-false, eq-eqb, ne_eqb, and_parts, or_cases, or_left, or_right, and_from, not-true, not_from_false}
use Rattle.fancy_meaning.specs.Tree as plain
use Rattle.fancy_meaning.specs.Tree.{Tree}
use Rattle.fancy_meaning.specs.Spots.{Around, Spot, spots, spots_in_turn, spots_of_each, all_spots}
use Rattle.fancy_meaning.specs.Nodes.{nodes, nodes_of_each}
use Rattle.fancy_meaning.specs.WellFormed.{is_call}
use Rattle.fancy_expr.proofs.Listed.{any-map, any_passes, true_false}
use Rattle.fancy_meaning.specs.Recursion.{IsTracked, Calls, IsOuter, IsReachable, LeadsAtOnce, IsLeftRecursive, IsLeastLeftRecursive}
use Rattle.fancy_meaning.specs.Recursion as meaning
use Rattle.fancy_analysis.specs.declared.links.Link.{Link}
use Rattle.fancy_analysis.specs.Links.{link_from, link_of, around_of, links_of}
use Rattle.fancy_analysis.proofs.SearchSteps.{IsPicked, picked, picks, given}
use Rattle.fancy_analysis.specs.Reached.{IsLink, IsLinked, IsLinkedAtOnce, IsReached, the_whole, further, LeadsOn, by_one, by_more, LeadsIntoCycle, IsLeastIntoCycle}

-- ---- what a link says

record IsCall (n : Tree) (a : Around) (l : Link) : Type 0 where
  pub is_call : n ≡ plain.SubroutineCall l.to
  pub is_tracked : (a.owner ≢ 0) ⊎ (a.is_skipped ≡ false)
  pub owner : a.owner ≡ l.from
  pub at_once : l.at_once ≡ (a.position == 0)

record IsOuterGroup (n : Tree) (a : Around) (l : Link) : Type 0 where
  pub body : Tree
  pub is_group : n ≡ plain.Group l.to body
  pub owner : a.owner ≡ 0
  pub is_entered : a.is_skipped ≡ false
  pub from : l.from ≡ 0
  pub at_once : l.at_once ≡ false

tracked : (owner : ℕ) (skipped : Bool) → (not (owner == 0) || not skipped) ≡ true → (owner ≢ 0) ⊎ (skipped ≡ false)
tracked owner skipped h = elim (or_cases (not (owner == 0)) (not skipped) h) [
  | inl p ↦ inl (eqb-false owner 0 (not-true (owner == 0) p))
  | inr p ↦ inr (not-true skipped p)
]

is_tracked : (owner : ℕ) (skipped : Bool) → (owner ≢ 0) ⊎ (skipped ≡ false) → (not (owner == 0) || not skipped) ≡ true
is_tracked owner skipped h = elim h [
  | inl p ↦ or_left (not (owner == 0)) (not skipped) (not_from_false (owner == 0) (ne_eqb owner 0 p))
  | inr p ↦ or_right (not (owner == 0)) (not skipped) (not_from_false skipped p)
]

read : (n : Tree) (a : Around) (l : Link) → link_from n a ≡ Some l → IsCall n a l ⊎ IsOuterGroup n a l
read (plain.SubroutineCall g) a l e =
    let w = given (not (a.owner == 0) || not a.is_skipped) _ l e in
    inl (record {
      is_call = ap (λ x. plain.SubroutineCall x.to) w.1;
      is_tracked = tracked a.owner a.is_skipped w.0;
      owner = ap (λ x. x.from) w.1;
      at_once = sym (ap (λ x. x.at_once) w.1);
    })
read (plain.Group g body) a l e =
    let w = given (a.owner == 0 && not a.is_skipped) _ l e in
    let both = and_parts (a.owner == 0) (not a.is_skipped) w.0 in
    inr (record {
      body = body;
      is_group = ap (λ x. plain.Group x.to body) w.1;
      owner = eqb-true a.owner 0 both.0;
      is_entered = not-true a.is_skipped both.1;
      from = sym (ap (λ x. x.from) w.1);
      at_once = sym (ap (λ x. x.at_once) w.1);
    })
read n a l e = cc

abbrev call_link : Spot → ℕ → Link
call_link s g = record { from = s.owner; to = g; at_once = s.position == 0 }

call_gives : (s : Spot) (g : ℕ) → s.node ≡ plain.SubroutineCall g → IsTracked s → link_of s ≡ Some (call_link s g)
call_gives s g e t =
    ap (λ n. link_from n (around_of s)) e
    ∙ ap (λ b. if b then Some (call_link s g) else None) (is_tracked s.owner s.is_skipped t.in_group_or_entered)

abbrev group_link : ℕ → Link
group_link g = record { from = 0; to = g; at_once = false }

group_gives : (s : Spot) (g : ℕ) (body : Tree) → s.node ≡ plain.Group g body → s.owner ≡ 0 → s.is_skipped ≡ false → link_of s ≡ Some (group_link g)
group_gives s g body e owner entered =
    ap (λ n. link_from n (around_of s)) e
    ∙ ap (λ b. if b then Some (group_link g) else None)
    (and_from (s.owner == 0) (not s.is_skipped) (eq-eqb s.owner 0 owner) (not_from_false s.is_skipped entered))

-- ---- links, calls and outer groups

module _ (whole : Tree) where
  abbrev links : List Link
  links = links_of whole

  to_calls : (l : Link) → Contains links l → IsPicked link_of (all_spots whole) l
  unfolding links_of
  to_calls l c = picked link_of (all_spots whole) l c

  from_spot : (s : Spot) (l : Link) → Contains (all_spots whole) s → link_of s ≡ Some l → Contains links l
  unfolding links_of
  from_spot s l c e = picks link_of (all_spots whole) s l c e

  call_read : (s : Spot) (l : Link) → Contains (all_spots whole) s → IsCall s.node (around_of s) l → Calls whole l.from s.position l.to
  call_read s l c i = record {
    spot = s;
    is_there = c;
    is_tracked = record { in_group_or_entered = i.is_tracked };
    is_call = i.is_call;
    owner = i.owner;
    position = refl;
  }

  reach_by : (l : Link) → Contains links l → IsReachable whole l.from → IsReachable whole l.to
  reach_by l c r =
      let p = to_calls l c in
      elim (read p.from.node (around_of p.from) l p.gives) [
        | inl i ↦ meaning.by_call r (call_read p.from l p.is_there i)
        | inr o ↦ meaning.outer
            (record { spot = p.from; is_there = p.is_there; body = o.body; is_group = o.is_group; owner = o.owner; is_entered = o.is_entered })
      ]

  pub reachable : (n : ℕ) → IsReached links n → IsReachable whole n
  reachable n the_whole = meaning.the_whole
  reachable n (further {g} r l) =
      let from = reachable g r in
      subst (IsReachable whole) l.leads_to (reach_by l.link l.is_there (subst (IsReachable whole) (sym l.leads_from) from))

  call_linked : (at_once : Bool) (g at h : ℕ) → Calls whole g at h → (not at_once || at == 0) ≡ true → IsLink at_once links g h
  call_linked at_once g at h c is = record {
    link = call_link c.spot h;
    is_there = from_spot c.spot (call_link c.spot h) c.is_there (call_gives c.spot h c.is_call c.is_tracked);
    leads_from = c.owner;
    leads_to = refl;
    is_one = ap (λ p. not at_once || p == 0) c.position ∙ is;
  }

  outer_linked : (g : ℕ) → IsOuter whole g → IsLinked links 0 g
  outer_linked g o = record {
    link = group_link g;
    is_there = from_spot o.spot (group_link g) o.is_there (group_gives o.spot g o.body o.is_group o.owner o.is_entered);
    leads_from = refl;
    leads_to = refl;
    is_one = refl;
  }

  pub reached : (n : ℕ) → IsReachable whole n → IsReached links n
  reached n meaning.the_whole = the_whole
  reached n (meaning.outer o) = further the_whole (outer_linked n o)
  reached n (meaning.by_call {g} {h} {at} r c) = further (reached g r) (call_linked false g at n c refl)

  call_at_once : (g h : ℕ) → IsLinkedAtOnce links g h → Calls whole g 0 h
  call_at_once g h l =
      let p = to_calls l.link l.is_there in
      elim (read p.from.node (around_of p.from) l.link p.gives) [
        | inl i ↦ (
            let start : p.from.position ≡ 0 = eqb-true p.from.position 0 (sym i.at_once ∙ l.is_one) in
            record {
              spot = p.from;
              is_there = p.is_there;
              is_tracked = record { in_group_or_entered = i.is_tracked };
              is_call = i.is_call ∙ ap plain.SubroutineCall l.leads_to;
              owner = i.owner ∙ l.leads_from;
              position = start;
            }
            )
        | inr o ↦ (let a = o.at_once in let b = l.is_one in cc)
      ]

  at_once : (g h : ℕ) → LeadsOn links g h → LeadsAtOnce whole g h
  at_once g h (by_one l) = meaning.once (call_at_once g h l)
  at_once g k (by_more {h} p q) = meaning.again (at_once g h p) (at_once h k q)

  leads_on : (g h : ℕ) → LeadsAtOnce whole g h → LeadsOn links g h
  leads_on g h (meaning.once c) = by_one (call_linked true g 0 h c refl)
  leads_on g k (meaning.again {h} p q) = by_more (leads_on g h p) (leads_on h k q)

  pub left_recursive : (n : ℕ) → IsReached links n → LeadsIntoCycle links n → IsLeftRecursive whole n
  left_recursive n r c = record {
    is_reachable = reachable n r;
    on_cycle = c.on_cycle;
    leads = elim c.leads [ inl e ↦ inl e | inr p ↦ inr (at_once n c.on_cycle p) ];
    cycle = at_once c.on_cycle c.on_cycle c.cycle;
  }

  into_cycle : (n : ℕ) → IsLeftRecursive whole n → LeadsIntoCycle links n
  into_cycle n c = record {
    on_cycle = c.on_cycle;
    leads = elim c.leads [ inl e ↦ inl e | inr p ↦ inr (leads_on n c.on_cycle p) ];
    cycle = leads_on c.on_cycle c.on_cycle c.cycle;
  }

  pub none_left_recursive : ((n : ℕ) → IsReached links n → ¬ LeadsIntoCycle links n) → (n : ℕ) → ¬ IsLeftRecursive whole n
  none_left_recursive none n l = none n (reached n l.is_reachable) (into_cycle n l)

  pub least_left_recursive : (n : ℕ) → IsLeastIntoCycle links n → IsLeastLeftRecursive whole n
  least_left_recursive n i = record {
    is_one = left_recursive n i.reached i.leads;
    least = λ m lt l. i.least m lt (reached m l.is_reachable) (into_cycle m l);
  }

-- what is found of the links of a tree
pub found_left : (whole : Tree) (list : List Link) (r : Option ℕ) → list ≡ links_of whole →
    MatchOption r ((n : ℕ) → IsReached list n → ¬ LeadsIntoCycle list n) (λ n. IsLeastIntoCycle list n) →
    MatchOption r ((n : ℕ) → ¬ IsLeftRecursive whole n) (λ n. IsLeastLeftRecursive whole n)
found_left whole list None is found =
    none_left_recursive whole (subst (λ l. (n : ℕ) → IsReached l n → ¬ LeadsIntoCycle l n) is found)
found_left whole list (Some g) is found = least_left_recursive whole g (subst (λ l. IsLeastIntoCycle l g) is found)

-- ---- where no node is a call

module _ (whole : Tree) where
  both_nodes : (p q : List Spot) (es fs : List Tree) → map (λ s. s.node) p ≡ es → map (λ s. s.node) q ≡ fs → map (λ s. s.node) (p ++ q) ≡ es ++ fs
  both_nodes p q es fs a b = map-append (λ s. s.node) p q ∙ ap (λ l. l ++ map (λ s. s.node) q) a ∙ ap (λ l. es ++ l) b

  mutual
    spots-nodes : (a : Around) (e : Tree) → map (λ s. s.node) (spots whole a e) ≡ nodes e
    spots-nodes a (plain.Concat es) = ap (λ l. plain.Concat es ∷ l) (turn-nodes a es)
    spots-nodes a (plain.Alt es) = ap (λ l. plain.Alt es ∷ l) (each-nodes a es)
    spots-nodes a (plain.Group g e) = ap (λ l. plain.Group g e ∷ l) (spots-nodes _ e)
    spots-nodes a (plain.LookAround look e) = ap (λ l. plain.LookAround look e ∷ l) (spots-nodes a e)
    spots-nodes a (plain.Repeat lo hi greedy e) = ap (λ l. plain.Repeat lo hi greedy e ∷ l) (spots-nodes _ e)
    spots-nodes a (plain.AtomicGroup e) = ap (λ l. plain.AtomicGroup e ∷ l) (spots-nodes a e)
    spots-nodes a (plain.DefineGroup e) = ap (λ l. plain.DefineGroup e ∷ l) (spots-nodes _ e)
    spots-nodes a (plain.Conditional c t f) =
        ap (λ l. plain.Conditional c t f ∷ l) (both_nodes _ _ _ _ (spots-nodes a c) (both_nodes _ _ _ _ (spots-nodes _ t) (spots-nodes a f)))
    spots-nodes a (plain.AbsentRepeater e) = ap (λ l. plain.AbsentRepeater e ∷ l) (spots-nodes a e)
    spots-nodes a (plain.AbsentStopper e) = ap (λ l. plain.AbsentStopper e ∷ l) (spots-nodes a e)
    spots-nodes a (plain.AbsentExpression x e) = ap (λ l. plain.AbsentExpression x e ∷ l) (both_nodes _ _ _ _ (spots-nodes a x) (spots-nodes a e))
    spots-nodes a e = refl

    turn-nodes : (a : Around) (es : plain.Trees) → map (λ s. s.node) (spots_in_turn whole a es) ≡ nodes_of_each es
    turn-nodes a plain.none = refl
    turn-nodes a (plain.more e es) = both_nodes _ _ _ _ (spots-nodes a e) (turn-nodes _ es)

    each-nodes : (a : Around) (es : plain.Trees) → map (λ s. s.node) (spots_of_each whole a es) ≡ nodes_of_each es
    each-nodes a plain.none = refl
    each-nodes a (plain.more e es) = both_nodes _ _ _ _ (spots-nodes a e) (each-nodes a es)

  module _ (none : list_any is_call (nodes whole) ≡ false) where
    no_call : (g at h : ℕ) → ¬ Calls whole g at h
    unfolding all_spots
    no_call g at h c =
        true_false
        (sym (any_passes (λ s. is_call s.node) (all_spots whole) c.spot c.is_there (ap is_call c.is_call))
        ∙ any-map is_call (λ s. s.node) (all_spots whole) ∙ ap (list_any is_call) (spots-nodes _ whole) ∙ none)

    leads_nowhere : (g h : ℕ) → ¬ LeadsAtOnce whole g h
    leads_nowhere g h (meaning.once c) = no_call g 0 h c
    leads_nowhere g k (meaning.again {h} p q) = leads_nowhere g h p

    pub no_left_recursion : (g : ℕ) → ¬ IsLeftRecursive whole g
    no_left_recursion g l = leads_nowhere l.on_cycle l.on_cycle l.cycle
