-- What is marked.
use Rattle.std.proofs.Common.{◌≡◌, ⊎_elim, ℕ, Bool, true, false, ◌==◌, nat_eq, if◌then◌else◌, List, [], ◌∷◌, ◌++◌, filter_map, Contains, refl, sym, ap, ◌∙◌, subst, eqb-true}
use Rattle.std.specs.List.{list_any}
use Rattle.std.proofs.lemmas.Bool.{or_cases}
use Rattle.std.proofs.lemmas.List.Folds.{list_any-append}
use Rattle.std.proofs.lemmas.List.Elements.{Contains-append_left, Contains-append_right, filter_map-append}
use Rattle.fancy_meaning.specs.Tree.{Tree, Trees, none, more, Concat, Group}
use Rattle.fancy_meaning.specs.Nodes.{nodes, nodes_of_each}
use Rattle.fancy_meaning.specs.Marks.{group_number, takes_nothing, marked_nodes, first_marked_nodes, has_marked_continue, marked_groups}
use Rattle.fancy_laws.proofs.NodesBelow.{itself_contained, later_contained}
use Rattle.fancy_laws.proofs.Marks.{first_has_continue, continue_in_first, continue_later}

-- a marked group of a part: where its body has a marked `\G`, the part does
pub record MarkedGroup (nodes_there : List Tree) (g : ℕ) (continues : Tree → Bool) (part_continues : Bool) : Type 0 where
  pub body : Tree
  pub is_there : Contains nodes_there (Group g body)
  pub continues_too : continues body ≡ true → part_continues ≡ true

module _ (whole : Tree) (g : ℕ) where
  mutual
    pub marked_group : (e : Tree) → list_any (nat_eq g) (marked_groups whole e) ≡ true →
        MarkedGroup (nodes e) g (has_marked_continue whole) (has_marked_continue whole e)
    marked_group (Group k e) h =
        ⊎_elim {C = MarkedGroup (Group k e ∷ nodes e) g (has_marked_continue whole) (has_marked_continue whole e)}
        (λ is.
        let same : g ≡ k = eqb-true g k is in
        record {
          body = e;
          is_there = subst (λ x. Contains (Group x e ∷ nodes e) (Group g e)) same (itself_contained (Group g e));
          continues_too = λ b. b;
        })
        (λ rest.
        let r = marked_group e rest in
        record {
          body = r.body;
          is_there = later_contained (Group k e) (nodes e) (Group g r.body) r.is_there;
          continues_too = r.continues_too;
        })
        (or_cases (g == k) (list_any (nat_eq g) (marked_groups whole e)) h)
    marked_group (Concat es) h =
        let r = first_marked_group es h in
        record {
          body = r.body;
          is_there = later_contained (Concat es) (nodes_of_each es) (Group g r.body) r.is_there;
          continues_too = r.continues_too;
        }
    marked_group e h = cc

    first_marked_group : (es : Trees) → list_any (nat_eq g) (filter_map group_number (first_marked_nodes whole es)) ≡ true →
        MarkedGroup (nodes_of_each es) g (has_marked_continue whole) (first_has_continue whole es)
    first_marked_group none h = cc
    first_marked_group (more e es) h =
        ⊎_elim {C = MarkedGroup (nodes e ++ nodes_of_each es) g (has_marked_continue whole) (first_has_continue whole (more e es))}
        (λ first'.
        let r = marked_group e first' in
        record {
          body = r.body;
          is_there = Contains-append_left (nodes e) (nodes_of_each es) (Group g r.body) r.is_there;
          continues_too = λ b. continue_in_first whole e es (r.continues_too b);
        })
        (λ later. past (takes_nothing whole e) refl later (λ l. first_marked_group es l))
        (or_cases (list_any (nat_eq g) (marked_groups whole e)) (list_any (nat_eq g) (filter_map group_number rest))
        (sym
        (ap (list_any (nat_eq g)) (filter_map-append group_number (marked_nodes whole e) rest)
        ∙ list_any-append (nat_eq g) (marked_groups whole e) (filter_map group_number rest))
        ∙ h))
      where
        rest : List Tree
        rest = if takes_nothing whole e then first_marked_nodes whole es else []

        past : (v : Bool) → takes_nothing whole e ≡ v →
            list_any (nat_eq g) (filter_map group_number (if v then first_marked_nodes whole es else [])) ≡ true →
            (list_any (nat_eq g) (filter_map group_number (first_marked_nodes whole es)) ≡ true →
            MarkedGroup (nodes_of_each es) g (has_marked_continue whole) (first_has_continue whole es)) →
            MarkedGroup (nodes e ++ nodes_of_each es) g (has_marked_continue whole) (first_has_continue whole (more e es))
        past false nothing l f = cc
        past true nothing l f =
            let r = f l in
            record {
              body = r.body;
              is_there = Contains-append_right (nodes e) (nodes_of_each es) (Group g r.body) r.is_there;
              continues_too = λ b. continue_later whole e es nothing (r.continues_too b);
            }
