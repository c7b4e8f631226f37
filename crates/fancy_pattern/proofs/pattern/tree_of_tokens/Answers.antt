use Rattle.std.proofs.Common.{map, refl, sym, subst, ◌∙◌}
use Rattle.std.proofs.lemmas.Result.{err_from_is_err_and}
use Rattle.fancy_expr.specs.Views.{tree_of}
use Rattle.fancy_pattern.specs.declared.reader.Reader.{Reader}
use Rattle.fancy_pattern.specs.Naming.{pairs_in}
use Rattle.fancy_tokens.specs.PatternViews.{placed_of}
use Rattle.fancy_pattern.specs.Reading.{OneCharEach}
use Rattle.fancy_pattern.proofs.DescribedTrees.{well_formed}
use Rattle.fancy_pattern.proofs.Told.{whole_fails, whole_left}
use Rattle.fancy_pattern.proofs.Unreferring.{unreferring}
use Rattle.fancy_pattern.proofs.Spelled.{spelled_whole, tree_made}
use Rattle.fancy_pattern.proofs.pattern.tree_of_tokens.Goals as goal

pub described-requires : goal.described-requires
described-requires c =
    let start : Reader = record { alloc = c.args.alloc; rest = c.args.tokens } in
    λ h.
    unreferring c.args.tokens.now (tree_of c.in_ok-expr.expr)
    (spelled_whole (pairs_in c.in_ok-names.names.pairs) (map placed_of c.args.tokens.now) start c.read_tree.new.self
    (tree_of c.in_ok-expr.expr) c.in_ok-names.ensures refl c.in_ok-expr.ensures.spells c.in_ok-read_end.ensures.done)
    (sym c.of-facts.ensures.names_group ∙ h)

pub returns-clause-made : goal.returns-clause-made
returns-clause-made c = λ options text lexed.
    let ts = map placed_of c.args.tokens.now in
    let start : Reader = record { alloc = c.args.alloc; rest = c.args.tokens } in
    let is =
    tree_made options text c.args.ignored ts ts c.in_ok-expr.expr c.in_ok-described.field-0 lexed
    (spelled_whole (pairs_in c.in_ok-names.names.pairs) ts start c.read_tree.new.self (tree_of c.in_ok-expr.expr)
    c.in_ok-names.ensures refl c.in_ok-expr.ensures.spells c.in_ok-read_end.ensures.done)
    c.in_ok-described.ensures.same refl
    (c.in_ok-described.ensures.describes ts
    (record { groups = c.of-facts.ensures.groups; by_number = c.of-facts.ensures.by_number; names_group = c.of-facts.ensures.names_group })
    c.in_ok-names.ensures) in (
      is,
      well_formed options text c.in_ok-described.field-0 is
          (subst OneCharEach (sym c.in_ok-described.ensures.same) c.in_ok-expr.ensures.one_char),
    )

pub returns-in_err-expr-clause-fails : goal.returns-in_err-expr-clause-fails
returns-in_err-expr-clause-fails c = λ options text lexed.
    let start : Reader = record { alloc = c.args.alloc; rest = c.args.tokens } in
    let p = err_from_is_err_and c.from_residual-in_err-expr.result c.from_residual-in_err-expr.ensures.1 in
    rw (p.1, p.2) (whole_fails options text c.args.ignored (map placed_of c.args.tokens.now) (pairs_in c.in_ok-names.names.pairs) start _
    lexed c.in_ok-names.ensures refl c.in_err-expr.ensures.fails)

pub returns-in_err-read_end-clause-fails : goal.returns-in_err-read_end-clause-fails
returns-in_err-read_end-clause-fails c = λ options text lexed.
    let start : Reader = record { alloc = c.args.alloc; rest = c.args.tokens } in
    let p = err_from_is_err_and c.from_residual-in_err-read_end.result c.from_residual-in_err-read_end.ensures.1 in
    rw (p.1, p.2) (whole_left options text c.args.ignored (map placed_of c.args.tokens.now) (pairs_in c.in_ok-names.names.pairs) start
    c.read_tree.new.self (tree_of c.in_ok-expr.expr) _
    lexed c.in_ok-names.ensures refl c.in_ok-expr.ensures.spells c.in_err-read_end.ensures.left)
