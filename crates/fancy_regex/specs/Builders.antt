-- What a pattern with its options becomes, and why it is refused.
use Rattle.std.specs.Prelude.{◌≡◌, ◌-◌, ◌^◌, ℕ, suc, List, None, chars}
use Rattle.std.specs.Borrow.{Bor}
use Rattle.fancy_expr.specs.Sound.{IsWellFormedTree}
use Rattle.fancy_expr.specs.Views.{parsed_of}
use Rattle.fancy_expr.specs.declared.expr.ExprTree.{ExprTree}
use Rattle.fancy_matches.specs.Matchers.{HasNoLimits}
use Rattle.fancy_matches.specs.declared.matcher.Matcher as compiled_regex
use Rattle.fancy_pattern.specs.Spelling as spelling
use Rattle.fancy_pattern.specs.declared.error.PatternError.TheVariants as of_parser
use Rattle.fancy_pattern.specs.declared.options.ParseOptions.{ParseOptions}
use Rattle.fancy_search.specs.Searches.{IsNestedOver, IsRefusedAs}
use Rattle.fancy_regex.specs.Errors.{engine_error}
use Rattle.fancy_regex.specs.Names.{group_count, names_in}
use Rattle.fancy_regex.specs.Options.{ExceedsAnalysisLimit, default_options, input, limits, running}
use Rattle.fancy_regex.specs.Regexes.{IsRegexOf, engine_of, names_of, options_of, pattern_of}
use Rattle.fancy_regex.specs.declared.builder.RegexBuilder.{RegexBuilder}
use Rattle.fancy_regex.specs.declared.error.Error.{Error}
use Rattle.fancy_regex.specs.declared.error.Error.TheVariants as face
use Rattle.fancy_regex.specs.declared.names.GroupNames.{GroupNames}
use Rattle.fancy_regex.specs.declared.options.RegexOptions.{RegexOptions}
use Rattle.fancy_regex.specs.declared.regexes.Regex.{Regex}

-- ---- the builder

-- a pattern with the default options
abbrev pub default_builder : Bor (List ℕ) → RegexBuilder
default_builder pattern = record { pattern = pattern; options = default_options }

abbrev pub options : RegexBuilder → RegexOptions
options b = b.options

-- the same, but that its options are these
abbrev pub with_options : RegexBuilder → RegexOptions → RegexBuilder
with_options b o = record b { options = o }

-- how the pattern is read
abbrev pub parsing : RegexBuilder → ParseOptions
parsing b = (b.options).parsing

-- the same, but that the pattern is read so
abbrev pub with_parsing : RegexBuilder → ParseOptions → RegexBuilder
with_parsing b p = with_options b (record b.options { parsing = p })

-- ---- the regex

-- the names of the tree's groups, and how many there are
pub record AreNamesOf (tree : ExprTree) (g : GroupNames) : Type 0 where
  pub names : names_in g ≡ (parsed_of tree).named_groups
  pub count : group_count g ≡ suc tree.total_groups

module _ (pattern : List ℕ) (o : RegexOptions) where
  -- the tree that the pattern spells, with what comes with it
  pub record IsTreeOf (t : ExprTree) : Type 0 where
    pub spelled : spelling.IsTreeOf o.parsing (chars pattern) t
    pub well_formed : IsWellFormedTree t

  -- the same, and its analysis stays within the limit
  pub record IsTreeWithin (t : ExprTree) : Type 0 where
    pub spelled : IsTreeOf t
    pub within : ¬ ExceedsAnalysisLimit o.analysis_limit t

  -- it has this pattern and these options, the names of this tree, and what this was compiled to
  pub record IsMadeOf (tree : ExprTree) (engine : compiled_regex.Matcher) (r : Regex) : Type 0 where
    pub has_pattern : pattern_of r ≡ pattern
    pub has_options : options_of r ≡ o
    pub names : AreNamesOf tree (names_of r)
    pub compiled : engine_of r ≡ engine

  -- the regex of the pattern: it was compiled from the tree that the pattern spells, and has its names
  pub record IsBuilt (r : Regex) : Type 0 where
    pub tree : ExprTree
    pub spelled : IsTreeOf tree
    pub compiled : (text : List ℕ) → IsRegexOf (input tree o) text (running o text) r
    -- the tree stands within the limits of the analysis and of nesting
    pub analysed_within : ¬ ExceedsAnalysisLimit o.analysis_limit tree
    pub within : ¬ IsNestedOver (input tree o) o.max_nesting
    -- where no limit of backtracks or instructions was asked it has none
    pub unlimited : o.backtrack_limit ≡ None → o.step_limit ≡ 2 ^ 64 - 1 → HasNoLimits (engine_of r)
    -- its searches of easy parts have these limits
    pub limited : ((engine_of r).options).limits ≡ limits o
    pub names : AreNamesOf tree (names_of r)
    pub has_pattern : pattern_of r ≡ pattern
    pub has_options : options_of r ≡ o

  -- the analysis of a tree that the pattern spells exceeds its limit
  pub record IsOverAnalysisLimit : Type 0 where
    pub tree : ExprTree
    pub spelled : IsTreeOf tree
    pub exceeds : ExceedsAnalysisLimit o.analysis_limit tree

  -- a tree that the pattern spells, and whose analysis stays within the limit, is refused with this error
  pub record IsRefusedTree (e : Error) : Type 0 where
    pub tree : ExprTree
    pub spelled : IsTreeOf tree
    pub analysed_within : ¬ ExceedsAnalysisLimit o.analysis_limit tree
    pub refused : IsRefusedAs (input tree o) o.max_nesting (engine_error e)

  -- The pattern has this fault; the analysis of the tree that it spells exceeds its limit, or the tree is refused; or memory was.
  abbrev pub IsRefused : Error → Type 0
  IsRefused (face.ParseError at kind) = spelling.IsError o.parsing (chars pattern) (of_parser.Parse at kind)
  IsRefused (face.CompileError e) = IsRefusedTree (face.CompileError e)
  IsRefused (face.RuntimeError e) = ⊥
  IsRefused face.NestLimitExceeded = IsRefusedTree face.NestLimitExceeded
  IsRefused face.AnalysisLimitExceeded = IsOverAnalysisLimit
  IsRefused face.VisitLimitExceeded = ⊥
  IsRefused face.MemoryLimitExceeded = ⊥
  IsRefused face.Memory = Unit {0}
