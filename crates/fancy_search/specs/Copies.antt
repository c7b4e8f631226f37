-- Copies of trees for engines.
use Rattle.std.specs.Prelude.{◌≡◌, false, List, [], ◌∷◌, map}
use Rattle.fancy_meaning.specs.Tree.{Tree}
use Rattle.fancy_compile.specs.declared.options.CompileOptions.{CompileOptions}
use Rattle.fancy_expr.specs.Views.{tree_of}
use Rattle.fancy_info.specs.Infos.{info_expr, info_facts}
use Rattle.fancy_info.specs.declared.info.Info.{Info}
use Rattle.fancy_search.specs.declared.common.Common.{Common}

-- the trees of the nodes that it holds
abbrev pub trees_in : Common → List Tree
trees_in c = map tree_of c.delegate.value.fragment.exprs.items

-- it is the node's tree, which is compiled so that searches are for the first match at any start
pub record IsCopyOf (info : Info) (options : CompileOptions) (c : Common) : Type 0 where
  pub tree : trees_in c ≡ tree_of (info_expr info) ∷ []
  pub unicode : c.unicode ≡ options.unicode
  pub any_start : options.anchored ≡ false
  pub any_end : options.disallow_empty_match_at_eof_after_newline ≡ false
  pub implicit : (info_facts info).options.explicit_capture_group_0 ≡ false
