-- What is made of neighbouring easy nodes.
use Rattle.std.specs.Prelude.{Bool, List, Result, IfOk, IfErr}
use Rattle.fancy_expr.specs.declared.error.Error.{Error}
use Rattle.fancy_info.specs.declared.info.Info.{Info}
use Rattle.fancy_nfa.specs.Nfas.{HaveClasses, IsRefusedFor}

-- Something is made of neighbouring easy nodes, each of whose class texts is a class;
-- or there is the error with which they are refused.
pub record IsMadeOf {A : Type 0} (unicode : Bool) (is : List Info)
    (Good : A → Type 0) (made : Result A Error) : Type 0 where
  pub value : IfOk made Good
  pub classes : IfOk made (λ _. HaveClasses unicode is)
  pub refused : IfErr made (IsRefusedFor unicode is)
