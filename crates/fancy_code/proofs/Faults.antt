-- Faults of one stretch of code and of a longer one.
use Rattle.std.proofs.Common.{ℕ, ◌+◌, ◌≤◌, Option, Some, None, arith, inl, inr, List, [], ◌∷◌, ◌++◌, length}
use Rattle.fancy_meaning.specs.Tree.{Tree}
use Rattle.fancy_meaning.specs.Code.{Laid}
use Rattle.fancy_code.specs.Sites.{Site}
use Rattle.fancy_expr.specs.Errors.{error_of}
use Rattle.fancy_expr.specs.declared.error.Error.{Error}
use Rattle.fancy_expr.specs.declared.error.Error.TheVariants as error
use Rattle.fancy_code.specs.Faults.{Refusal, refused_as, too_deep, AreCompilable, HasRejected}
use Rattle.fancy_code.specs.Drafts.{Draft, IsOver, Breaks}

pub over_more : (limit : Option ℕ) (m n : ℕ) → m ≤ n → IsOver limit m → IsOver limit n
over_more None m n le h = h
over_more (Some most) m n le h = omega (arith, le, h)

module _ (p : Site) where
  pub all_accepted : (es ds : List Tree) → AreCompilable p es → AreCompilable p ds → AreCompilable p (es ++ ds)
  all_accepted [] ds a b = b
  all_accepted (e ∷ es) ds a b = (a.0, all_accepted es ds a.1 b)

  pub rejected_first : (es ds : List Tree) (x : Refusal) → HasRejected p es x → HasRejected p (es ++ ds) x
  rejected_first [] ds x h = absurd h
  rejected_first (e ∷ es) ds x (inl h) = inl h
  rejected_first (e ∷ es) ds x (inr h) = inr (rejected_first es ds x h)

  pub rejected_second : (es ds : List Tree) (x : Refusal) → HasRejected p ds x → HasRejected p (es ++ ds) x
  rejected_second [] ds x h = h
  rejected_second (e ∷ es) ds x h = inr (rejected_second es ds x h)

-- from what is written at one site to what is written at another
module _ (p q : Site) (a b : Laid) (es ds : List Tree) (s t : Draft) where
  pub breaks_by : (IsOver t.limit (length t.instrs + length b.instrs) → IsOver s.limit (length s.instrs + length a.instrs))
      → ((x : Refusal) → HasRejected p ds x → HasRejected q es x) → (x : Error) → Breaks p b ds t x → Breaks q a es s x
  breaks_by over rejected error.Memory h = h
  breaks_by over rejected (error.CompileError x) (inl h) = inl (h.0, over h.1)
  breaks_by over rejected (error.CompileError x) (inr h) = inr (rejected (refused_as (error_of x)) h)
  breaks_by over rejected (error.RuntimeError x) h = h
  breaks_by over rejected (error.TreeFault at) h = h
  breaks_by over rejected error.NestLimitExceeded h = rejected too_deep h
