-- What the program has done once its line was written, or was not.
use Rattle.std.proofs.Common.{◌≡◌, ◌<◌, ◌≤◌, ℕ, Bool, List, Option, Some, None, Ok, Err, string_bytes, refl, sym, ◌∙◌, subst}
use Rattle.std.specs.declared.string.String.{String}
use Rattle.std.specs.declared.alloc.Global.{Global}
use Rattle.fancy_expr.specs.declared.error.Error.{Error}
use Rattle.fancy_expr.specs.declared.error.Error.TheVariants as error
use Rattle.fancy_notation.specs.Depth.{depth}
use Rattle.fancy_command.specs.Arguments.{Text, Question, question_of}
use Rattle.fancy_command.specs.Commands.{AnswersTo, unread, Shows, Performs, on_output, on_error, most_depth, misused, too_deep, answered, refused, WritesError, by_name, as_memory, status_after}
use Rattle.fancy_command.specs.Printing.{depth_line, error_line, usage_line}
use Rattle.fancy_command.specs.Writing.{Writes}

-- the line of a refusal was to be written
pub written_by_name : (out out' : Option Text) (e : Error) (line bytes : Text) (written : Bool) (s : ℕ) → line ≡ error_line e → bytes ≡ line →
    Writes out out' bytes written → s ≡ status_after written 1 → WritesError out out' e s
written_by_name out out' e line bytes written s names is writes status =
    subst (λ n. WritesError out out' e n) (sym status) (by_name (subst (λ l. Writes out out' l written) (is ∙ names) writes))

pub written_as_memory : (out out' : Option Text) (e : Error) (bytes : Text) (written : Bool) (s : ℕ) → bytes ≡ error_line error.Memory →
    Writes out out' bytes written → s ≡ status_after written 1 → WritesError out out' e s
written_as_memory out out' e bytes written s names writes status =
    subst (λ n. WritesError out out' e n) (sym status) (as_memory (subst (λ l. Writes out out' l written) names writes))

module _ (words : List Text) where
  pub misused_by : (out err err' : Option Text) (bytes : Text) (written : Bool) (s : ℕ) → None ≡ question_of words → bytes ≡ usage_line →
      Writes err err' bytes written → s ≡ status_after written 2 → Performs words out out err err' s
  misused_by out err err' bytes written s asks usage writes status =
      subst (λ n. Performs words out out err err' n) (sym status)
      (on_error (misused (sym asks)) (subst (λ l. Writes err err' l written) usage writes) refl)

  pub too_deep_by : (out out' err : Option Text) (q : Question) (bytes : Text) (written : Bool) (s : ℕ) → Some q ≡ question_of words →
      most_depth < depth q.tree → bytes ≡ depth_line → Writes out out' bytes written → s ≡ status_after written 1 →
      Performs words out out' err err s
  too_deep_by out out' err q bytes written s asks deep names writes status =
      subst (λ n. Performs words out out' err err n) (sym status)
      (on_output (too_deep {q = q} (sym asks) deep) (subst (λ l. Writes out out' l written) names writes) refl)

  pub answered_by : (out out' err : Option Text) (q : Question) (shown : String Global) (bytes : Text) (written : Bool) (s : ℕ) →
      Some q ≡ question_of words → depth q.tree ≤ most_depth → Shows q (Ok shown) → bytes ≡ string_bytes shown →
      Writes out out' bytes written → s ≡ status_after written 0 → Performs words out out' err err s
  answered_by out out' err q shown bytes written s asks flat h same writes status =
      subst (λ n. Performs words out out' err err n) (sym status)
      (on_output (answered {q = q} (sym asks) flat h.1) (subst (λ l. Writes out out' l written) (same ∙ h.2) writes) refl)

  pub refused_by : (out out' err : Option Text) (q : Question) (e : Error) (s : ℕ) → Some q ≡ question_of words →
      depth q.tree ≤ most_depth → AnswersTo q (Err e) → WritesError out out' e s → Performs words out out' err err s
  refused_by out out' err q e s asks flat h (by_name writes) = on_output (refused {q = q} (sym asks) flat h) writes refl
  refused_by out out' err q e s asks flat h (as_memory writes) =
      on_output (refused {q = q} {e = error.Memory} (sym asks) flat (unread tt)) writes refl
