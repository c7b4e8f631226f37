-- A text that is made is what is to be said.
use Rattle.std.proofs.Common.{◌≡◌, ℕ, List, IfOk, Result, Ok, Err, refl, sym, ap, ◌∙◌, subst}
use Rattle.fancy_expr.specs.declared.error.CompileError.{CompileError}
use Rattle.fancy_expr.specs.declared.error.Error.{Error}
use Rattle.fancy_expr.specs.declared.error.Error.TheVariants as error
use Rattle.fancy_faults.specs.Faults.{IsFaultOf}
use Rattle.fancy_faults.specs.declared.fault.Fault.{Fault}
use Rattle.fancy_info.specs.declared.context.AnalyzeContext.{AnalyzeContext}
use Rattle.fancy_pattern.specs.declared.options.ParseOptions.{ParseOptions}
use Rattle.fancy_search.specs.Requests as asked
use Rattle.fancy_search.specs.declared.request.Request.{Request}
use Rattle.fancy_host.specs.Hosted.{analysis, failure, parsing, request}
use Rattle.fancy_host.specs.Messages.{IsExplanation, message}
use Rattle.fancy_host.specs.declared.options.FancyOptions.{FancyOptions}
use Rattle.fancy_host.specs.declared.outcome.FancyOutcome.{FancyOutcome}

pub said_by : {X E : Type 0} (r : Result X E) (bytes : X → List ℕ) (m : List ℕ) (IsRight : List ℕ → Type 0) → IfOk r (λ x. bytes x ≡ m) →
    IsRight m → IfOk r (λ x. IsRight (bytes x))
said_by (Ok x) bytes m IsRight is right = subst IsRight (sym is) right
said_by (Err e) bytes m IsRight is right = tt

pub told_by : {X E : Type 0} (r : Result X E) (bytes : X → List ℕ) (Is IsRight : List ℕ → Type 0) → IfOk r (λ x. Is (bytes x)) →
    ((text : List ℕ) → Is text → IsRight text) → IfOk r (λ x. IsRight (bytes x))
told_by (Ok x) bytes Is IsRight is right = right (bytes x) is
told_by (Err e) bytes Is IsRight is right = tt

-- an error that is no refusal is explained by what its outcome says
pub otherwise : (o : FancyOptions) (bytes : List ℕ) (e : Error) (outcome : FancyOutcome) → ((refused : CompileError) → e ≡ error.CompileError refused → ⊥) →
    outcome ≡ failure e → IsExplanation o bytes e (message outcome)
otherwise o bytes (error.CompileError refused) outcome other is = absurd (other refused refl)
otherwise o bytes e outcome other is = ap message is

-- a fault by the options that a host gives
pub fault_by : (o : FancyOptions) {p : ParseOptions} {x : AnalyzeContext} {r : Request} {bytes : List ℕ} {refused : CompileError} {fault : Fault} →
    p ≡ parsing o → x ≡ asked.analysis r → r ≡ request o → IsFaultOf p x bytes refused fault → IsFaultOf (parsing o) (analysis o) bytes refused fault
fault_by o {p} {x} {r} {bytes} {refused} {fault} read analysed asked_so is =
    subst (λ q. IsFaultOf q (analysis o) bytes refused fault) read
    (subst (λ y. IsFaultOf p y bytes refused fault) (analysed ∙ ap asked.analysis asked_so) is)
