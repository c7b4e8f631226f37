-- `empty` makes a null pointer, behind which nothing is owned.
use Rattle.std.proofs.Common.{List, [], ◌∷◌, ◌++◌, refl, sym, subst, w64, lit<}
use mir.Val.{Val, vint, has_ty}
use base.Logic.{SProp, ent, emp, id⊢}
use base.Fml.{ftrue, fsep}
use prog.Wp.{WpFn}
use types.Kit.{‵, raw, ◌⊛◌, ◌$◌, ◌∵◌, !, qed, move, drop, join, split, fsplit, fjoin, suffices, done}
use types.Part.{agg}
use types.Run.{lit, no_more, and_then, returns, enter}
use types.ByLocal.{alloc_all, pass_all, free_all, look_at, get, sets}
use contract.Running.{tables}
use denote.RawPtr.{null_ptr}
use denote.Signature.{plain}
use denote.Exit.{yes}
use denote.Steps.{nothing}
use denote.Param.{layout}
use denote.Triple.Walked.{says, Stays, stay_dropped, walk_of, ends_at, Goes-dropped}
use Rattle.std.specs.Prelude.{None}
use Rattle.std.specs.contracts.impls.GlobalAllocator.TheImpl.{ghosts}
use Rattle.std.proofs.alloc.Calls.{handle_tells}
use Rattle.std.proofs.ResultValues.{and_tt}
use Rattle.std.proofs.raw_atomic.Walks.{proved_at}
use Rattle.fancy_host.proofs.Values.{al, both}
use Rattle.fancy_host.proofs.ScannerRows.{R, Z, LZ, Handle, none_in}
use Rattle.fancy_host.specs.contracts.scanner.ScannerHandle.empty.{ended, clauses}
use Rattle.fancy_host.specs.contracts.scanner.ScannerHandle.empty.Key.{name as #self}
use Rattle.fancy_host.proofs.scanner.ScannerHandle.empty.Statement.{statement}
use Rattle.fancy_host.proofs.scanner.ScannerHandle.empty.Code as code

pub empty_spec : {M : Type 1} → statement M
empty_spec 𝓤 𝓛 𝓜 𝓡 wired =
    let H = 𝓛.H in let 𝓣 = tables 𝓤 H 𝓜 𝓡 𝓡.env in let c = clauses 𝓛 𝓜.mem 𝓡.returns in let fn = code.function in
    let From = plain (λ _. Z) in let hs : Stays ended.signature.params ended.kept = (stay_dropped From yes, tt) in
    proved_at 𝓛 ended hs c 𝓜 𝓡 (Goes-dropped 𝓛 0 From yes (λ κs x f. refl), tt) #self fn (code.unfolded 𝓤 H 𝓜 𝓡 wired) (λ z are.
    let a = z.0.3.0 in let Post = (walk_of 𝓛 ended hs c).post z in let Run : List Val → SProp 𝓤 = λ ws. WpFn 𝓤 H 𝓣.C 𝓣.Λ fn ws Post in
    qed 𝓛 ((‵ ftrue ⊛ ‵ (fsep (Z.own_val a z.0.4.0) ftrue)) ∷ raw (emp 𝓤) ∷ []) ∵ split ! $ drop ! $ fsplit ! $
    handle_tells (al R Z LZ ghosts) ! a z.0.4.0 (λ h ws fits.
    let w : Val = both (vint w64 0) h in let made : Handle.Denot = record { at = null_ptr; alloc = a; scanner = None } in
    move ! (1 ∷ 2 ∷ []) $ drop ! $ drop ! $
    suffices ! (Run (h ∷ [])) (subst (λ (us : List Val). ent 𝓤 (Run (h ∷ [])) (Run us)) (sym (λ i. ws i ++ [])) (id⊢ 𝓤 (Run (h ∷ [])))) $
    enter ! 𝓣.C 𝓣.Λ fn (h ∷ []) Post $ alloc_all ! (λ l. pass_all ! refl (fits, tt) $
    sets ! (agg ! (and_then ! (lit ! tt) (and_then ! (get ! refl)
    (no_more !)))) refl (and_tt (has_ty (layout Z) h) fits.0, (record { fits = lit< tt }, (fits.1, tt))) $
    none_in ! h a $
    returns ! (look_at ! 0 refl) $ free_all ! refl $ suffices ! _ (ends_at 𝓛 ended hs c z w made (tt, tt) (tt, tt)) $ says ! refl $
    nothing ! $ nothing ! $ fjoin ! $ join ! $ nothing ! $ join ! $ done !)))
