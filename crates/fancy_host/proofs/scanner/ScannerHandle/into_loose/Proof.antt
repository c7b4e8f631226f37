-- `into_loose` moves two fields, and what they own goes with them.
use Rattle.std.proofs.Common.{List, [], ◌∷◌, ◌++◌, refl, sym, subst}
use mir.Val.{Val, vptr}
use base.Logic.{SProp, ent, id⊢}
use base.Fml.{ftrue, fsep}
use prog.Wp.{WpFn}
use types.Kit.{‵, raw, ◌⊛◌, ◌$◌, ◌∵◌, !, qed, move, drop, use1, join, split, fsplit, fjoin, suffices, done}
use types.Part.{whole, sub, agg}
use types.Run.{stop, fld, no_more, and_then, of_opd, returns, enter}
use types.ByLocal.{alloc_all, pass_all, free_all, look_at, get, get_in, sets}
use contract.Running.{tables}
use denote.RawPtr.{block_ptr}
use denote.Exit.{yes}
use denote.Steps.{nothing}
use denote.Triple.Walked.{says, Stays, stay_dropped, walk_of, ends_at, Goes-dropped}
use Rattle.std.proofs.raw_atomic.Walks.{proved_at}
use contract.Monad.{fact}
use types.Kit.{rewrite}
use denote.Steps.{heard}
use Rattle.std.specs.Prelude.{Option}
use Rattle.std.specs.Option.{IsSome}
use Rattle.std.specs.contracts.impls.GlobalAllocator.TheImpl.{ghosts}
use Rattle.fancy_host.proofs.Values.{both, loose_good, loose_in, loose_out}
use Rattle.fancy_host.proofs.ScannerRows.{R, Z, LZ, Box, Handle, FromHandle, what_is_there}
use Rattle.fancy_host.specs.contracts.scanner.ScannerHandle.into_loose.{ended, clauses}
use Rattle.fancy_host.specs.contracts.scanner.ScannerHandle.into_loose.Key.{name as #self}
use Rattle.fancy_host.proofs.scanner.ScannerHandle.into_loose.Statement.{statement}
use Rattle.fancy_host.proofs.scanner.ScannerHandle.into_loose.Code as code

pub into_loose_spec : {M : Type 1} → statement M
into_loose_spec 𝓤 𝓛 𝓜 𝓡 wired =
    let H = 𝓛.H in let 𝓣 = tables 𝓤 H 𝓜 𝓡 𝓡.env in let c = clauses 𝓛 𝓜.mem 𝓡.returns in let fn = code.function in
    let hs : Stays ended.signature.params ended.kept = (stay_dropped FromHandle yes, tt) in
    proved_at 𝓛 ended hs c 𝓜 𝓡 (Goes-dropped 𝓛 0 FromHandle yes (λ κs x f. refl), tt) #self fn (code.unfolded 𝓤 H 𝓜 𝓡 wired) (λ z are.
    let a : Handle.Denot = z.0.3.0 in let Post = (walk_of 𝓛 ended hs c).post z in let Run : List Val → SProp 𝓤 = λ ws. WpFn 𝓤 H 𝓣.C 𝓣.Λ fn ws Post in
    qed 𝓛 ((‵ ftrue ⊛ ‵ (fsep (Handle.own_val a z.0.4.0) ftrue)) ∷ raw (fact 𝓤 (IsSome a.scanner)) ∷ []) ∵ move ! (1 ∷ []) $
    heard ! (IsSome a.scanner) (λ is_some.
    let there = what_is_there a.scanner is_some in let d : Box.Denot = record { at = a.at; alloc = a.alloc; value = there.0 } in
    split ! $ drop ! $ fsplit ! $ rewrite ! 0 (λ (m : Option R.Denot). ‵ (Handle.own_val (record a { scanner = m }) z.0.4.0)) there.1 refl $
    use1 𝓛 (‵ (Box.own_val d z.0.4.0)) (id⊢ 𝓤 _) $
    loose_out R Z LZ ghosts ! d z.0.4.0 (λ b o h e ws fits.
    let w : Val = both (vptr b o) h in let made : Box.Denot = record d { at = block_ptr b o } in let typed = loose_good R Z LZ ghosts b o h fits in
    loose_in R Z LZ ghosts ! b o h d.alloc d.value $ move ! (1 ∷ []) $ drop ! $
    suffices ! (Run (w ∷ [])) (subst (λ (us : List Val). ent 𝓤 (Run (w ∷ [])) (Run us)) (sym (λ i. ws i ++ [])) (id⊢ 𝓤 (Run (w ∷ [])))) $
    enter ! 𝓣.C 𝓣.Λ fn (w ∷ []) Post $ alloc_all ! (λ l. pass_all ! refl (typed, tt) $
    sets ! (of_opd ! (get_in ! (fld ! refl (stop !)) (sub ! 0 refl (whole !)))) refl (tt, tt) $
    sets ! (of_opd ! (get_in ! (fld ! refl (stop !)) (sub ! 1 refl (whole !)))) refl fits $
    sets ! (of_opd ! (get ! refl)) refl (tt, tt) $ sets ! (agg ! (and_then ! (get ! refl) (and_then ! (get ! refl) (no_more !)))) refl typed $
    returns ! (look_at ! 0 refl) $ free_all ! refl $ suffices ! _ (ends_at 𝓛 ended hs c z w made (tt, tt) (tt, tt)) $ says ! there.1 $
    nothing ! $ nothing ! $ fjoin ! $ join ! $ nothing ! $ join ! $ done !))))
