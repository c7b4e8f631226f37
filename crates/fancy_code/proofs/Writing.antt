-- How stretches of code are put together.
use Rattle.std.proofs.Common.{◌≡◌, ◌+◌, ◌≤◌, List, [], ◌++◌, length, Option, Some, None, refl, sym, ap, ◌∙◌, subst, arith, append_assoc, append-nil, length-append}
use Rattle.fancy_meaning.specs.Tree.{Tree}
use Rattle.fancy_meaning.specs.Code.{Code, Laid, nothing, ◌>>◌}
use Rattle.fancy_code.specs.Sites.{Site}
use Rattle.fancy_expr.specs.declared.error.Error.{Error}
use Rattle.fancy_code.specs.Drafts.{Draft, IsOver, Extends, Breaks, Turns, Adds, Writes}
use Rattle.fancy_code.specs.Faults.{Refusal, AreCompilable, HasRejected}
use Rattle.fancy_code.proofs.Faults.{all_accepted, rejected_first, rejected_second, over_more, breaks_by}

pub extended_length : (a : Laid) (s t : Draft) → Extends a s t → length t.instrs ≡ length s.instrs + length a.instrs
extended_length a s t e = ap length e.instrs ∙ length-append s.instrs a.instrs

-- ---- one stretch as another, which writes other nodes at another site

module _ (p q : Site) (a c : Laid) (es ds : List Tree) (s u v : Draft) (over : length a.instrs ≤ length c.instrs) (extends : Extends a s u → Extends c s v)
    (accepted : AreCompilable p es → AreCompilable q ds) (rejected : (x : Refusal) → HasRejected p es x → HasRejected q ds x) where
  turns_to : (fs fu : Option Error) → Turns p a es s u fs fu → Turns q c ds s v fs fu
  turns_to None None h = (extends h.0, accepted h.1)
  turns_to None (Some x) h = breaks_by p q c a ds es s s (over_more s.limit _ _ (omega (arith, over))) rejected x h
  turns_to (Some x) None h = absurd h
  turns_to (Some x) (Some y) h = h

  pub adds_to : Adds p a es s u → v.limit ≡ u.limit → v.fault ≡ u.fault → Adds q c ds s v
  adds_to h limit fault = record {
    limit = limit ∙ h.limit;
    turns = subst (Turns q c ds s v s.fault) (sym fault) (turns_to s.fault u.fault h.turns);
  }

module _ (p : Site) where
  -- ---- two stretches as one

  module _ (a b c : Laid) (es ds : List Tree) (s t u v : Draft) (first_within : length s.instrs + length a.instrs ≤ length s.instrs + length c.instrs)
      (second_within : Extends a s t → length t.instrs + length b.instrs ≤ length s.instrs + length c.instrs)
      (extends : Extends a s t → Extends b t u → Extends c s v) where
    turns_by : t.limit ≡ s.limit → (fs ft fu : Option Error) → Turns p a es s t fs ft → Turns p b ds t u ft fu → Turns p c (es ++ ds) s v fs fu
    turns_by same None None None h g = (extends h.0 g.0, all_accepted p es ds h.1 g.1)
    turns_by same None None (Some x) h g = breaks_by p p c b (es ++ ds) ds s t
        (λ o. over_more s.limit _ _ (second_within h.0) (subst (λ l. IsOver l (length t.instrs + length b.instrs)) same o)) (rejected_second p es ds) x g
    turns_by same None (Some x) None h g = absurd g
    turns_by same None (Some x) (Some y) h g = subst (Breaks p c (es ++ ds) s) g
        (breaks_by p p c a (es ++ ds) es s s (over_more s.limit _ _ first_within) (rejected_first p es ds) x h)
    turns_by same (Some x) None fu h g = absurd h
    turns_by same (Some x) (Some y) None h g = absurd g
    turns_by same (Some x) (Some y) (Some z) h g = h ∙ g

    pub adds_by : Adds p a es s t → Adds p b ds t u → v.limit ≡ u.limit → v.fault ≡ u.fault → Adds p c (es ++ ds) s v
    adds_by h g limit fault = record {
      limit = limit ∙ g.limit ∙ h.limit;
      turns = subst (Turns p c (es ++ ds) s v s.fault) (sym fault) (turns_by h.limit s.fault t.fault u.fault h.turns g.turns);
    }

  -- the same instructions
  pub adds_same : (a c : Laid) (es : List Tree) (s u : Draft) → a.instrs ≡ c.instrs → a.fresh ≡ c.fresh → Adds p a es s u → Adds p c es s u
  adds_same a c es s u same fresh h =
      adds_to p p a c es es s u u (omega (arith, ap length same)) (λ e. record { instrs = e.instrs ∙ ap (λ l. s.instrs ++ l) same; fresh = e.fresh ∙ fresh })
      (λ x. x) (λ x y. y) h refl refl

  -- ---- nothing, and one after the other

  turns_nothing : (s : Draft) (f : Option Error) → Turns p (nothing (length s.instrs) s.fresh) [] s s f f
  turns_nothing s None = (record { instrs = sym (append-nil s.instrs); fresh = refl }, tt)
  turns_nothing s (Some x) = refl

  pub wrote_nothing : (s : Draft) → Writes p nothing [] s s
  wrote_nothing s = record { limit = refl; turns = turns_nothing s s.fault }

  module _ (a b : Code) (es ds : List Tree) (s t u : Draft) where
    abbrev first : Laid
    first = a (length s.instrs) s.fresh

    abbrev second : Laid
    second = b (length s.instrs + length first.instrs) first.fresh

    second_at : Extends first s t → b (length t.instrs) t.fresh ≡ second
    second_at e = ap (λ n. b n t.fresh) (extended_length first s t e) ∙ ap (b _) e.fresh

    pub wrote_then : Writes p a es s t → Writes p b ds t u → Writes p (a >> b) (es ++ ds) s u
    wrote_then h g =
        adds_by first (b (length t.instrs) t.fresh) ((a >> b) (length s.instrs) s.fresh) es ds s t u u
        (omega (arith, length-append first.instrs second.instrs))
        (λ e. omega (arith, ap (λ (l : Laid). length l.instrs) (second_at e), extended_length first s t e, length-append first.instrs second.instrs))
        (λ e f. record {
          instrs = f.instrs ∙ ap (λ (l : Laid). t.instrs ++ l.instrs) (second_at e) ∙ ap (λ l. l ++ second.instrs) e.instrs
              ∙ append_assoc s.instrs first.instrs second.instrs;
          fresh = f.fresh ∙ ap (λ (l : Laid). l.fresh) (second_at e);
        })
        h g refl refl

  pub without_nothing : (a : Code) (es : List Tree) (s u : Draft) → Writes p (a >> nothing) es s u → Writes p a es s u
  without_nothing a es s u h = adds_same _ _ es s u (append-nil _) refl h
