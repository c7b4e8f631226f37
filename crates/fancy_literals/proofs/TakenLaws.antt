-- What nodes take, one after the other.
use Rattle.std.proofs.Common.{◌≡◌, ◌⊎◌, ⊎_elim, ◌<◌, ◌+◌, length, take, get_or, inl, inr, ℕ, Bool, Option, Some, None, IfSome, Result, Ok, Err, IfOk, is_ok, if◌then◌else◌, String, Global, string_bytes, List, [], ◌∷◌, ◌++◌, map, encode_utf8, encode_utf8_all, refl, sym, ap, subst, ◌∙◌, append_assoc, append-nil}
use Rattle.std.proofs.lemmas.List.{map-append}
use Rattle.std.proofs.lemmas.Option.{IfSome_then}
use Rattle.fancy_meaning.specs.Tree.{Tree, trees}
use Rattle.fancy_expr.specs.Views.{tree_of}
use Rattle.fancy_expr.specs.declared.expr.Expr.{Expr}
use Rattle.fancy_expr.proofs.Walks.{taken}
use Rattle.fancy_literals.specs.Takes.{AreRead, BeginWith, EndWith, IsTaken, Takes, literal}
use Rattle.fancy_literals.specs.declared.required.Literals.{Literals}

-- where what look-behinds take counts, or not
module _ (behind : Bool) where
  -- ---- a list that grows

  begin_on : (cs : List ℕ) (es ds : List Tree) → BeginWith cs (trees es) → BeginWith cs (trees (es ++ ds))
  begin_on [] es ds h = tt
  begin_on (c ∷ cs) [] ds h = absurd h
  begin_on (c ∷ cs) (e ∷ es) ds h = (h.0, begin_on cs es ds h.1)

  pub taken_on : (piece : List ℕ) (es ds : List Tree) → IsTaken behind piece es → IsTaken behind piece (es ++ ds)
  taken_on piece [] ds h = absurd h
  taken_on piece (e ∷ es) ds (inl b) = inl (record { row = b.row; begins = begin_on b.row (e ∷ es) ds b.begins; spelled = b.spelled })
  taken_on piece (e ∷ es) ds (inr (inl h)) = inr (inl h)
  taken_on piece (e ∷ es) ds (inr (inr h)) = inr (inr (taken_on piece es ds h))

  pub taken_last : (piece : List ℕ) (es : List Tree) (e : Tree) → Takes behind piece e → IsTaken behind piece (es ++ e ∷ [])
  taken_last piece [] e h = inr (inl h)
  taken_last piece (d ∷ es) e h = inr (inr (taken_last piece es e h))

  -- ---- a row of literals

  begins_itself : (cs : List ℕ) → BeginWith cs (trees (map literal cs))
  begins_itself [] = tt
  begins_itself (c ∷ cs) = (refl, begins_itself cs)

  row_is_taken : (piece : List ℕ) (before : List Tree) (c : ℕ) (cs : List ℕ) → encode_utf8_all (c ∷ cs) ≡ piece →
      IsTaken behind piece (before ++ map literal (c ∷ cs))
  row_is_taken piece [] c cs e = inl (record { row = c ∷ cs; begins = begins_itself (c ∷ cs); spelled = e })
  row_is_taken piece (d ∷ before) c cs e = inr (inr (row_is_taken piece before c cs e))

  -- a row that is not empty
  pub end_is_taken : (piece : List ℕ) (es : List Tree) → EndWith piece es → (piece ≡ [] → ⊥) → IsTaken behind piece es
  end_is_taken piece es h some = by_row h.row h.spelled h.split
    where
      by_row : (row : List ℕ) → encode_utf8_all row ≡ piece → es ≡ h.before ++ map literal row → IsTaken behind piece es
      by_row [] e s = absurd (some (sym e))
      by_row (c ∷ cs) e s = subst (IsTaken behind piece) (sym s) (row_is_taken piece h.before c cs e)

  pub ends_with_none : (es : List Tree) → EndWith [] es
  ends_with_none es = record { before = es; row = []; split = sym (append-nil es); spelled = refl }

  all_encoded : (cs : List ℕ) (c : ℕ) → encode_utf8_all (cs ++ c ∷ []) ≡ encode_utf8_all cs ++ encode_utf8 c
  all_encoded [] c = append-nil (encode_utf8 c)
  all_encoded (d ∷ cs) c = ap (λ l. encode_utf8 d ++ l) (all_encoded cs c) ∙ sym (append_assoc (encode_utf8 d) (encode_utf8_all cs) (encode_utf8 c))

  pub ends_with_more : (piece : List ℕ) (es : List Tree) (e : Tree) (c : ℕ) → EndWith piece es → e ≡ literal c →
      EndWith (piece ++ encode_utf8 c) (es ++ e ∷ [])
  ends_with_more piece es e c h is = record {
    before = h.before;
    row = h.row ++ c ∷ [];
    split =
        ap (λ d. es ++ d ∷ []) is
        ∙ ap (λ l. l ++ literal c ∷ []) h.split
        ∙ append_assoc h.before (map literal h.row) (literal c ∷ [])
        ∙ ap (λ l. h.before ++ l) (sym (map-append literal h.row (c ∷ [])));
    spelled = all_encoded h.row c ∙ ap (λ l. l ++ encode_utf8 c) h.spelled;
  }

  -- ---- nodes that were read

  pub none_read : (row : String Global) → string_bytes row ≡ [] → AreRead behind (record { longest = None; row = row }) []
  none_read row e = record { ends = subst (λ piece. EndWith piece []) (sym e) (ends_with_none []); taken = tt }

  module _ (longest : Option (String Global)) (row : String Global) (es : List Tree)
      (read : AreRead behind (record { longest = longest; row = row }) es) where
    abbrev TakenByThem : String Global → Type 0
    TakenByThem s = IsTaken behind (string_bytes s) es

    pub longer_taken : (result : Option (String Global)) →
        IfSome result (λ s. (longest ≡ Some s) ⊎ ((s ≡ row) × (string_bytes row ≡ [] → ⊥))) → IfSome result TakenByThem
    longer_taken result h =
        IfSome_then result h
        (λ s. ⊎_elim (λ e. subst (λ o. IfSome o TakenByThem) e read.taken)
        (λ p. subst TakenByThem (sym p.0) (end_is_taken (string_bytes row) es read.ends p.1)))

    pub read_literal : (c : ℕ) (more : String Global) → string_bytes more ≡ string_bytes row ++ encode_utf8 c →
        AreRead behind (record { longest = longest; row = more }) (es ++ literal c ∷ [])
    read_literal c more is = record {
      ends = subst (λ piece. EndWith piece (es ++ literal c ∷ [])) (sym is) (ends_with_more (string_bytes row) es (literal c) c read.ends refl);
      taken = IfSome_then longest read.taken (λ s. taken_on (string_bytes s) es (literal c ∷ []));
    }

    pub pushed : {E : Type 0} (result : Result (Unit {0}) E) (c : ℕ) (more : String Global) →
        string_bytes more ≡ (if is_ok result then string_bytes row ++ encode_utf8 c else string_bytes row) →
        IfOk result (λ u. AreRead behind (record { longest = longest; row = more }) (es ++ literal c ∷ []))
    pushed (Ok u) c more is = read_literal c more is
    pushed (Err e) c more is = tt

  -- a node ends the row
  pub row_ends : (longest taken last : Option (String Global)) (row : String Global) (es : List Tree) (e : Tree) →
      IfSome longest (λ s. IsTaken behind (string_bytes s) es) → IfSome taken (λ s. Takes behind (string_bytes s) e) →
      IfSome last (λ s. (longest ≡ Some s) ⊎ (taken ≡ Some s)) → string_bytes row ≡ [] →
      AreRead behind (record { longest = last; row = row }) (es ++ e ∷ [])
  row_ends longest taken last row es e before here is empty = record {
    ends = subst (λ piece. EndWith piece (es ++ e ∷ [])) (sym empty) (ends_with_none (es ++ e ∷ []));
    taken = IfSome_then last is
        (λ s. ⊎_elim
        (λ old. taken_on (string_bytes s) es (e ∷ []) (subst (λ o. IfSome o (λ r. IsTaken behind (string_bytes r) es)) old before))
        (λ new. taken_last (string_bytes s) es e (subst (λ o. IfSome o (λ r. Takes behind (string_bytes r) e)) new here)));
  }

  -- one more of the nodes
  pub read_more : (given : List Expr) (i : ℕ) (e : Expr) (read : Literals) → i < length given → e ≡ get_or given i e →
      AreRead behind read (map tree_of (take i given) ++ tree_of e ∷ []) → AreRead behind read (map tree_of (take (i + 1) given))
  read_more given i e read lt at h =
      subst (AreRead behind read)
      (sym (map-append tree_of (take i given) (e ∷ [])) ∙ ap (map tree_of) (sym (taken given i e lt at))) h
