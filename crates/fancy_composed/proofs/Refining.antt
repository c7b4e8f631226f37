-- Code that simulates its ways refines them wherever it stands.
use Rattle.std.proofs.Common.{◌≡◌, ◌⊎◌, inl, inr, ℕ, List, [], ◌++◌, Option, refl}
use Rattle.fancy_meaning.specs.MatchState.{MatchState}
use Rattle.fancy_meaning.specs.Config.{Slots, Branch, Config, Outcome, Next, Goes}
use Rattle.fancy_meaning.specs.Machine.{fail_to}
use Rattle.fancy_meaning.specs.Enumerates.{IsBranchLimit, Leads, PartBounds, no_more, next_way}
use Rattle.fancy_meaning.specs.Enumerates as handing
use Rattle.fancy_composed.proofs.Continuations.{Continuation, Meets, limit, same, Tally, tally_of, To, to_trans, after, Ground, config, here, failed}
use Rattle.fancy_composed.proofs.Enumerates.{Enumerates, none, way}
use Rattle.fancy_composed.proofs.Parts.{Stands, After}

module _ (w : Ground)
    (reaches : (count : Tally) → To (w.bottom count) (after w.task (fail_to w.task w.base (config 0 0 (λ s. 0) [] [] w.start count)))) where
  leads : (from to : Next) → To (after w.task from) (after w.task to) → Leads w.task from to
  leads from to t = record { instructions = t.steps; by = λ n. met (t.by n) }
    where
      met : {r p : Outcome} → Meets r p → IsBranchLimit r ⊎ (r ≡ p)
      met (limit l) = inl l
      met (same e) = inr e

  -- the bounds of a part that begins with these slots and marks, above the base
  abbrev pub bounds : ℕ → ℕ → Slots → List ℕ → Tally → ℕ → ℕ → ℕ → PartBounds
  bounds pc ix slots marks count b n m = record {
    entry = here w pc ix slots marks [] count;
    exit = b;
    taken_from = n;
    taken_to = m;
  }

  stands_there : (s : MatchState) (pc ix : ℕ) (slots : Slots) (marks : List ℕ) (bs : List Branch) (count : Tally) → ix ≡ s.place →
      Stands w s slots → handing.Stands w.task (here w pc ix slots marks bs count) s
  stands_there s pc ix slots marks bs count e st = record {
    place = e;
    kept = st.kept;
    starts = st.starts;
    ends = st.ends;
    flag = st.flagged;
  }

  pub stands_here : (s : MatchState) (c : Config) → handing.Stands w.task c s → Stands w s c.slots
  stands_here s c st = record { kept = st.kept; starts = st.starts; ends = st.ends; flagged = st.flag }

  pub handed_by : (pc ix : ℕ) (slots : Slots) (marks : List ℕ) (count : Tally) (b n m : ℕ) {hs : List MatchState}
      {best : Option (List ℕ)} {o : Continuation}
      (next : Next) → To (after w.task next) o → Enumerates w b (After w n m slots) marks [] best hs o →
      handing.Enumerates w.task (bounds pc ix slots marks count b n m) best next hs
  handed_by pc ix slots marks count b n m next t (none k u) =
      no_more (config 0 0 (λ s. 0) [] [] w.start k) refl refl
      (leads next (fail_to w.task w.base (config 0 0 (λ s. 0) [] [] w.start k)) (to_trans t (to_trans u (reaches k))))
  handed_by pc ix slots marks count b n m next t (way {h = h} r over k p fits u more) =
      let c : Config = here w b h.place r marks (over ++ []) k in
      next_way c (over ++ []) refl (leads next (Goes c) (to_trans t u))
      (record {
        at_exit = refl;
        branches = refl;
        marks = refl;
        start = refl;
        stands = stands_there h b h.place r marks (over ++ []) k refl p.stands;
        keeps = p.keeps;
      })
      (λ d e.
      handed_by pc ix slots marks count b n m (fail_to w.task ((over ++ []) ++ w.base) d) (failed w (over ++ []) d e)
      (more (tally_of d)))
