-- What holds of a position if it holds of all lower ones holds of each.
use Rattle.std.proofs.Common.{◌<◌, ℕ, zero, suc, ◌+◌, arith, ⊎_elim}
use Rattle.fancy_nfa_laws.specs.NfaSearch.{NfaConfig}
use Rattle.fancy_nfa_laws.proofs.Positions.{Ground, Position, IsLower, end}

module _ (w : Ground) (P : (s : NfaConfig) → Position w s → Type 0)
    (by_lower : (s : NfaConfig) (p : Position w s) → ((t : NfaConfig) (r : Position w t) → IsLower w r p → P t r) → P s p) where
  abbrev rank_at : {s : NfaConfig} → Position w s → ℕ
  rank_at p = w.rank p.tasks (p.state).place

  -- where it holds of what is further on
  at_rank : (left : ℕ) → ((s : NfaConfig) (p : Position w s) → end w < (p.state).place + left → P s p) →
      (bound : ℕ) (s : NfaConfig) (p : Position w s) → end w < (p.state).place + suc left → rank_at p < bound → P s p
  at_rank left further zero s p le lt = absurd (omega (arith, lt))
  at_rank left further (suc bound) s p le lt =
      by_lower s p (λ t r lower. ⊎_elim
      (λ on. further t r (omega (arith, on, le)))
      (λ same. at_rank left further bound t r (omega (arith, same.0, le)) (omega (arith, same.1, lt))) lower)

  at_place : (left : ℕ) (s : NfaConfig) (p : Position w s) → end w < (p.state).place + left → P s p
  at_place zero s p le = absurd (omega (arith, le, p.within))
  at_place (suc left) s p le = at_rank left (at_place left) (suc (rank_at p)) s p le (omega arith)

  pub at_each : (s : NfaConfig) (p : Position w s) → P s p
  at_each s p = at_place (suc (end w)) s p (omega arith)
