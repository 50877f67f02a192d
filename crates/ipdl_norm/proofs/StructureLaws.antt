-- The two sides of a rule at a protocol are equal.
use Rattle.std.proofs.Common.{◌≡◌, ◌≢◌, ℕ, false, List}
use Rattle.ipdl_term.specs.Channels.{same_channel, has, union, outputs, free_channels}
use Rattle.ipdl_term.specs.Equality.{Equal}
use Rattle.ipdl_term.specs.Interpretations.{Signature}
use Rattle.ipdl_term.specs.Terms.{Channel, Protocol, nil, parallel, hiding}
use Rattle.ipdl_term.specs.Typing.{Scope, Typed}
use Rattle.ipdl_laws.proofs.Congruence.{alike_comm}
use Rattle.ipdl_norm.proofs.Grouping.{alike_assocr, alike_assocl, alike_scope}
use Rattle.ipdl_norm.proofs.StructureTyping.{Typed-comm, Typed-assocl, Typed-assocr, Typed-unit, Typed-newswap, Typed-scope}
use Rattle.ipdl_laws.proofs.Sets.{same_channel-different, AreDisjoint_swap, AreDisjoint-union}
use Rattle.ipdl_laws.proofs.Soundness.{alike_is_equal}
use Rattle.ipdl_laws.proofs.Structure.{alike_unit, alike_newswap}

-- channels that differ are told apart
pub different : (c d : Channel) → c ≢ d → same_channel c d ≡ false
different = same_channel-different

module _ (sig : Signature) (scope : Scope) (written : List Channel) where
  -- two parts in the other order
  pub comm_is_equal : (p q : Protocol) → Typed sig scope (parallel p q) written → Equal sig scope written (parallel p q) (parallel q p)
  comm_is_equal p q t = alike_is_equal sig scope written (parallel p q) (parallel q p) t (Typed-comm sig scope written p q t) (λ J i. alike_comm J scope p q t.typed.2)

  -- the first two parts grouped
  pub assocl_is_equal : (p q r : Protocol) → Typed sig scope (parallel p (parallel q r)) written → Equal sig scope written (parallel p (parallel q r)) (parallel (parallel p q) r)
  assocl_is_equal p q r t =
      let apart = AreDisjoint-union (outputs q) (outputs r) (outputs p) (AreDisjoint_swap (outputs p) (union (outputs q) (outputs r)) t.typed.2) in
      alike_is_equal sig scope written (parallel p (parallel q r)) (parallel (parallel p q) r) t (Typed-assocl sig scope written p q r t)
      (λ J i. alike_assocl J scope p q r (AreDisjoint_swap (outputs q) (outputs p) apart.0) (AreDisjoint_swap (outputs r) (outputs p) apart.1) t.typed.1.2)

  -- the last two parts grouped
  pub assocr_is_equal : (p q r : Protocol) → Typed sig scope (parallel (parallel p q) r) written → Equal sig scope written (parallel (parallel p q) r) (parallel p (parallel q r))
  assocr_is_equal p q r t =
      let apart = AreDisjoint-union (outputs p) (outputs q) (outputs r) t.typed.2 in
      alike_is_equal sig scope written (parallel (parallel p q) r) (parallel p (parallel q r)) t (Typed-assocr sig scope written p q r t)
      (λ J i. alike_assocr J scope p q r t.typed.0.2 apart.0 apart.1)

  -- nothing beside a part
  pub unit_is_equal : (p : Protocol) → Typed sig scope (parallel p nil) written → Equal sig scope written (parallel p nil) p
  unit_is_equal p t = alike_is_equal sig scope written (parallel p nil) p t (Typed-unit sig scope written p t) (λ J i. alike_unit J scope p)

  -- two different hidden channels in the other order
  pub newswap_is_equal : (c d : Channel) (w v : ℕ) (p : Protocol) → c ≢ d → Typed sig scope (hiding c w (hiding d v p)) written → Equal sig scope written (hiding c w (hiding d v p)) (hiding d v (hiding c w p))
  newswap_is_equal c d w v p differ t =
      alike_is_equal sig scope written (hiding c w (hiding d v p)) (hiding d v (hiding c w p)) t (Typed-newswap sig scope written c d w v p (different c d differ) t) (λ J i. alike_newswap J scope c d w v p)

  -- a hidden channel around both parts, where the first does not name it
  pub scope_is_equal : (p q : Protocol) (c : Channel) (w : ℕ) → has (free_channels p) c ≡ false → Typed sig scope (parallel p (hiding c w q)) written → Equal sig scope written (parallel p (hiding c w q)) (hiding c w (parallel p q))
  scope_is_equal p q c w unnamed t =
      alike_is_equal sig scope written (parallel p (hiding c w q)) (hiding c w (parallel p q)) t (Typed-scope sig scope written p q c w unnamed t) (λ J i. alike_scope J scope p q c w unnamed)
