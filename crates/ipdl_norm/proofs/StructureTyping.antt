-- The right sides of the rules are typed where the left sides are.
use Rattle.std.proofs.Common.{◌≡◌, ℕ, true, false, List, [], refl, sym, ◌∙◌, subst}
use mathlib.Core.Path.{fun_ext}
use Rattle.ipdl_term.specs.Channels.{same_channel, has, union, SameSet, AreDisjoint, outputs, free_channels}
use Rattle.ipdl_term.specs.Interpretations.{Signature}
use Rattle.ipdl_term.specs.Terms.{Channel, Protocol, nil, parallel, hiding}
use Rattle.ipdl_term.specs.Typing.{Scope, scope_with, IsTyped, Typed}
use Rattle.ipdl_norm.proofs.Grouping.{not_written, union-without}
use Rattle.ipdl_laws.proofs.ReadingLaws.{free_channels-outputs}
use Rattle.ipdl_laws.proofs.ScopesAgree.{IsTyped_agree}
use Rattle.ipdl_laws.proofs.Sets.{by_test, if-true, if-false, if_same, not_both, or_comm, same_channel-false_swap, at_same_channel, in_union_right, has-without, union_comm, union_assoc, without_swap, AreDisjoint_swap, AreDisjoint-union, AreDisjoint_union}
use Rattle.ipdl_term.proofs.ChannelSets.{has-union}

module _ (sig : Signature) (scope : Scope) (written : List Channel) where
  -- the same outputs
  writes_same : (p q : Protocol) → SameSet (outputs p) (outputs q) → SameSet (outputs p) written → SameSet (outputs q) written
  writes_same p q same h c = sym (same c) ∙ h c

  -- two parts in the other order
  pub Typed-comm : (p q : Protocol) → Typed sig scope (parallel p q) written → Typed sig scope (parallel q p) written
  Typed-comm p q t = record {
    typed = (t.typed.1, t.typed.0, AreDisjoint_swap (outputs p) (outputs q) t.typed.2);
    writes = writes_same (parallel p q) (parallel q p) (union_comm (outputs p) (outputs q)) t.writes;
  }

  -- the first two parts grouped
  pub Typed-assocl : (p q r : Protocol) → Typed sig scope (parallel p (parallel q r)) written → Typed sig scope (parallel (parallel p q) r) written
  Typed-assocl p q r t =
      let apart = AreDisjoint-union (outputs q) (outputs r) (outputs p) (AreDisjoint_swap (outputs p) (union (outputs q) (outputs r)) t.typed.2) in
      record {
        typed = ((t.typed.0, t.typed.1.0, AreDisjoint_swap (outputs q) (outputs p) apart.0), t.typed.1.1, AreDisjoint_union (outputs p) (outputs q) (outputs r) (AreDisjoint_swap (outputs r) (outputs p) apart.1) t.typed.1.2);
        writes = writes_same (parallel p (parallel q r)) (parallel (parallel p q) r) (λ c. sym (union_assoc (outputs p) (outputs q) (outputs r) c)) t.writes;
      }

  -- the last two parts grouped
  pub Typed-assocr : (p q r : Protocol) → Typed sig scope (parallel (parallel p q) r) written → Typed sig scope (parallel p (parallel q r)) written
  Typed-assocr p q r t =
      let apart = AreDisjoint-union (outputs p) (outputs q) (outputs r) t.typed.2 in
      record {
        typed = (t.typed.0.0, (t.typed.0.1, t.typed.1, apart.1), AreDisjoint_swap (union (outputs q) (outputs r)) (outputs p) (AreDisjoint_union (outputs q) (outputs r) (outputs p) (AreDisjoint_swap (outputs p) (outputs q) t.typed.0.2) (AreDisjoint_swap (outputs p) (outputs r) apart.0)));
        writes = writes_same (parallel (parallel p q) r) (parallel p (parallel q r)) (union_assoc (outputs p) (outputs q) (outputs r)) t.writes;
      }

  -- a part without the nothing beside it
  pub Typed-unit : (p : Protocol) → Typed sig scope (parallel p nil) written → Typed sig scope p written
  Typed-unit p t = record {
    typed = t.typed.0;
    writes = writes_same (parallel p nil) p (λ c. has-union (outputs p) [] c ∙ or_comm (has (outputs p) c) false) t.writes;
  }

  -- two different hidden channels in the other order
  pub Typed-newswap : (c d : Channel) (w v : ℕ) (p : Protocol) → same_channel c d ≡ false → Typed sig scope (hiding c w (hiding d v p)) written → Typed sig scope (hiding d v (hiding c w p)) written
  Typed-newswap c d w v p differ t =
      let same_scope : scope_with d v (scope_with c w scope) ≡ scope_with c w (scope_with d v scope) = fun_ext (λ e. by_test (same_channel d e)
      (λ k. let other : same_channel c e ≡ false = at_same_channel (λ x. same_channel c x ≡ false) d e k differ in
      if-true (same_channel d e) _ _ k ∙ sym (if-false (same_channel c e) _ _ other ∙ if-true (same_channel d e) _ _ k))
      (λ k. if-false (same_channel d e) _ _ k ∙ if_same (same_channel c e) _ _ _ _ (λ l. refl) (λ l. sym (if-false (same_channel d e) _ _ k)))) in
      record {
        typed = (t.typed.1.0, (t.typed.0, subst (λ x. IsTyped sig x p) same_scope t.typed.1.1, sym (has-without d (outputs p) c (same_channel-false_swap c d differ)) ∙ t.typed.2), has-without c (outputs p) d differ ∙ t.typed.1.2);
        writes = writes_same (hiding c w (hiding d v p)) (hiding d v (hiding c w p)) (without_swap c d (outputs p)) t.writes;
      }

  -- a hidden channel around both parts, where the first does not name it
  pub Typed-scope : (p q : Protocol) (c : Channel) (w : ℕ) → has (free_channels p) c ≡ false → Typed sig scope (parallel p (hiding c w q)) written → Typed sig scope (hiding c w (parallel p q)) written
  Typed-scope p q c w unnamed t =
      let other : (d : Channel) → has (free_channels p) d ≡ true → same_channel c d ≡ false = λ d k. by_test (same_channel c d)
      (λ l. not_both (has (free_channels p) d) k (at_same_channel (λ x. has (free_channels p) x ≡ false) c d l unnamed))
      (λ l. l) in
      let apart : AreDisjoint (outputs p) (outputs q) = λ d k. sym (has-without c (outputs q) d (other d (free_channels-outputs p d k))) ∙ t.typed.2 d k in
      record {
        typed = (t.typed.1.0, (IsTyped_agree sig p scope (scope_with c w scope) (λ d k. sym (if-false (same_channel c d) _ _ (other d k))) t.typed.0, t.typed.1.1, apart), in_union_right (outputs p) (outputs q) c t.typed.1.2);
        writes = writes_same (parallel p (hiding c w q)) (hiding c w (parallel p q)) (union-without (outputs p) (outputs q) c (not_written p c unnamed)) t.writes;
      }
