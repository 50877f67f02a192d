-- One protocol comes from another by steps that keep its meaning: wherever the first is typed, the two are equal. So steps
-- follow one another with nothing said of types in between.
use Rattle.std.proofs.Common.{◌≡◌, ℕ, true, false, List, [], ◌∷◌, Some, refl, subst}
use Rattle.ipdl_laws.proofs.EqualLaws.{equal_refl, equal_trans}
use Rattle.ipdl_laws.proofs.PlaceLaws.{equal_at_place}
use Rattle.ipdl_laws.proofs.Sets.{not_both}
use Rattle.ipdl_laws.proofs.TypedParts.{typed_part}
use Rattle.ipdl_norm.proofs.StructureLaws.{comm_is_equal, assocl_is_equal, assocr_is_equal, unit_is_equal, newswap_is_equal, scope_is_equal}
use Rattle.ipdl_term.proofs.ChannelSets.{same_channel-itself}
use Rattle.ipdl_term.specs.Channels.{same_channel, has, outputs, free_channels}
use Rattle.ipdl_term.specs.Equality.{Equal}
use Rattle.ipdl_term.specs.Interpretations.{Signature}
use Rattle.ipdl_term.specs.Places.{term_at, term_with}
use Rattle.ipdl_term.specs.Surroundings.{around, outermost}
use Rattle.ipdl_term.specs.Terms.{Channel, Protocol, nil, parallel, hiding, protocol_term}
use Rattle.ipdl_term.specs.Typing.{Scope, IsTyped, Typed}

module _ (sig : Signature) where
  abbrev pub Becomes : Protocol → Protocol → Type 0
  Becomes p q = (scope : Scope) (written : List Channel) → Typed sig scope p written → Equal sig scope written p q

  pub stays : (p : Protocol) → Becomes p p
  stays p scope written t = equal_refl sig scope written p t

  pub in_turn : (p q r : Protocol) → Becomes p q → Becomes q r → Becomes p r
  in_turn p q r h k scope written t = let e = h scope written t in equal_trans sig scope written p q r e (k scope written e.right)

  own_outputs : (scope : Scope) (p : Protocol) → IsTyped sig scope p → Typed sig scope p (outputs p)
  own_outputs scope p t = record { typed = t; writes = λ c. refl }

  -- ---- within a whole

  pub becomes_at_place : (p q : Protocol) → Becomes p q → (scope : Scope) (written : List Channel) (whole other : Protocol) (place : List ℕ) → Typed sig scope whole written →
      term_at (protocol_term whole) place ≡ Some (protocol_term p) → term_with (protocol_term whole) place (protocol_term q) ≡ protocol_term other → Equal sig scope written whole other
  becomes_at_place p q h scope written whole other place t at with =
      let inner = (around (outermost scope) (protocol_term whole) place).scope in
      let typed = (typed_part sig (outermost scope) (protocol_term whole) t.typed tt place (protocol_term p) at).0 in
      equal_at_place sig scope written inner (outputs p) whole other place p q t at with (λ c w is. is) (h inner (outputs p) (own_outputs inner p typed))

  pub under_hiding : (c : Channel) (w : ℕ) (p q : Protocol) → Becomes p q → Becomes (hiding c w p) (hiding c w q)
  under_hiding c w p q h scope written t = becomes_at_place p q h scope written (hiding c w p) (hiding c w q) (0 ∷ []) t refl refl

  pub beside_left : (p q r : Protocol) → Becomes p q → Becomes (parallel p r) (parallel q r)
  beside_left p q r h scope written t = becomes_at_place p q h scope written (parallel p r) (parallel q r) (0 ∷ []) t refl refl

  pub beside_right : (p q r : Protocol) → Becomes p q → Becomes (parallel r p) (parallel r q)
  beside_right p q r h scope written t = becomes_at_place p q h scope written (parallel r p) (parallel r q) (1 ∷ []) t refl refl

  -- ---- single steps

  pub comm : (p q : Protocol) → Becomes (parallel p q) (parallel q p)
  comm p q scope written t = comm_is_equal sig scope written p q t

  pub assocl : (p q r : Protocol) → Becomes (parallel p (parallel q r)) (parallel (parallel p q) r)
  assocl p q r scope written t = assocl_is_equal sig scope written p q r t

  pub assocr : (p q r : Protocol) → Becomes (parallel (parallel p q) r) (parallel p (parallel q r))
  assocr p q r scope written t = assocr_is_equal sig scope written p q r t

  pub unit : (p : Protocol) → Becomes (parallel p nil) p
  unit p scope written t = unit_is_equal sig scope written p t

  pub widened : (p q : Protocol) (c : Channel) (w : ℕ) → has (free_channels p) c ≡ false → Becomes (parallel p (hiding c w q)) (hiding c w (parallel p q))
  widened p q c w apart scope written t = scope_is_equal sig scope written p q c w apart t

  pub newswap : (c d : Channel) (w v : ℕ) (p : Protocol) → same_channel c d ≡ false → Becomes (hiding c w (hiding d v p)) (hiding d v (hiding c w p))
  newswap c d w v p apart scope written t =
      newswap_is_equal sig scope written c d w v p (λ e. not_both (same_channel c d) (subst (λ x. same_channel c x ≡ true) e (same_channel-itself c)) apart) t
