-- The two sides of a rule are typed alike and equal, also at a place.
use Rattle.std.proofs.Common.{◌≡◌, ℕ, List, Some, refl, sym, subst}
use Rattle.ipdl_laws.proofs.PlaceLaws.{equal_at_place}
use Rattle.ipdl_laws.proofs.Replacing.{kept}
use Rattle.ipdl_laws.proofs.TypedParts.{typed_part}
use Rattle.ipdl_rules_p.proofs.CommunicationMeanings.{absorb_is_equal, diverge_is_equal, drop_is_equal, subsume_is_equal, subst_is_equal, fold_is_equal}
use Rattle.ipdl_rules_p.proofs.CommunicationTyping.{Typed-absorb, Typed-diverge, Typed-drop, Typed-subst, Typed-fold}
use Rattle.ipdl_rules_p.proofs.RenameLaws.{rename_is_equal, Typed-rename}
use Rattle.ipdl_rules_p.proofs.RuleLaws.{different, comm_is_equal, assocl_is_equal, assocr_is_equal, unit_is_equal, newswap_is_equal, scope_is_equal}
use Rattle.ipdl_rules_p.proofs.RuleTyping.{Typed-comm, Typed-assocl, Typed-assocr, Typed-unit, Typed-newswap, Typed-scope}
use Rattle.ipdl_rules_p.specs.Instances.{reaction_with, IsProtocolInstance, KeepsTypes}
use Rattle.ipdl_term.specs.Channels.{outputs}
use Rattle.ipdl_term.specs.Equality.{Equal}
use Rattle.ipdl_term.specs.Interpretations.{Signature}
use Rattle.ipdl_term.specs.Places.{term_at, term_with}
use Rattle.ipdl_term.specs.Rewriting.{lowered_reaction}
use Rattle.ipdl_term.specs.Rules.{Rule}
use Rattle.ipdl_term.specs.Rules as R
use Rattle.ipdl_term.specs.Surroundings.{around, outermost}
use Rattle.ipdl_term.specs.Terms.{Channel, reading, binding, Protocol, nil, assignment, parallel, hiding, protocol_term}
use Rattle.ipdl_term.specs.Typing.{Scope, IsTyped, Typed}

module _ (sig : Signature) (scope : Scope) (written : List Channel) where
  -- the right side is typed where the left one is
  pub instance_is_typed : (rule : Rule) (p q : Protocol) → KeepsTypes rule → IsProtocolInstance rule p q → Typed sig scope p written → Typed sig scope q written
  instance_is_typed R.comm (parallel p q) right keeps h t = rw h (Typed-comm sig scope written p q t)
  instance_is_typed R.assocl (parallel p (parallel q r)) right keeps h t = rw h (Typed-assocl sig scope written p q r t)
  instance_is_typed R.assocr (parallel (parallel p q) r) right keeps h t = rw h (Typed-assocr sig scope written p q r t)
  instance_is_typed R.unit (parallel p nil) right keeps h t = rw h (Typed-unit sig scope written p t)
  instance_is_typed R.newswap (hiding c v (hiding d w p)) right keeps h t = rw h.1 (Typed-newswap sig scope written c d v w p (different c d h.0) t)
  instance_is_typed R.scope (parallel p (hiding c w q)) right keeps h t = rw h.1 (Typed-scope sig scope written p q c w h.0 t)
  instance_is_typed (R.rename d) (hiding c w p) right keeps h t = rw h.1 (Typed-rename sig scope written c d w p h.0 t)
  instance_is_typed R.absorb (parallel p q) right keeps h t = rw h.1 (Typed-absorb sig scope written p q h.0 t)
  instance_is_typed (R.fold place) (hiding c w (parallel (assignment o k) (assignment d r))) right keeps h t =
      rw h.becomes (Typed-fold sig scope written o c w r k place h.read_here h.read_once h.unread (subst (λ x. Typed sig scope (hiding c w (parallel (assignment o k) (assignment x r))) written) h.hidden t))
  instance_is_typed (R.subst place) (parallel (assignment a r) (assignment b k)) right keeps h t =
      rw h.becomes (Typed-subst sig scope written a b r k place h.read_here t)
  instance_is_typed R.drop (parallel (assignment a r) (assignment b (binding w (reading e) s))) right keeps h t =
      rw h.becomes (Typed-drop sig scope written a b e w r s h.unused t)
  instance_is_typed R.diverge (assignment a r) right keeps h t = rw h.1 (Typed-diverge sig scope written a r t)
  instance_is_typed (R.subsume c w) _ _ keeps h t = absurd keeps
  instance_is_typed _ _ _ keeps h t = absurd h

  -- and of `subsume` where it is typed at all: the two sides write the same channels
  pub typed_right_side : (rule : Rule) (p q : Protocol) → IsProtocolInstance rule p q → Typed sig scope p written → IsTyped sig scope q → Typed sig scope q written
  typed_right_side (R.subsume c w) (parallel (assignment a r) (assignment b s)) right h t u = record { typed = u; writes = rw h.becomes t.writes }
  typed_right_side (R.subsume c w) _ _ h t u = absurd h
  typed_right_side rule p q h t u = instance_is_typed rule p q tt h t

  -- the two sides are equal where both are typed
  pub instance_means : (rule : Rule) (p q : Protocol) → IsProtocolInstance rule p q → Typed sig scope p written → Typed sig scope q written → Equal sig scope written p q
  instance_means R.comm (parallel p q) right h t u = rw h (comm_is_equal sig scope written p q t)
  instance_means R.assocl (parallel p (parallel q r)) right h t u = rw h (assocl_is_equal sig scope written p q r t)
  instance_means R.assocr (parallel (parallel p q) r) right h t u = rw h (assocr_is_equal sig scope written p q r t)
  instance_means R.unit (parallel p nil) right h t u = rw h (unit_is_equal sig scope written p t)
  instance_means R.newswap (hiding c v (hiding d w p)) right h t u = rw h.1 (newswap_is_equal sig scope written c d v w p h.0 t)
  instance_means R.scope (parallel p (hiding c w q)) right h t u = rw h.1 (scope_is_equal sig scope written p q c w h.0 t)
  instance_means (R.rename d) (hiding c w p) right h t u = rw h.1 (rename_is_equal sig scope written c d w p h.0 t)
  instance_means R.absorb (parallel p q) right h t u = rw h.1 (absorb_is_equal sig scope written p q h.0 t)
  instance_means (R.fold place) (hiding c w (parallel (assignment o k) (assignment d r))) right h t u =
      let Left : Channel → Protocol = λ x. hiding c w (parallel (assignment o k) (assignment x r)) in
      rw h.becomes (subst (λ x. Equal sig scope written (Left x) (assignment o (reaction_with k place r))) (sym h.hidden) (fold_is_equal sig scope written o c w r k place h.read_here h.read_once h.unread (subst (λ x. Typed sig scope (Left x) written) h.hidden t)))
  instance_means (R.subst place) (parallel (assignment a r) (assignment b k)) right h t u =
      rw h.becomes (subst_is_equal sig scope written a b r k place h.read_here h.no_flip t)
  instance_means R.drop (parallel (assignment a r) (assignment b (binding w (reading e) s))) right h t u =
      let Left : Channel → Protocol = λ x. parallel (assignment a r) (assignment b (binding w (reading x) s)) in
      rw h.becomes (subst (λ x. Equal sig scope written (Left x) (parallel (assignment a r) (assignment b (lowered_reaction s)))) (sym h.same) (drop_is_equal sig scope written a b w r s h.unused h.read_anyway (subst (λ x. Typed sig scope (Left x) written) h.same t)))
  instance_means (R.subsume c w) (parallel (assignment a r) (assignment b s)) right h t u =
      rw h.becomes (subsume_is_equal sig scope written a b c w r s h.reads_first h.first_reads t (subst (λ x. Typed sig scope x written) h.becomes u))
  instance_means R.diverge (assignment a r) right h t u = rw h.1 (diverge_is_equal sig scope written a r h.0 t)
  instance_means _ _ _ h t u = absurd h

module _ (sig : Signature) (scope : Scope) (written : List Channel) (p q : Protocol) (place : List ℕ) (rule : Rule) (left right : Protocol) (typed : Typed sig scope p written)
    (at : term_at (protocol_term p) place ≡ Some (protocol_term left)) (with : term_with (protocol_term p) place (protocol_term right) ≡ protocol_term q) where
  -- what is seen at the place
  abbrev there : Scope
  there = (around (outermost scope) (protocol_term p) place).scope

  -- the part is typed at its place
  left_is_typed : Typed sig there left (outputs left)
  left_is_typed = record {
    typed = (typed_part sig (outermost scope) (protocol_term p) typed.typed tt place (protocol_term left) at).0;
    writes = λ c. refl;
  }

  -- so the two sides are equal there where the right one is typed too, and the whole ones around them
  equal_around : IsProtocolInstance rule left right → Typed sig there right (outputs left) → Equal sig scope written p q
  equal_around instance right_is_typed =
      equal_at_place sig scope written there (outputs left) p q place left right typed at with (λ c w h. h) (instance_means sig there (outputs left) rule left right instance left_is_typed right_is_typed)

  -- a rule that keeps types
  pub instance_at_place : KeepsTypes rule → IsProtocolInstance rule left right → Equal sig scope written p q
  instance_at_place keeps instance = equal_around instance (instance_is_typed sig there (outputs left) rule left right keeps instance left_is_typed)

  -- the new part is typed at its place in the other whole
  pub typed_instance_at_place : Typed sig scope q written → IsProtocolInstance rule left right → Equal sig scope written p q
  typed_instance_at_place typed' instance =
      let now = kept (outermost scope) (protocol_term p) place (protocol_term left) (protocol_term right) at tt in
      let at' : term_at (protocol_term q) place ≡ Some (protocol_term right) = subst (λ x. term_at x place ≡ Some (protocol_term right)) with now.1 in
      let same : around (outermost scope) (protocol_term q) place ≡ around (outermost scope) (protocol_term p) place =
      subst (λ x. around (outermost scope) x place ≡ around (outermost scope) (protocol_term p) place) with now.2 in
      let new = (typed_part sig (outermost scope) (protocol_term q) typed'.typed tt place (protocol_term right) at').0 in
      equal_around instance (typed_right_side sig there (outputs left) rule left right instance left_is_typed (subst (λ s. IsTyped sig s.scope right) same new))
