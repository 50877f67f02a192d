-- The two sides of a rule mean the same wherever both are typed, and in the place of one another in a protocol.
use Rattle.std.proofs.Common.{◌≡◌, ℕ, zero, true, false, List, [], ◌∷◌, Some, subst}
use Rattle.ipdl_laws.proofs.Replacing.{equal_with_typed_part}
use Rattle.ipdl_laws.specs.MeanSame.{MeanSame}
use Rattle.ipdl_rules_r.proofs.Flips.{join_is_as_likely}
use Rattle.ipdl_rules_r.proofs.Masking.{mask_is_as_likely}
use Rattle.ipdl_rules_r.proofs.Permuting.{perm_is_as_likely}
use Rattle.ipdl_laws.proofs.PlacedReactions.{typed_with_reaction}
use Rattle.ipdl_rules_r.proofs.RuleTyping.{instance_is_typed}
use Rattle.ipdl_rules_r.proofs.SameOutcomes.{same_is_as_likely, beta_is_the_same, eta_is_the_same, assoc_is_the_same, again_is_the_same, iftrue_is_the_same, iffalse_is_the_same, ifsame_is_the_same, ifbind_is_the_same, flip0_is_the_same}
use Rattle.ipdl_rules_r.proofs.TableLaws.{whole_table}
use Rattle.ipdl_rules_r.proofs.TwoParts.{dropr_is_as_likely, swap_is_as_likely}
use Rattle.ipdl_rules_r.specs.Instances.{IsReactionInstance, ArgumentFits}
use Rattle.ipdl_rules_r.specs.SameTotals.{HaveSameTotals}
use Rattle.ipdl_rules_r.specs.Tables.{TablesAreWhole}
use Rattle.ipdl_term.specs.Equality.{Equal}
use Rattle.ipdl_term.specs.Interpretations.{Signature, Interpretation, Interprets}
use Rattle.ipdl_term.specs.Places.{term_at, term_with}
use Rattle.ipdl_term.specs.Rules.{Rule}
use Rattle.ipdl_term.specs.Rules as R
use Rattle.ipdl_term.specs.Surroundings.{Surroundings, FitWidths, outermost, around, IsTypedAt}
use Rattle.ipdl_term.specs.Terms.{Value, Channel, literal, variable, Reaction, returning, flipping, branching, binding, Protocol, protocol_term, reaction_term}
use Rattle.ipdl_term.specs.Typing.{Scope, GivesWidth, Typed}
use Rattle.ipdl_term.specs.Valuations.{Valuation}

module _ (sig : Signature) (whole : TablesAreWhole sig) (J : Interpretation) (interprets : Interprets sig J) (scope : Scope) (widths : List ℕ) (env : List Value) (fits : FitWidths widths env) (inputs : Valuation) where
  -- the two sides have the same totals
  pub instance_is_as_likely : (rule : Rule) (left right : Reaction) (w : ℕ) → IsReactionInstance sig rule left right → GivesWidth sig scope widths right w → HaveSameTotals J env inputs left right
  instance_is_as_likely R.beta (binding v (returning e) s) right w h t = same_is_as_likely J env inputs (binding v (returning e) s) right (rw h (beta_is_the_same J env inputs v e s))
  instance_is_as_likely R.eta (binding v r (returning (variable zero))) right w h t = same_is_as_likely J env inputs (binding v r (returning (variable zero))) right (rw h (eta_is_the_same J env inputs v r))
  instance_is_as_likely R.assoc (binding u (binding v r s) x) right w h t = same_is_as_likely J env inputs (binding u (binding v r s) x) right (rw h (assoc_is_the_same J env inputs v u r s x))
  instance_is_as_likely R.swap (binding v r (binding u s x)) right w h t = rw h.1 (swap_is_as_likely J env inputs v u r s x h.0)
  instance_is_as_likely R.dropr (binding v r s) right w h t = rw h.2 (dropr_is_as_likely J env inputs v r s h.0 h.1)
  instance_is_as_likely R.again (binding v r (binding u q x)) right w h t = same_is_as_likely J env inputs (binding v r (binding u q x)) right (rw h.3 (again_is_the_same J env inputs v u r q x h.0 h.1.1 h.2))
  instance_is_as_likely R.iftrue (branching (literal (true ∷ [])) r s) right w h t = same_is_as_likely J env inputs (branching (literal (true ∷ [])) r s) right (rw h (iftrue_is_the_same J env inputs r s))
  instance_is_as_likely R.iffalse (branching (literal (false ∷ [])) r s) right w h t = same_is_as_likely J env inputs (branching (literal (false ∷ [])) r s) right (rw h (iffalse_is_the_same J env inputs r s))
  instance_is_as_likely R.ifsame (branching e r s) right w h t = same_is_as_likely J env inputs (branching e r s) right (rw (h.1, ← h.0) (ifsame_is_the_same J env inputs e r))
  instance_is_as_likely R.ifbind (binding v (branching e r s) x) right w h t = same_is_as_likely J env inputs (binding v (branching e r s) x) right (rw h (ifbind_is_the_same J env inputs v e r s x))
  instance_is_as_likely (R.mask e) (binding v (flipping u) s) right w h t =
      rw (h.2, ← h.0) (mask_is_as_likely sig J interprets scope widths env inputs fits v s e w h.1 (subst (λ x. GivesWidth sig scope widths x w) h.2 t))
  instance_is_as_likely (R.perm f) (binding v (flipping u) s) right w h t =
      rw (h.2, ← h.0) (perm_is_as_likely sig J interprets f v h.1.0 h.1.1 (whole_table sig f v h.1.0 whole h.1.1) h.1.2 env inputs s)
  instance_is_as_likely R.join (binding v (flipping n) (binding u (flipping m) s)) right w h t =
      rw (h.3, ← h.0, ← h.1) (join_is_as_likely J env inputs v u s)
  instance_is_as_likely R.flip0 (flipping zero) right w h t = same_is_as_likely J env inputs (flipping zero) right (rw h (flip0_is_the_same J env inputs))
  instance_is_as_likely _ _ _ _ h t = absurd h

module _ (sig : Signature) (whole : TablesAreWhole sig) where
  -- and so they mean the same in surroundings in which the right one is typed
  pub instance_means : (J : Interpretation) → Interprets sig J → (s : Surroundings) (rule : Rule) (left right : Reaction) → IsReactionInstance sig rule left right → IsTypedAt sig s (reaction_term right) →
      MeanSame J s (reaction_term left) (reaction_term right)
  instance_means J interprets s rule left right h typed = λ env fits meets inputs fitting.
      instance_is_as_likely sig whole J interprets s.scope s.widths env fits inputs rule left right typed.0 h typed.1

  -- a left side replaced by the right one, where both wholes are typed
  pub typed_instance_at_place : (scope : Scope) (written : List Channel) (p q : Protocol) (place : List ℕ) (rule : Rule) (left right : Reaction) → Typed sig scope p written → Typed sig scope q written →
      term_at (protocol_term p) place ≡ Some (reaction_term left) → term_with (protocol_term p) place (reaction_term right) ≡ protocol_term q →
      IsReactionInstance sig rule left right → Equal sig scope written p q
  typed_instance_at_place scope written p q place rule left right typed typed' at with instance =
      equal_with_typed_part sig scope written p q place (reaction_term left) (reaction_term right) typed typed' at tt with
      (λ old new tests J interprets. instance_means J interprets (around (outermost scope) (protocol_term p) place) rule left right instance new)

  -- and where the argument of the rule fits there
  pub instance_at_place : (scope : Scope) (written : List Channel) (p q : Protocol) (place : List ℕ) (rule : Rule) (left right : Reaction) → Typed sig scope p written →
      term_at (protocol_term p) place ≡ Some (reaction_term left) → term_with (protocol_term p) place (reaction_term right) ≡ protocol_term q →
      IsReactionInstance sig rule left right → ArgumentFits sig (around (outermost scope) (protocol_term p) place).widths rule left → Equal sig scope written p q
  instance_at_place scope written p q place rule left right typed at with instance fits =
      let s = around (outermost scope) (protocol_term p) place in
      let typed' : Typed sig scope q written = typed_with_reaction sig scope written p q place left right typed at with (λ w t. instance_is_typed sig s.scope s.widths rule left right w instance fits t) in
      typed_instance_at_place scope written p q place rule left right typed typed' at with instance
