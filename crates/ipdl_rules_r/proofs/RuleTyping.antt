-- The right side of a rule is typed where the left one is.
use Rattle.std.proofs.Common.{◌≡◌, ℕ, zero, true, false, List, [], ◌∷◌, Some, refl, sym, subst}
use Rattle.ipdl_laws.proofs.RewrittenTyping.{GivesWidth-put, GivesWidth-lifted, GivesWidth-lowered, GivesWidth-exchanged, GivesWidth-replaced, GivesWidth-joined}
use Rattle.ipdl_rules_r.specs.Instances.{IsReactionInstance, ArgumentFits}
use Rattle.ipdl_term.specs.Interpretations.{Signature}
use Rattle.ipdl_term.specs.Rules.{Rule}
use Rattle.ipdl_term.specs.Rules as R
use Rattle.ipdl_term.specs.Terms.{literal, variable, application, exclusive, Reaction, returning, flipping, branching, binding}
use Rattle.ipdl_term.specs.Typing.{Scope, HasWidth, GivesWidth}

module _ (sig : Signature) (scope : Scope) (widths : List ℕ) where
  pub instance_is_typed : (rule : Rule) (left right : Reaction) (w : ℕ) → IsReactionInstance sig rule left right → ArgumentFits sig widths rule left → GivesWidth sig scope widths left w → GivesWidth sig scope widths right w
  instance_is_typed R.beta (binding v (returning e) s) right w h fits t = rw h (GivesWidth-put sig scope widths e v s w t.0 t.1)
  instance_is_typed R.eta (binding v r (returning (variable zero))) right w h fits t =
      let first : Some v ≡ Some w = t.1 in
      let same : v ≡ w = cc in
      rw h (subst (GivesWidth sig scope widths r) same t.0)
  instance_is_typed R.assoc (binding u (binding v r s) x) right w h fits t =
      rw h (t.0.0, (t.0.1, GivesWidth-lifted sig scope (u ∷ []) (v ∷ []) widths x w t.1))
  instance_is_typed R.swap (binding v r (binding u s x)) right w h fits t =
      rw h.1 (GivesWidth-lowered sig scope widths v s u h.0 t.1.0, (GivesWidth-lifted sig scope [] (u ∷ []) widths r v t.0, GivesWidth-exchanged sig scope widths u v x w t.1.1))
  instance_is_typed R.dropr (binding v r s) right w h fits t = rw h.2 (GivesWidth-lowered sig scope widths v s w h.0 t.1)
  instance_is_typed R.again (binding v r (binding u q x)) right w h fits t =
      rw h.3 (t.0, GivesWidth-put sig scope (v ∷ widths) (variable 0) v x w refl (subst (λ n. GivesWidth sig scope (n ∷ v ∷ widths) x w) (sym h.1.0) t.1.1))
  instance_is_typed R.iftrue (branching (literal (true ∷ [])) r s) right w h fits t = rw h t.1
  instance_is_typed R.iffalse (branching (literal (false ∷ [])) r s) right w h fits t = rw h t.2
  instance_is_typed R.ifsame (branching e r s) right w h fits t = rw h.1 t.1
  instance_is_typed R.ifbind (binding v (branching e r s) x) right w h fits t = rw h (t.0.0, (t.0.1, t.1), (t.0.2, t.1))
  instance_is_typed (R.mask e) (binding v (flipping u) s) right w h fits t =
      let flip : GivesWidth sig scope widths (flipping v) v = (refl, t.0.1) in
      rw h.2 (flip, GivesWidth-replaced sig scope widths v (exclusive (variable 0) e) s w (refl, fits) t.1)
  instance_is_typed (R.perm f) (binding v (flipping u) s) right w h fits t =
      let flip : GivesWidth sig scope widths (flipping v) v = (refl, t.0.1) in
      let mapped : HasWidth sig (v ∷ widths) (application f (variable 0)) v = (_, h.1.1, refl, refl) in
      rw h.2 (flip, GivesWidth-replaced sig scope widths v (application f (variable 0)) s w mapped t.1)
  instance_is_typed R.join (binding v (flipping n) (binding u (flipping m) s)) right w h fits t =
      rw h.3 ((refl, h.2), GivesWidth-joined sig scope widths v u s w t.1.1)
  instance_is_typed R.flip0 (flipping zero) right w h fits t = rw h t.0
  instance_is_typed _ _ _ _ h fits t = absurd h
