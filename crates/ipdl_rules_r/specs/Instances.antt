-- The rules that rewrite a reaction: what is the right side of which left side. One case a rule, in the words of the table
-- of rules, with what the rule asks of its left side in front. Variables are counted by binders, so in a part that comes to
-- stand under other binders they are lifted, lowered or exchanged.
use Rattle.std.specs.Prelude.{◌≡◌, ℕ, zero, ◌+◌, ◌≤◌, true, false, List, [], ◌∷◌}
use Rattle.ipdl_rules_r.specs.Tables.{IsTableOn, AreDifferent}
use Rattle.ipdl_term.specs.Interpretations.{Signature}
use Rattle.ipdl_term.specs.Rewriting.{lowered_reaction, exchanged_reaction, replaced_reaction, joined_reaction}
use Rattle.ipdl_term.specs.Rules.{Rule}
use Rattle.ipdl_term.specs.Rules as R
use Rattle.ipdl_term.specs.Terms.{Value, literal, variable, application, exclusive, Reaction, returning, flipping, branching, binding}
use Rattle.ipdl_term.specs.Typing.{HasWidth}
use Rattle.ipdl_term.specs.Variables.{expression_uses, reaction_uses, has_flip, has_read, lifted_reaction, put_reaction}

-- the second reaction is what the rule makes of the first
abbrev pub IsReactionInstance : Signature → Rule → Reaction → Reaction → Type 0
IsReactionInstance sig R.beta (binding w (returning e) s) right = right ≡ put_reaction 0 s e
IsReactionInstance sig R.eta (binding w r (returning (variable zero))) right = right ≡ r
IsReactionInstance sig R.assoc (binding w (binding v r s) t) right = right ≡ binding v r (binding w s (lifted_reaction t 1 1))
IsReactionInstance sig R.swap (binding v r (binding w s t)) right =
    (reaction_uses s 0 ≡ false) ×
    (right ≡ binding w (lowered_reaction s) (binding v (lifted_reaction r 0 1) (exchanged_reaction t)))
IsReactionInstance sig R.dropr (binding w r s) right =
    (reaction_uses s 0 ≡ false) × (has_read r ≡ false) × (right ≡ lowered_reaction s)
IsReactionInstance sig R.again (binding v r (binding w q t)) right =
    (reaction_uses q 0 ≡ false) × ((v ≡ w) × (lowered_reaction q ≡ r)) × (has_flip r ≡ false) ×
    (right ≡ binding v r (put_reaction 0 t (variable 0)))
IsReactionInstance sig R.iftrue (branching (literal (true ∷ [])) r s) right = right ≡ r
IsReactionInstance sig R.iffalse (branching (literal (false ∷ [])) r s) right = right ≡ s
IsReactionInstance sig R.ifsame (branching e r s) right = (r ≡ s) × (right ≡ r)
IsReactionInstance sig R.ifbind (binding w (branching e r s) t) right = right ≡ branching e (binding w r t) (binding w s t)
IsReactionInstance sig (R.mask e) (binding w (flipping v) s) right =
    (w ≡ v) × (expression_uses e 0 ≡ false) × (right ≡ binding w (flipping w) (replaced_reaction s (exclusive (variable 0) e)))
IsReactionInstance sig (R.perm f) (binding w (flipping v) s) right =
    (w ≡ v) × ((values : List Value) × IsTableOn sig f w values × AreDifferent values) ×
    (right ≡ binding w (flipping w) (replaced_reaction s (application f (variable 0))))
IsReactionInstance sig R.join (binding v (flipping n) (binding w (flipping m) s)) right =
    (v ≡ n) × (w ≡ m) × (v + w ≤ 128) × (right ≡ binding (v + w) (flipping (v + w)) (joined_reaction v w s))
IsReactionInstance sig R.flip0 (flipping zero) right = right ≡ returning (literal [])
IsReactionInstance _ _ _ _ = ⊥

-- What the argument of a rule must be for the right side to be typed wherever the left one is: the expression of `mask` has
-- the width of the flip. The other rules ask nothing.
abbrev pub ArgumentFits : Signature → (widths : List ℕ) → Rule → Reaction → Type 0
ArgumentFits sig widths (R.mask e) (binding w r s) = HasWidth sig (w ∷ widths) e w
ArgumentFits _ _ _ _ = Unit {0}
