-- Instances are exactly where no side condition fails, and have one right side.
use Rattle.std.proofs.Common.{◌≡◌, ℕ, zero, suc, ◌+◌, Bool, true, false, ◌&&◌, List, [], ◌∷◌, Option, None, refl, sym, ap, ◌∙◌}
use Rattle.std.proofs.lemmas.Bool.{and_parts, and_from, le-leb, leb-true}
use Rattle.std.specs.Prelude.{not, ◌↔◌, is_some, nat_eq, nat_le, if◌then◌else◌}
use Rattle.std.specs.Cmp.{unsigned_Decides}
use Rattle.ipdl_laws.proofs.Sets.{by_test, if-true, if-false}
use Rattle.ipdl_rules_r.proofs.TableLaws.{not_false, table_passes, passing_is_table}
use Rattle.ipdl_rules_r.specs.Instances.{IsReactionInstance}
use Rattle.ipdl_rules_r.specs.Tables.{table_on}
use Rattle.ipdl_rules_r.specs.Matching.{all_different_in, Matched, Answer, other_shape, gives, after_sides, answer_of, answer}
use Rattle.ipdl_term.specs.Interpretations.{Signature}
use Rattle.ipdl_term.specs.Rewriting.{lowered_reaction}
use Rattle.ipdl_term.specs.Rules.{Rule}
use Rattle.ipdl_term.specs.Rules as R
use Rattle.ipdl_term.specs.Same.{same_reaction, same_reaction-Decides}
use Rattle.ipdl_term.specs.Terms.{literal, variable, Reaction, returning, flipping, branching, binding}
use Rattle.ipdl_term.specs.Variables.{expression_uses, reaction_uses, has_flip, has_read}

-- ---- answers

-- the right side of an answer that has one
abbrev right_or : Reaction → Answer → Reaction
right_or r (gives q) = q
right_or r _ = r

gives_injective : (r q : Reaction) → gives r ≡ gives q → r ≡ q
gives_injective r q e = ap (right_or r) e

-- all side conditions hold
abbrev AllHold : List Bool → Type 0
AllHold [] = Unit {0}
AllHold (side ∷ sides) = (side ≡ true) × AllHold sides

-- where they hold, the answer is the right side
answer_after : (number : ℕ) (sides : List Bool) (q right : Reaction) → AllHold sides → right ≡ q → after_sides number sides q ≡ gives right
answer_after number [] q right hold e = ap gives (sym e)
answer_after number (true ∷ sides) q right hold e = answer_after (suc number) sides q right hold.1 e
answer_after number (false ∷ sides) q right hold e = cc

-- and where it is, they hold
hold_before : (number : ℕ) (sides : List Bool) (q right : Reaction) → after_sides number sides q ≡ gives right → AllHold sides × (right ≡ q)
hold_before number [] q right e = (tt, gives_injective right q (sym e))
hold_before number (true ∷ sides) q right e = let rest = hold_before (suc number) sides q right e in ((refl, rest.0), rest.1)
hold_before number (false ∷ sides) q right e = cc

-- a shape with one number at two places
answer_if_same : (v w : ℕ) (m : Option Matched) (a : Answer) → v ≡ w → answer_of m ≡ a → answer_of (if nat_eq v w then m else None) ≡ a
answer_if_same v w m a e h = ap answer_of (if-true (nat_eq v w) m None ((unsigned_Decides v w).1 e)) ∙ h

same_if_answered : (v w : ℕ) (m : Option Matched) (right : Reaction) → answer_of (if nat_eq v w then m else None) ≡ gives right → (v ≡ w) × (answer_of m ≡ gives right)
same_if_answered v w m right h = by_test (nat_eq v w)
    (λ e. ((unsigned_Decides v w).0 e, sym (ap answer_of (if-true (nat_eq v w) m None e)) ∙ h))
    (λ e. let none : other_shape ≡ gives right = sym (ap answer_of (if-false (nat_eq v w) m None e)) ∙ h in cc)

-- ---- instances

-- an instance has its right side as the answer
pub instance_answers : (sig : Signature) (rule : Rule) (left right : Reaction) → IsReactionInstance sig rule left right → answer sig rule left ≡ gives right
instance_answers sig R.beta (binding w (returning e) s) right h = ap gives (sym h)
instance_answers sig R.eta (binding w r (returning (variable zero))) right h = ap gives (sym h)
instance_answers sig R.assoc (binding w (binding v r s) t) right h = ap gives (sym h)
instance_answers sig R.swap (binding v r (binding w s t)) right h = answer_after 1 (not (reaction_uses s 0) ∷ []) _ right (ap not h.0, tt) h.1
instance_answers sig R.dropr (binding w r s) right h = answer_after 1 (not (reaction_uses s 0) ∷ not (has_read r) ∷ []) _ right (ap not h.0, (ap not h.1, tt)) h.2
instance_answers sig R.again (binding v r (binding w q t)) right h =
    answer_after 1 (not (reaction_uses q 0) ∷ (nat_eq v w && same_reaction (lowered_reaction q) r) ∷ not (has_flip r) ∷ []) _ right (ap not h.0, (and_from (nat_eq v w) (same_reaction (lowered_reaction q) r) ((unsigned_Decides v w).1 h.1.0) ((same_reaction-Decides (lowered_reaction q) r).1 h.1.1), (ap not h.2, tt))) h.3
instance_answers sig R.iftrue (branching (literal (true ∷ [])) r s) right h = ap gives (sym h)
instance_answers sig R.iffalse (branching (literal (false ∷ [])) r s) right h = ap gives (sym h)
instance_answers sig R.ifsame (branching e r s) right h = answer_after 1 (same_reaction r s ∷ []) _ right ((same_reaction-Decides r s).1 h.0, tt) h.1
instance_answers sig R.ifbind (binding w (branching e r s) t) right h = ap gives (sym h)
instance_answers sig (R.mask e) (binding w (flipping v) s) right h =
    answer_if_same w v _ (gives right) h.0 (answer_after 1 (not (expression_uses e 0) ∷ []) _ right (ap not h.1, tt) h.2)
instance_answers sig (R.perm f) (binding w (flipping v) s) right h =
    let both = table_passes sig f w h.1 in
    answer_if_same w v _ (gives right) h.0 (answer_after 1 (is_some (table_on sig f w) ∷ all_different_in (table_on sig f w) ∷ []) _ right (both.0, (both.1, tt)) h.2)
instance_answers sig R.join (binding v (flipping n) (binding w (flipping m) s)) right h =
    let few : nat_le (v + w) 128 ≡ true = le-leb (v + w) 128 h.2 in
    answer_if_same v n _ (gives right) h.0 (answer_if_same w m _ (gives right) h.1 (answer_after 1 (nat_le (v + w) 128 ∷ []) _ right (few, tt) h.3))
instance_answers sig R.flip0 (flipping zero) right h = ap gives (sym h)
instance_answers _ _ _ _ h = absurd h

-- what is answered as a right side makes an instance
pub answer_is_instance : (sig : Signature) (rule : Rule) (left right : Reaction) → answer sig rule left ≡ gives right → IsReactionInstance sig rule left right
answer_is_instance sig R.beta (binding w (returning e) s) right h = gives_injective _ _ (sym h)
answer_is_instance sig R.eta (binding w r (returning (variable zero))) right h = gives_injective _ _ (sym h)
answer_is_instance sig R.assoc (binding w (binding v r s) t) right h = gives_injective _ _ (sym h)
answer_is_instance sig R.swap (binding v r (binding w s t)) right h =
    let o = hold_before 1 (not (reaction_uses s 0) ∷ []) _ right h in (not_false (reaction_uses s 0) o.0.0, o.1)
answer_is_instance sig R.dropr (binding w r s) right h =
    let o = hold_before 1 (not (reaction_uses s 0) ∷ not (has_read r) ∷ []) _ right h in (not_false (reaction_uses s 0) o.0.0, not_false (has_read r) o.0.1.0, o.1)
answer_is_instance sig R.again (binding v r (binding w q t)) right h =
    let o = hold_before 1 (not (reaction_uses q 0) ∷ (nat_eq v w && same_reaction (lowered_reaction q) r) ∷ not (has_flip r) ∷ []) _ right h in
    let both = and_parts (nat_eq v w) (same_reaction (lowered_reaction q) r) o.0.1.0 in
    (not_false (reaction_uses q 0) o.0.0, ((unsigned_Decides v w).0 both.0, (same_reaction-Decides (lowered_reaction q) r).0 both.1), not_false (has_flip r) o.0.1.1.0, o.1)
answer_is_instance sig R.iftrue (branching (literal (true ∷ [])) r s) right h = gives_injective _ _ (sym h)
answer_is_instance sig R.iffalse (branching (literal (false ∷ [])) r s) right h = gives_injective _ _ (sym h)
answer_is_instance sig R.ifsame (branching e r s) right h =
    let o = hold_before 1 (same_reaction r s ∷ []) _ right h in ((same_reaction-Decides r s).0 o.0.0, o.1)
answer_is_instance sig R.ifbind (binding w (branching e r s) t) right h = gives_injective _ _ (sym h)
answer_is_instance sig (R.mask e) (binding w (flipping v) s) right h =
    let same = same_if_answered w v _ right h in
    let o = hold_before 1 (not (expression_uses e 0) ∷ []) _ right same.1 in
    (same.0, not_false (expression_uses e 0) o.0.0, o.1)
answer_is_instance sig (R.perm f) (binding w (flipping v) s) right h =
    let same = same_if_answered w v _ right h in
    let o = hold_before 1 (is_some (table_on sig f w) ∷ all_different_in (table_on sig f w) ∷ []) _ right same.1 in
    (same.0, passing_is_table sig f w o.0.1.0, o.1)
answer_is_instance sig R.join (binding v (flipping n) (binding w (flipping m) s)) right h =
    let first = same_if_answered v n _ right h in
    let second = same_if_answered w m _ right first.1 in
    let o = hold_before 1 (nat_le (v + w) 128 ∷ []) _ right second.1 in
    (first.0, second.0, leb-true (v + w) 128 o.0.0, o.1)
answer_is_instance sig R.flip0 (flipping zero) right h = gives_injective _ _ (sym h)
answer_is_instance _ _ _ _ h = cc

pub instance_exactly : (sig : Signature) (rule : Rule) (left right : Reaction) → IsReactionInstance sig rule left right ↔ (answer sig rule left ≡ gives right)
instance_exactly sig rule left right = (instance_answers sig rule left right, answer_is_instance sig rule left right)

-- two right sides of one left side are one answer
pub one_right_side : (sig : Signature) (rule : Rule) (left one other : Reaction) → IsReactionInstance sig rule left one → IsReactionInstance sig rule left other → one ≡ other
one_right_side sig rule left one other h k = gives_injective one other (sym (instance_answers sig rule left one h) ∙ instance_answers sig rule left other k)
