-- Reactions with a hole: the context around a place, what a filled one does, reads and takes, and its type.
use Rattle.std.proofs.Common.{◌≡◌, ℕ, zero, suc, ◌+◌, ◌≤◌, Bool, true, false, ◌||◌, List, [], ◌∷◌, ◌++◌, Option, Some, refl, sym, ap, ◌∙◌, subst, arith}
use Rattle.std.proofs.lemmas.Bool.{or_from}
use Rattle.std.specs.Prelude.{slice_get}
use Rattle.ipdl_laws.proofs.PlacedReactions.{none_in_expression}
use Rattle.ipdl_laws.proofs.Rewritten.{continued_equal}
use Rattle.ipdl_laws.proofs.Sets.{or_assoc}
use Rattle.ipdl_laws.specs.ReactionContexts.{ReactionContext, reaction_hole, in_then, in_else, in_first, in_second, filled, context_reads, outcome_with}
use Rattle.ipdl_term.proofs.ChannelSets.{has-union}
use Rattle.ipdl_term.specs.Channels.{has, union, reads}
use Rattle.ipdl_term.specs.Interpretations.{Interpretation, Signature}
use Rattle.ipdl_term.specs.Places.{reaction_or, term_at, term_with}
use Rattle.ipdl_term.specs.Reactions.{with_tape, reaction_outcome, reaction_coins}
use Rattle.ipdl_term.specs.Terms.{Value, Channel, Expression, literal, variable, outer, application, exclusive, conjunction, negation, concatenation, segment, equality, selection, Reaction, returning, flipping, reading, branching, binding, reaction_term}
use Rattle.ipdl_term.specs.Typing.{Scope, HasWidth, GivesWidth}
use Rattle.ipdl_term.specs.Valuations.{Valuation}

-- ---- places

-- a context that has to do with a place: with what stands there it is the whole, with another one the whole with that one
record IsAroundReaction (k : Reaction) (place : List ℕ) (old : Reaction) (C : ReactionContext) : Type 0 where
  pub whole : k ≡ filled C old
  pub replaced : (new : Reaction) → term_with (reaction_term k) place (reaction_term new) ≡ reaction_term (filled C new)

-- where a reaction stands at a place, there is a context around it
reaction_context_there : (k : Reaction) (place : List ℕ) (old : Reaction) → term_at (reaction_term k) place ≡ Some (reaction_term old) → (C : ReactionContext) × IsAroundReaction k place old C
reaction_context_there k [] old at = (reaction_hole, record { whole = let e : k ≡ old = cc in e; replaced = λ new. refl })
reaction_context_there (returning e) (zero ∷ place) old at = absurd (none_in_expression e place old at)
reaction_context_there (branching e r s) (zero ∷ place) old at = absurd (none_in_expression e place old at)
reaction_context_there (branching e r s) (suc zero ∷ place) old at =
    let C = reaction_context_there r place old at in (
      in_then e C.0 s,
      record { whole = ap (λ x. branching e x s) C.1.whole; replaced = λ new. ap (λ x. reaction_term (branching e (reaction_or r x) s)) (C.1.replaced new) },
    )
reaction_context_there (branching e r s) (suc (suc zero) ∷ place) old at =
    let C = reaction_context_there s place old at in (
      in_else e r C.0,
      record { whole = ap (λ x. branching e r x) C.1.whole; replaced = λ new. ap (λ x. reaction_term (branching e r (reaction_or s x))) (C.1.replaced new) },
    )
reaction_context_there (binding w r s) (zero ∷ place) old at =
    let C = reaction_context_there r place old at in (
      in_first w C.0 s,
      record { whole = ap (λ x. binding w x s) C.1.whole; replaced = λ new. ap (λ x. reaction_term (binding w (reaction_or r x) s)) (C.1.replaced new) },
    )
reaction_context_there (binding w r s) (suc zero ∷ place) old at =
    let C = reaction_context_there s place old at in (
      in_second w r C.0,
      record { whole = ap (λ x. binding w r x) C.1.whole; replaced = λ new. ap (λ x. reaction_term (binding w r (reaction_or s x))) (C.1.replaced new) },
    )
reaction_context_there _ _ old at = cc

-- the same as facts
pub reaction_context_at_place : (k : Reaction) (place : List ℕ) (old : Reaction) → term_at (reaction_term k) place ≡ Some (reaction_term old) →
    (C : ReactionContext) × (k ≡ filled C old) × ((new : Reaction) → reaction_or k (term_with (reaction_term k) place (reaction_term new)) ≡ filled C new)
reaction_context_at_place k place old at =
    let C = reaction_context_there k place old at in (C.0, C.1.whole, λ new. ap (reaction_or k) (C.1.replaced new))

-- ---- what stands in the hole

module _ (J : Interpretation) where
  -- a reaction that does in the hole what a value does there
  pub reaction_outcome-filled : (C : ReactionContext) (x : Reaction) (o : Option Value) (inputs : Valuation) → ((env : List Value) (t : List Bool) → reaction_outcome J x env inputs t ≡ with_tape o t) →
      (env : List Value) (t : List Bool) → reaction_outcome J (filled C x) env inputs t ≡ outcome_with J C o env inputs t
  reaction_outcome-filled reaction_hole x o inputs h env t = h env t
  reaction_outcome-filled (in_then e C s) x o inputs h env t = rw (reaction_outcome-filled C x o inputs h env t)
  reaction_outcome-filled (in_else e r C) x o inputs h env t = rw (reaction_outcome-filled C x o inputs h env t)
  reaction_outcome-filled (in_first w C s) x o inputs h env t = rw (reaction_outcome-filled C x o inputs h env t)
  reaction_outcome-filled (in_second w r C) x o inputs h env t = continued_equal (reaction_outcome J r env inputs t) _ _ (λ v rest. reaction_outcome-filled C x o inputs h (v ∷ env) rest)

-- ---- what is read, and how many bits are taken

-- what is read in a part of two that is on the left, or on the right
read_left : (cs ds es : List Channel) (c : Channel) (e : Bool) → has cs c ≡ (has ds c || e) → has (union cs es) c ≡ (has (union ds es) c || e)
read_left cs ds es c e h = has-union cs es c ∙ ap (λ x. x || has es c) h ∙ moved (has ds c) e (has es c) ∙ ap (λ x. x || e) (sym (has-union ds es c))
  where
    moved : (x y z : Bool) → ((x || y) || z) ≡ ((x || z) || y)
    moved true y z = refl
    moved false true true = refl
    moved false true false = refl
    moved false false true = refl
    moved false false false = refl

read_right : (cs ds es : List Channel) (c : Channel) (e : Bool) → has cs c ≡ (has ds c || e) → has (union es cs) c ≡ (has (union es ds) c || e)
read_right cs ds es c e h = has-union es cs c ∙ ap (λ x. has es c || x) h ∙ or_assoc (has es c) (has ds c) e ∙ ap (λ x. x || e) (sym (has-union es ds c))

-- what is read is read around the hole or in it
pub reads_filled : (C : ReactionContext) (r : Reaction) (c : Channel) → has (reads (filled C r)) c ≡ (has (context_reads C) c || has (reads r) c)
reads_filled reaction_hole r c = refl
reads_filled (in_then e C s) r c = read_left (reads (filled C r)) (context_reads C) (reads s) c (has (reads r) c) (reads_filled C r c)
reads_filled (in_else e s C) r c = read_right (reads (filled C r)) (context_reads C) (reads s) c (has (reads r) c) (reads_filled C r c)
reads_filled (in_first w C s) r c = read_left (reads (filled C r)) (context_reads C) (reads s) c (has (reads r) c) (reads_filled C r c)
reads_filled (in_second w s C) r c = read_right (reads (filled C r)) (context_reads C) (reads s) c (has (reads r) c) (reads_filled C r c)

-- a channel that is read neither around the hole nor in it
pub unread_filled : (C : ReactionContext) (r : Reaction) (c : Channel) → has (context_reads C) c ≡ false → has (reads r) c ≡ false → has (reads (filled C r)) c ≡ false
unread_filled C r c h k = reads_filled C r c ∙ or_from (has (context_reads C) c) (has (reads r) c) h k

-- a reaction in the place of a read adds no more coins than it has
pub coins_filled : (C : ReactionContext) (r : Reaction) (c : Channel) → reaction_coins (filled C r) ≤ reaction_coins (filled C (reading c)) + reaction_coins r
coins_filled reaction_hole r c = omega arith
coins_filled (in_then e C s) r c = omega (arith, coins_filled C r c)
coins_filled (in_else e s C) r c = omega (arith, coins_filled C r c)
coins_filled (in_first w C s) r c = omega (arith, coins_filled C r c)
coins_filled (in_second w s C) r c = omega (arith, coins_filled C r c)

-- ---- types

-- the binders around make no difference to those within
slice_get-append : (widths more : List ℕ) (n w : ℕ) → slice_get widths n ≡ Some w → slice_get (widths ++ more) n ≡ Some w
slice_get-append [] more n w h = cc
slice_get-append (v ∷ widths) more zero w h = h
slice_get-append (v ∷ widths) more (suc n) w h = slice_get-append widths more n w h

module _ (sig : Signature) where
  -- an expression under more binders
  HasWidth_more : (e : Expression) (widths more : List ℕ) (w : ℕ) → HasWidth sig widths e w → HasWidth sig (widths ++ more) e w
  HasWidth_more (literal bits) widths more w h = h
  HasWidth_more (variable n) widths more w h = slice_get-append widths more n w h
  HasWidth_more (outer n) widths more w h = h
  HasWidth_more (application f e) widths more w h = (h.0, h.1, HasWidth_more e widths more h.0.from h.2, h.3)
  HasWidth_more (exclusive a b) widths more w h = (HasWidth_more a widths more w h.0, HasWidth_more b widths more w h.1)
  HasWidth_more (conjunction a b) widths more w h = (HasWidth_more a widths more w h.0, HasWidth_more b widths more w h.1)
  HasWidth_more (negation a) widths more w h = HasWidth_more a widths more w h
  HasWidth_more (concatenation a b) widths more w h = (h.0, h.1, HasWidth_more a widths more h.0 h.2, HasWidth_more b widths more h.1 h.3, h.4, h.5)
  HasWidth_more (segment i n a) widths more w h = (h.0, HasWidth_more a widths more h.0 h.1, h.2, h.3)
  HasWidth_more (equality a b) widths more w h = (h.0, HasWidth_more a widths more h.0 h.1, HasWidth_more b widths more h.0 h.2, h.3)
  HasWidth_more (selection c a b) widths more w h = (HasWidth_more c widths more 1 h.0, HasWidth_more a widths more w h.1, HasWidth_more b widths more w h.2)

  -- a reaction under more binders
  pub GivesWidth_more : (r : Reaction) (scope : Scope) (widths more : List ℕ) (w : ℕ) → GivesWidth sig scope widths r w → GivesWidth sig scope (widths ++ more) r w
  GivesWidth_more (returning e) scope widths more w h = HasWidth_more e widths more w h
  GivesWidth_more (flipping n) scope widths more w h = h
  GivesWidth_more (reading c) scope widths more w h = h
  GivesWidth_more (branching e r s) scope widths more w h = (HasWidth_more e widths more 1 h.0, GivesWidth_more r scope widths more w h.1, GivesWidth_more s scope widths more w h.2)
  GivesWidth_more (binding v r s) scope widths more w h = (GivesWidth_more r scope widths more v h.0, GivesWidth_more s scope (v ∷ widths) more w h.1)

  -- a reaction in the place of a read of its width
  pub GivesWidth-filled : (C : ReactionContext) (scope : Scope) (c : Channel) (v : ℕ) (r : Reaction) → scope c ≡ Some v → GivesWidth sig scope [] r v → (widths : List ℕ) (w : ℕ) → GivesWidth sig scope widths (filled C (reading c)) w → GivesWidth sig scope widths (filled C r) w
  GivesWidth-filled reaction_hole scope c v r at typed widths w h = let same : v ≡ w = let e : Some v ≡ Some w = sym at ∙ h in cc in subst (GivesWidth sig scope widths r) same (GivesWidth_more r scope [] widths v typed)
  GivesWidth-filled (in_then e C s) scope c v r at typed widths w h = (h.0, GivesWidth-filled C scope c v r at typed widths w h.1, h.2)
  GivesWidth-filled (in_else e s C) scope c v r at typed widths w h = (h.0, h.1, GivesWidth-filled C scope c v r at typed widths w h.2)
  GivesWidth-filled (in_first u C s) scope c v r at typed widths w h = (GivesWidth-filled C scope c v r at typed widths u h.0, h.1)
  GivesWidth-filled (in_second u s C) scope c v r at typed widths w h = (h.0, GivesWidth-filled C scope c v r at typed (u ∷ widths) w h.1)
