-- Typed terms give values of their widths, and typed protocols keep the widths of the scope.
use Rattle.std.proofs.Common.{◌≡◌, ℕ, zero, suc, ◌+◌, ◌≤◌, Bool, true, false, not, ◌&&◌, List, [], ◌∷◌, length, Option, Some, None, take, drop, refl, sym, ap, ◌∙◌, subst, arith, length-append}
use Rattle.std.proofs.lemmas.Bool.Decides.{nat_tests}
use Rattle.std.proofs.lemmas.List.{length-drop, length-take-le, length-map}
use Rattle.std.specs.Prelude.{if◌then◌else◌, nat_eq, nat_le, slice_get}
use Rattle.ipdl_base.specs.Bits.{same_bits, zip_bits, xor}
use Rattle.ipdl_term.specs.Channels.{same_channel, has, outputs}
use Rattle.ipdl_term.specs.Interpretations.{SymbolShape, Signature, Function, Interpretation, HaveWidths, IsFunctionOf, Interprets, zeros, entry_value, function_value, symbol_value, variable_value, at_one_width, cat_value, cut_value, chosen, evaluation}
use Rattle.ipdl_term.specs.Protocols.{coins, written, after_rounds, round, protocol_valuation}
use Rattle.ipdl_term.specs.Reactions.{Outcome, with_bit, first_bits, with_tape, continued, reaction_outcome}
use Rattle.ipdl_term.specs.Surroundings.{FitWidths}
use Rattle.ipdl_term.specs.Terms.{Value, Channel, Expression, literal, variable, outer, application, exclusive, conjunction, negation, concatenation, segment, equality, selection, Reaction, returning, flipping, reading, branching, binding, Protocol, nil, assignment, parallel, hiding}
use Rattle.ipdl_term.specs.Typing.{Scope, scope_with, HasWidth, GivesWidth, IsTyped}
use Rattle.ipdl_term.specs.Valuations.{Valuation, nothing, combined, taken_out, all_taken_out}
use Rattle.ipdl_laws.specs.Alike.{FitsScope, KeepsScope}
use Rattle.ipdl_laws.specs.ReactionTotals.{OutcomeFits}
use Rattle.ipdl_laws.proofs.Numbers.{key}
use Rattle.ipdl_laws.proofs.Sets.{by_test, if-true, if-false, at_same_channel}

-- ---- values

-- bit by bit on lists of one length
length-zip_bits : (op : Bool → Bool → Bool) (a b : List Bool) → length a ≡ length b → length (zip_bits op a b) ≡ length a
length-zip_bits op [] b h = refl
length-zip_bits op (x ∷ a) [] h = absurd (omega arith)
length-zip_bits op (x ∷ a) (y ∷ b) h = ap suc (length-zip_bits op a b (omega arith))

-- as many zeros as asked for
pub length-zeros : (n : ℕ) → length (zeros n) ≡ n
length-zeros zero = refl
length-zeros (suc n) = ap suc (length-zeros n)

-- a segment that lies within the value
length-cut_value : (i n : ℕ) (a : Value) → i + n ≤ length a → length (cut_value i n a) ≡ n
length-cut_value i n a h =
    let e : nat_le (i + n) (length a) ≡ true = grind (arith, nat_tests) in
    rw e (length-take-le n (drop i a) (omega (arith, length-drop i a)))

-- two values of 128 bits at most together
length-cat_value : (a b : Value) → length a + length b ≤ 128 → length (cat_value a b) ≡ length a + length b
length-cat_value a b h =
    let e : nat_le (length a + length b) 128 ≡ true = grind (arith, nat_tests) in
    rw e (length-append a b)

-- operands of one width
at_one_width_is : (a b v : Value) → length a ≡ length b → at_one_width a b v ≡ v
at_one_width_is a b v h = let e : nat_eq (length a) (length b) ≡ true = grind (arith, nat_tests) in rw e

-- one of two values of one width, chosen by one bit
length-chosen : (c : Value) (a b d : Value) (w : ℕ) → length c ≡ 1 → length a ≡ w → length b ≡ w → length (chosen c a b d) ≡ w
length-chosen [] a b d w h i j = absurd (omega arith)
length-chosen (true ∷ []) a b d w h i j = i
length-chosen (false ∷ []) a b d w h i j = j
length-chosen (x ∷ y ∷ bits) a b d w h i j = absurd (omega arith)

-- an entry's value, or the default
length-entry_value : (from to : ℕ) (entries : List (Value × Value)) (key default : Value) → HaveWidths from to entries → length default ≡ to → length (entry_value entries key default) ≡ to
length-entry_value from to [] key default h k = k
length-entry_value from to (e ∷ entries) key default h k = by_test (same_bits e.0 key)
    (λ t. ap length (if-true (same_bits e.0 key) _ _ t) ∙ h.1)
    (λ t. ap length (if-false (same_bits e.0 key) _ _ t) ∙ length-entry_value from to entries key default h.2 k)

-- a function of a symbol at an argument of its width
length-function_value : (s : SymbolShape) (g : Function) (a : Value) → IsFunctionOf s g → length a ≡ s.from → length (function_value g a) ≡ s.to
length-function_value s g a h k =
    let at_width : length a ≡ g.from = k ∙ sym h.from in
    let e : nat_eq (length a) g.from ≡ true = grind (arith, nat_tests) in
    rw e (length-entry_value s.from s.to g.entries a (zeros g.to) h.entries (length-zeros g.to ∙ h.to))

-- a symbol at an argument of its width
length-symbol_value : (sig : Signature) (J : Interpretation) (f : ℕ) (s : SymbolShape) (a : Value) → Interprets sig J → slice_get sig f ≡ Some s → length a ≡ s.from → length (symbol_value J f a) ≡ s.to
length-symbol_value [] [] f s a h i k = cc
length-symbol_value [] (g ∷ J) f s a h i k = absurd h
length-symbol_value (u ∷ sig) [] f s a h i k = absurd h
length-symbol_value (u ∷ sig) (g ∷ J) zero s a h i k = let e : u ≡ s = cc in length-function_value s g a (subst (λ x. IsFunctionOf x g) e h.0) k
length-symbol_value (u ∷ sig) (g ∷ J) (suc f) s a h i k = length-symbol_value sig J f s a h.1 i k

-- a variable of a width
length-variable_value : (widths : List ℕ) (env : List Value) (n w : ℕ) → FitWidths widths env → slice_get widths n ≡ Some w → length (variable_value env n) ≡ w
length-variable_value [] env n w h i = cc
length-variable_value (u ∷ widths) [] n w h i = absurd h
length-variable_value (u ∷ widths) (v ∷ env) zero w h i = let e : u ≡ w = cc in h.0 ∙ e
length-variable_value (u ∷ widths) (v ∷ env) (suc n) w h i = length-variable_value widths env n w h.1 i

-- ---- valuations

-- a choice of two values that fit
if_fits : (scope : Scope) (b : Bool) (o u : Option Value) (c : Channel) → ((v : Value) (w : ℕ) → o ≡ Some v → scope c ≡ Some w → length v ≡ w) → ((v : Value) (w : ℕ) → u ≡ Some v → scope c ≡ Some w → length v ≡ w) → (v : Value) (w : ℕ) → (if b then o else u) ≡ Some v → scope c ≡ Some w → length v ≡ w
if_fits scope true o u c h k = h
if_fits scope false o u c h k = k

module _ (scope : Scope) where
  -- nothing fits each scope
  pub FitsScope-nothing : FitsScope scope nothing
  FitsScope-nothing c v w e k = cc

  -- a combination of two that fit
  pub FitsScope-combined : (cs : List Channel) (p q : Valuation) → FitsScope scope p → FitsScope scope q → FitsScope scope (combined cs p q)
  FitsScope-combined cs p q h k c = if_fits scope (has cs c) (p c) (q c) c (h c) (k c)

  -- less fits too
  pub FitsScope-all_taken_out : (cs : List Channel) (p : Valuation) → FitsScope scope p → FitsScope scope (all_taken_out cs p)
  FitsScope-all_taken_out cs p h c = if_fits scope (has cs c) None (p c) c (λ v w e k. cc) (h c)

  -- the rounds of a step that keeps the scope
  pub FitsScope-after_rounds : (step : Valuation → Valuation) → KeepsScope scope step → (n : ℕ) → FitsScope scope (after_rounds n step)
  FitsScope-after_rounds step h zero = FitsScope-nothing
  FitsScope-after_rounds step h (suc n) = h _ (FitsScope-after_rounds step h n)

  -- what fits below a hidden channel fits outside without it
  pub FitsScope_hidden : (c : Channel) (w : ℕ) (s : Valuation) → FitsScope (scope_with c w scope) s → FitsScope scope (taken_out c s)
  FitsScope_hidden c w s h d v u k l = by_test (same_channel c d)
      (λ e. let n = if-true (same_channel c d) None (s d) e in cc)
      (λ e. h d v u (sym (if-false (same_channel c d) None (s d) e) ∙ k) (if-false (same_channel c d) (Some w) (scope d) e ∙ l))

  -- what fits outside fits below a hidden channel without it
  pub FitsScope_shown : (c : Channel) (w : ℕ) (s : Valuation) → FitsScope scope s → FitsScope (scope_with c w scope) (taken_out c s)
  FitsScope_shown c w s h d v u k l = by_test (same_channel c d)
      (λ e. let n = if-true (same_channel c d) None (s d) e in cc)
      (λ e. h d v u (sym (if-false (same_channel c d) None (s d) e) ∙ k) (sym (if-false (same_channel c d) (Some w) (scope d) e) ∙ l))

-- ---- terms

-- a value that fits, with a tape
OutcomeFits-with_tape : (scope : Scope) (inputs : Valuation) (c : Channel) (w : ℕ) (t : List Bool) → FitsScope scope inputs → scope c ≡ Some w → OutcomeFits w (with_tape (inputs c) t)
OutcomeFits-with_tape scope inputs c w t h e = go (inputs c) refl
  where
    go : (o : Option Value) → inputs c ≡ o → OutcomeFits w (with_tape o t)
    go None k = tt
    go (Some v) k = h c v w k e

-- so many first bits
OutcomeFits-first_bits : (w : ℕ) (t : List Bool) → OutcomeFits w (first_bits w t)
OutcomeFits-first_bits zero t = refl
OutcomeFits-first_bits (suc w) [] = tt
OutcomeFits-first_bits (suc w) (b ∷ t) = go (first_bits w t) (OutcomeFits-first_bits w t)
  where
    go : (o : Outcome) → OutcomeFits w o → OutcomeFits (suc w) (with_bit b o)
    go None h = tt
    go (Some o) h = ap suc h

-- one of two outcomes that fit
OutcomeFits-chosen : (c : Value) (w : ℕ) (a b : Outcome) → OutcomeFits w a → OutcomeFits w b → OutcomeFits w (chosen c a b b)
OutcomeFits-chosen [] w a b h k = k
OutcomeFits-chosen (true ∷ []) w a b h k = h
OutcomeFits-chosen (false ∷ []) w a b h k = k
OutcomeFits-chosen (x ∷ y ∷ bits) w a b h k = k

-- an assignment of a value of the channel's width
FitsScope-written : (scope : Scope) (c : Channel) (w : ℕ) (o : Outcome) → scope c ≡ Some w → OutcomeFits w o → FitsScope scope (written c o)
FitsScope-written scope c w None e h = λ d v u k l. cc
FitsScope-written scope c w (Some o) e h = λ d v u k l. go d v u (same_channel c d) refl k l
  where
    go : (d : Channel) (v : Value) (u : ℕ) (b : Bool) → same_channel c d ≡ b → (if b then Some o.0 else None) ≡ Some v → scope d ≡ Some u → length v ≡ u
    go d v u false x k l = cc
    go d v u true x k l =
        let is : scope d ≡ Some w = at_same_channel (λ y. scope y ≡ Some w) c d x e in
        let same_width : w ≡ u = cc in
        let same_value : o.0 ≡ v = cc in
        sym (ap length same_value) ∙ h ∙ same_width

module _ (sig : Signature) (J : Interpretation) (interprets : Interprets sig J) where
  -- a typed expression has a value of its width
  pub length-evaluation : (widths : List ℕ) (env : List Value) (e : Expression) (w : ℕ) → FitWidths widths env → HasWidth sig widths e w → length (evaluation J env e) ≡ w
  length-evaluation widths env (literal bits) w h t = t
  length-evaluation widths env (variable n) w h t = length-variable_value widths env n w h t
  length-evaluation widths env (outer n) w h t = absurd t
  length-evaluation widths env (application f e) w h t = length-symbol_value sig J f t.0 (evaluation J env e) interprets t.1 (length-evaluation widths env e _ h t.2) ∙ t.3
  length-evaluation widths env (exclusive a b) w h t =
      let x = length-evaluation widths env a w h t.0 in
      let y = length-evaluation widths env b w h t.1 in
      ap length (at_one_width_is (evaluation J env a) (evaluation J env b) _ (x ∙ sym y)) ∙ length-zip_bits xor (evaluation J env a) (evaluation J env b) (x ∙ sym y) ∙ x
  length-evaluation widths env (conjunction a b) w h t =
      let x = length-evaluation widths env a w h t.0 in
      let y = length-evaluation widths env b w h t.1 in
      ap length (at_one_width_is (evaluation J env a) (evaluation J env b) _ (x ∙ sym y)) ∙ length-zip_bits ◌&&◌ (evaluation J env a) (evaluation J env b) (x ∙ sym y) ∙ x
  length-evaluation widths env (negation a) w h t = length-map (evaluation J env a) not ∙ length-evaluation widths env a w h t
  length-evaluation widths env (concatenation a b) w h t =
      let x = length-evaluation widths env a t.0 h t.2 in
      let y = length-evaluation widths env b t.1 h t.3 in
      length-cat_value (evaluation J env a) (evaluation J env b) (omega (arith, t.4, t.5)) ∙ omega (arith, t.4)
  length-evaluation widths env (segment i n a) w h t =
      let x = length-evaluation widths env a t.0 h t.1 in
      length-cut_value i n (evaluation J env a) (omega (arith, t.2)) ∙ t.3
  length-evaluation widths env (equality a b) w h t =
      let x = length-evaluation widths env a t.0 h t.1 in
      let y = length-evaluation widths env b t.0 h t.2 in
      ap length (at_one_width_is (evaluation J env a) (evaluation J env b) _ (x ∙ sym y)) ∙ sym t.3
  length-evaluation widths env (selection c a b) w h t =
      let x = length-evaluation widths env a w h t.1 in
      let y = length-evaluation widths env b w h t.2 in
      ap length (at_one_width_is (evaluation J env a) (evaluation J env b) _ (x ∙ sym y)) ∙ length-chosen (evaluation J env c) (evaluation J env a) (evaluation J env b) [] w (length-evaluation widths env c 1 h t.0) x y

  -- a typed reaction gives a value of its width
  pub OutcomeFits-reaction_outcome : (scope : Scope) (widths : List ℕ) (env : List Value) (inputs : Valuation) (r : Reaction) (w : ℕ) (t : List Bool) → FitWidths widths env → FitsScope scope inputs → GivesWidth sig scope widths r w → OutcomeFits w (reaction_outcome J r env inputs t)
  OutcomeFits-reaction_outcome scope widths env inputs (returning e) w t he hi h = length-evaluation widths env e w he h
  OutcomeFits-reaction_outcome scope widths env inputs (flipping n) w t he hi h = subst (λ k. OutcomeFits k (first_bits n t)) h.0 (OutcomeFits-first_bits n t)
  OutcomeFits-reaction_outcome scope widths env inputs (reading c) w t he hi h = OutcomeFits-with_tape scope inputs c w t hi h
  OutcomeFits-reaction_outcome scope widths env inputs (branching e r s) w t he hi h =
      OutcomeFits-chosen (evaluation J env e) w _ _ (OutcomeFits-reaction_outcome scope widths env inputs r w t he hi h.1) (OutcomeFits-reaction_outcome scope widths env inputs s w t he hi h.2)
  OutcomeFits-reaction_outcome scope widths env inputs (binding v r s) w t he hi h =
      go (reaction_outcome J r env inputs t) (OutcomeFits-reaction_outcome scope widths env inputs r v t he hi h.0) (λ u rest k. OutcomeFits-reaction_outcome scope (v ∷ widths) (u ∷ env) inputs s w rest (k, he) hi h.1)
    where
      go : (o : Outcome) → OutcomeFits v o → ((u : Value) (rest : List Bool) → length u ≡ v → OutcomeFits w (reaction_outcome J s (u ∷ env) inputs rest)) → OutcomeFits w (continued o (λ u rest. reaction_outcome J s (u ∷ env) inputs rest))
      go None h k = tt
      go (Some o) h k = k o.0 o.1 h

  -- a typed protocol keeps the widths of its scope
  pub KeepsScope-protocol_valuation : (p : Protocol) (scope : Scope) → IsTyped sig scope p → (t : List Bool) → KeepsScope scope (protocol_valuation J p t)
  KeepsScope-protocol_valuation nil scope h t inputs k = FitsScope-nothing scope
  KeepsScope-protocol_valuation (assignment c r) scope h t inputs k =
      FitsScope-written scope c h.0 _ h.1 (OutcomeFits-reaction_outcome scope [] [] _ r h.0 t tt (FitsScope-all_taken_out scope (outputs (assignment c r)) _ k) h.2)
  KeepsScope-protocol_valuation (parallel p q) scope h t inputs k =
      let i = FitsScope-all_taken_out scope (outputs (parallel p q)) inputs k in
      let step = round (outputs p) (outputs q) (protocol_valuation J p (take (coins p) t)) (protocol_valuation J q (drop (coins p) t)) (all_taken_out (outputs (parallel p q)) inputs) in
      FitsScope-after_rounds scope step (λ s l. FitsScope-combined scope (outputs p) _ _
      (KeepsScope-protocol_valuation p scope h.0 (take (coins p) t) _ (FitsScope-combined scope (outputs q) _ _ l i))
      (KeepsScope-protocol_valuation q scope h.1 (drop (coins p) t) _ (FitsScope-combined scope (outputs p) _ _ l i))) (suc (length (outputs (parallel p q))))
  KeepsScope-protocol_valuation (hiding c w p) scope h t inputs k =
      FitsScope_hidden scope c w _ (KeepsScope-protocol_valuation p (scope_with c w scope) h.1 t _ (FitsScope_shown scope c w _ (FitsScope-all_taken_out scope _ _ k)))
