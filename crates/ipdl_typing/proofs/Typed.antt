-- What is typed has no failure, and one width.
use Rattle.std.proofs.Common.{◌≡◌, ℕ, ◌+◌, ◌≤◌, ◌==◌, nat_le, Bool, true, false, ◌||◌, not, if◌then◌else◌, List, [], ◌∷◌, ◌++◌, slice_get, refl, sym, ap, ap₂, ◌∙◌, subst}
use Rattle.std.specs.Prelude.{is_some, unwrap_or}
use Rattle.std.proofs.Math.Bool.{or-true, or-false}
use Rattle.std.proofs.lemmas.Bool.{false≢true, false_from_ne_true, le-leb, eq-eqb}
use Rattle.ipdl_term.specs.Terms.{Channel, Expression, literal, variable, outer, application, exclusive, conjunction, negation, concatenation, segment, equality, selection, Reaction, returning, flipping, reading, branching, binding, Protocol, nil, assignment, parallel, hiding}
use Rattle.ipdl_term.specs.Channels.{same_channel, has, union, without, outputs}
use Rattle.ipdl_term.specs.Interpretations.{Signature}
use Rattle.ipdl_term.specs.Typing.{Scope, scope_with, scope_of, port_names, HasWidth, GivesWidth, IsTyped, HasInterface}
use Rattle.ipdl_term.specs.declared.interface.Interface.{Interface}
use Rattle.ipdl_term.proofs.ChannelSets.{same_channel-itself, has-without, has-union}
use Rattle.ipdl_typing.specs.Checks.{width, unbound, no_symbol, unwritten, not_output, twice, new_unwritten, missing, checked, child, symbol_to, symbol_from, has_width, expression_width, expression_failures, gives_width, reaction_width, reaction_failures, Writable, writable_with, protocol_failures, missing_failures}
use Rattle.ipdl_typing.specs.Interfaces.{interface_failures}
use Rattle.ipdl_typing.proofs.First.{clean-append, clean-checked}

-- ---- expressions

-- no failure, and this width
abbrev IsExpression : Signature → List ℕ → List ℕ → Expression → ℕ → Type 0
IsExpression sig widths path e w = (expression_failures sig widths path e ≡ []) × (expression_width sig widths e ≡ w)

-- a child of the wanted width has no failure
has_width-clean : (sig : Signature) (widths path : List ℕ) (e : Expression) (want : ℕ) → expression_width sig widths e ≡ want → has_width sig widths path e want ≡ []
has_width-clean sig widths path e want is =
    clean-checked (expression_width sig widths e == want) path (width want (expression_width sig widths e)) (eq-eqb (expression_width sig widths e) want is)

-- two operands of one width
pair-clean : (sig : Signature) (widths path : List ℕ) (a b : Expression) (w : ℕ) → IsExpression sig widths (child path 0) a w → IsExpression sig widths (child path 1) b w → expression_failures sig widths (child path 0) a ++ expression_failures sig widths (child path 1) b ++ has_width sig widths (child path 1) b (expression_width sig widths a) ≡ []
pair-clean sig widths path a b w left right =
    clean-append (expression_failures sig widths (child path 0) a ++ expression_failures sig widths (child path 1) b) (has_width sig widths (child path 1) b (expression_width sig widths a)) (clean-append (expression_failures sig widths (child path 0) a) (expression_failures sig widths (child path 1) b) left.0 right.0) (has_width-clean sig widths (child path 1) b (expression_width sig widths a) (right.1 ∙ sym left.1))

-- a typed expression has no failure, and the width that the checks compute
pub expression-HasWidth : (sig : Signature) (widths path : List ℕ) (e : Expression) (w : ℕ) → HasWidth sig widths e w → (expression_failures sig widths path e ≡ []) × (expression_width sig widths e ≡ w)
expression-HasWidth sig widths path (literal bits) w t = (refl, t)
expression-HasWidth sig widths path (variable n) w t = (
  clean-checked (is_some (slice_get widths n)) path (unbound n) (ap is_some t),
  ap (λ o. unwrap_or o 0) t,
)
expression-HasWidth sig widths path (outer n) w t = absurd t
expression-HasWidth sig widths path (application f e) w t =
    let inner = expression-HasWidth sig widths (child path 0) e t.0.from t.2 in
    let known = clean-checked (is_some (slice_get sig f)) path (no_symbol f) (ap is_some t.1) in (
      clean-append (checked (is_some (slice_get sig f)) path (no_symbol f) ++ expression_failures sig widths (child path 0) e) (has_width sig widths (child path 0) e (symbol_from (slice_get sig f))) (clean-append (checked (is_some (slice_get sig f)) path (no_symbol f)) (expression_failures sig widths (child path 0) e) known inner.0) (has_width-clean sig widths (child path 0) e (symbol_from (slice_get sig f)) (inner.1 ∙ sym (ap symbol_from t.1))),
      ap symbol_to t.1 ∙ t.3,
    )
expression-HasWidth sig widths path (exclusive a b) w t =
    let left = expression-HasWidth sig widths (child path 0) a w t.0 in
    let right = expression-HasWidth sig widths (child path 1) b w t.1 in
    (pair-clean sig widths path a b w left right, left.1)
expression-HasWidth sig widths path (conjunction a b) w t =
    let left = expression-HasWidth sig widths (child path 0) a w t.0 in
    let right = expression-HasWidth sig widths (child path 1) b w t.1 in
    (pair-clean sig widths path a b w left right, left.1)
expression-HasWidth sig widths path (negation a) w t = expression-HasWidth sig widths (child path 0) a w t
expression-HasWidth sig widths path (concatenation a b) w t =
    let left = expression-HasWidth sig widths (child path 0) a t.0 t.2 in
    let right = expression-HasWidth sig widths (child path 1) b t.1 t.3 in
    let sum : expression_width sig widths a + expression_width sig widths b ≡ w = ap₂ (λ m n. m + n) left.1 right.1 ∙ t.4 in
    let few : expression_width sig widths a + expression_width sig widths b ≤ 128 = subst (λ n. n ≤ 128) (sym sum) t.5 in (
      clean-append (expression_failures sig widths (child path 0) a ++ expression_failures sig widths (child path 1) b) (checked (nat_le (expression_width sig widths a + expression_width sig widths b) 128) path (width 128 (expression_width sig widths a + expression_width sig widths b))) (clean-append (expression_failures sig widths (child path 0) a) (expression_failures sig widths (child path 1) b) left.0 right.0) (clean-checked (nat_le (expression_width sig widths a + expression_width sig widths b) 128) path (width 128 (expression_width sig widths a + expression_width sig widths b)) (le-leb (expression_width sig widths a + expression_width sig widths b) 128 few)),
      sum,
    )
expression-HasWidth sig widths path (segment i n a) w t =
    let inner = expression-HasWidth sig widths (child path 0) a t.0 t.1 in
    let within : i + n ≤ expression_width sig widths a = subst (λ v. i + n ≤ v) (sym inner.1) t.2 in (
      clean-append (expression_failures sig widths (child path 0) a) (checked (nat_le (i + n) (expression_width sig widths a)) (child path 0) (width (i + n) (expression_width sig widths a))) inner.0 (clean-checked (nat_le (i + n) (expression_width sig widths a)) (child path 0) (width (i + n) (expression_width sig widths a)) (le-leb (i + n) (expression_width sig widths a) within)),
      t.3,
    )
expression-HasWidth sig widths path (equality a b) w t =
    let left = expression-HasWidth sig widths (child path 0) a t.0 t.1 in
    let right = expression-HasWidth sig widths (child path 1) b t.0 t.2 in
    (pair-clean sig widths path a b t.0 left right, sym t.3)
expression-HasWidth sig widths path (selection c a b) w t =
    let test = expression-HasWidth sig widths (child path 0) c 1 t.0 in
    let left = expression-HasWidth sig widths (child path 1) a w t.1 in
    let right = expression-HasWidth sig widths (child path 2) b w t.2 in
    let test_failures = expression_failures sig widths (child path 0) c in
    let test_width = has_width sig widths (child path 0) c 1 in
    let left_failures = expression_failures sig widths (child path 1) a in
    let right_failures = expression_failures sig widths (child path 2) b in
    let right_width = has_width sig widths (child path 2) b (expression_width sig widths a) in (
      clean-append (test_failures ++ test_width ++ left_failures ++ right_failures) right_width (clean-append (test_failures ++ test_width ++ left_failures) right_failures (clean-append (test_failures ++ test_width) left_failures (clean-append test_failures test_width test.0 (has_width-clean sig widths (child path 0) c 1 test.1)) left.0) right.0) (has_width-clean sig widths (child path 2) b (expression_width sig widths a) (right.1 ∙ sym left.1)),
      left.1,
    )

-- ---- reactions

-- a child that gives the wanted width has no failure
gives_width-clean : (sig : Signature) (scope : Scope) (widths path : List ℕ) (r : Reaction) (want : ℕ) → reaction_width sig scope widths r ≡ want → gives_width sig scope widths path r want ≡ []
gives_width-clean sig scope widths path r want is =
    clean-checked (reaction_width sig scope widths r == want) path (width want (reaction_width sig scope widths r)) (eq-eqb (reaction_width sig scope widths r) want is)

-- a typed reaction has no failure, and gives the width that the checks compute
pub reaction-GivesWidth : (sig : Signature) (scope : Scope) (widths path : List ℕ) (r : Reaction) (w : ℕ) → GivesWidth sig scope widths r w → (reaction_failures sig scope widths path r ≡ []) × (reaction_width sig scope widths r ≡ w)
reaction-GivesWidth sig scope widths path (returning e) w t = expression-HasWidth sig widths (child path 0) e w t
reaction-GivesWidth sig scope widths path (flipping n) w t =
    (clean-checked (nat_le n 128) path (width 128 n) (le-leb n 128 (subst (λ m. m ≤ 128) (sym t.0) t.1)), t.0)
reaction-GivesWidth sig scope widths path (reading c) w t =
    (clean-checked (is_some (scope c)) path (unwritten c) (ap is_some t), ap (λ o. unwrap_or o 0) t)
reaction-GivesWidth sig scope widths path (branching e r s) w t =
    let test = expression-HasWidth sig widths (child path 0) e 1 t.0 in
    let left = reaction-GivesWidth sig scope widths (child path 1) r w t.1 in
    let right = reaction-GivesWidth sig scope widths (child path 2) s w t.2 in
    let test_failures = expression_failures sig widths (child path 0) e in
    let test_width = has_width sig widths (child path 0) e 1 in
    let left_failures = reaction_failures sig scope widths (child path 1) r in
    let right_failures = reaction_failures sig scope widths (child path 2) s in
    let right_width = gives_width sig scope widths (child path 2) s (reaction_width sig scope widths r) in (
      clean-append (test_failures ++ test_width ++ left_failures ++ right_failures) right_width (clean-append (test_failures ++ test_width ++ left_failures) right_failures (clean-append (test_failures ++ test_width) left_failures (clean-append test_failures test_width test.0 (has_width-clean sig widths (child path 0) e 1 test.1)) left.0) right.0) (gives_width-clean sig scope widths (child path 2) s (reaction_width sig scope widths r) (right.1 ∙ sym left.1)),
      left.1,
    )
reaction-GivesWidth sig scope widths path (binding v r s) w t =
    let first = reaction-GivesWidth sig scope widths (child path 0) r v t.0 in
    let second = reaction-GivesWidth sig scope (v ∷ widths) (child path 1) s w t.1 in
    let left_failures = reaction_failures sig scope widths (child path 0) r in
    let left_width = gives_width sig scope widths (child path 0) r v in
    let right_failures = reaction_failures sig scope (v ∷ widths) (child path 1) s in
    (clean-append (left_failures ++ left_width) right_failures (clean-append left_failures left_width first.0 (gives_width-clean sig scope widths (child path 0) r v first.1)) second.0, second.1)

-- ---- protocols

-- members of the parts of a union are members of it
left_of_union : (cs ds : List Channel) (c : Channel) → has cs c ≡ true → has (union cs ds) c ≡ true
left_of_union cs ds c is = has-union cs ds c ∙ ap (λ b. b || has ds c) is

-- and of the second part
right_of_union : (cs ds : List Channel) (c : Channel) → has ds c ≡ true → has (union cs ds) c ≡ true
right_of_union cs ds c is = has-union cs ds c ∙ ap (λ b. has cs c || b) is ∙ or-true (has cs c)

-- a channel by itself
itself : (c : Channel) → has (c ∷ []) c ≡ true
itself c = or-false (same_channel c c) ∙ same_channel-itself c

-- a typed protocol that writes what it may, and nothing twice, has no failure
pub protocol-IsTyped : (sig : Signature) (scope : Scope) (writable : Writable) (earlier : List Channel) (path : List ℕ) (p : Protocol) → IsTyped sig scope p → ((c : Channel) → has (outputs p) c ≡ true → writable c ≡ true) → ((c : Channel) → has (outputs p) c ≡ true → has earlier c ≡ false) → protocol_failures sig scope writable earlier path p ≡ []
protocol-IsTyped sig scope writable earlier path nil t may new = refl
protocol-IsTyped sig scope writable earlier path (assignment c r) t may new =
    let reaction = reaction-GivesWidth sig scope [] (child path 0) r t.0 t.2 in
    let allowed = clean-checked (writable c) path (not_output c) (may c (itself c)) in
    let once = clean-checked (not (has earlier c)) path (twice c) (ap not (new c (itself c))) in
    let declared : unwrap_or (scope c) 0 ≡ t.0 = ap (λ o. unwrap_or o 0) t.1 in
    clean-append (checked (writable c) path (not_output c) ++ checked (not (has earlier c)) path (twice c) ++ reaction_failures sig scope [] (child path 0) r) (gives_width sig scope [] (child path 0) r (unwrap_or (scope c) 0)) (clean-append (checked (writable c) path (not_output c) ++ checked (not (has earlier c)) path (twice c)) (reaction_failures sig scope [] (child path 0) r) (clean-append (checked (writable c) path (not_output c)) (checked (not (has earlier c)) path (twice c)) allowed once) reaction.0) (gives_width-clean sig scope [] (child path 0) r (unwrap_or (scope c) 0) (reaction.1 ∙ sym declared))
protocol-IsTyped sig scope writable earlier path (parallel p q) t may new =
    let left = protocol-IsTyped sig scope writable earlier (child path 0) p t.0 (λ c is. may c (left_of_union (outputs p) (outputs q) c is)) (λ c is. new c (left_of_union (outputs p) (outputs q) c is)) in
    let apart : (c : Channel) → has (outputs q) c ≡ true → has (outputs p) c ≡ false = λ c is. false_from_ne_true (has (outputs p) c) (λ too. false≢true (sym (t.2 c too) ∙ is)) in
    let fresh : (c : Channel) → has (outputs q) c ≡ true → has (union earlier (outputs p)) c ≡ false = λ c is. has-union earlier (outputs p) c ∙ ap₂ (λ a b. a || b) (new c (right_of_union (outputs p) (outputs q) c is)) (apart c is) in
    let right = protocol-IsTyped sig scope writable (union earlier (outputs p)) (child path 1) q t.1 (λ c is. may c (right_of_union (outputs p) (outputs q) c is)) fresh in
    clean-append (protocol_failures sig scope writable earlier (child path 0) p) (protocol_failures sig scope writable (union earlier (outputs p)) (child path 1) q) left right
protocol-IsTyped sig scope writable earlier path (hiding c w p) t may new =
    let inner = protocol-IsTyped sig (scope_with c w scope) (writable_with c writable) (without c earlier) (child path 0) p t.1 (λ d is. written d (same_channel c d) refl is) (λ d is. unwritten d (same_channel c d) refl is) in
    clean-append (checked (nat_le w 128) path (width 128 w) ++ protocol_failures sig (scope_with c w scope) (writable_with c writable) (without c earlier) (child path 0) p) (checked (has (outputs p) c) path (new_unwritten c)) (clean-append (checked (nat_le w 128) path (width 128 w)) (protocol_failures sig (scope_with c w scope) (writable_with c writable) (without c earlier) (child path 0) p) (clean-checked (nat_le w 128) path (width 128 w) (le-leb w 128 t.0)) inner) (clean-checked (has (outputs p) c) path (new_unwritten c) t.2)
  where
    outside : (d : Channel) → same_channel c d ≡ false → has (outputs p) d ≡ true → has (without c (outputs p)) d ≡ true
    outside d other is = has-without c (outputs p) d ∙ ap (λ b. if b then false else has (outputs p) d) other ∙ is

    written : (d : Channel) (b : Bool) → same_channel c d ≡ b → has (outputs p) d ≡ true → (if same_channel c d then true else writable d) ≡ true
    written d true same is = ap (λ b. if b then true else writable d) same
    written d false other is = ap (λ b. if b then true else writable d) other ∙ may d (outside d other is)

    unwritten : (d : Channel) (b : Bool) → same_channel c d ≡ b → has (outputs p) d ≡ true → has (without c earlier) d ≡ false
    unwritten d true same is = has-without c earlier d ∙ ap (λ b. if b then false else has earlier d) same
    unwritten d false other is =
        has-without c earlier d ∙ ap (λ b. if b then false else has earlier d) other ∙ new d (outside d other is)

-- no declared output is missing
missing-written : (cs : List Channel) (p : Protocol) → ((c : Channel) → has cs c ≡ true → has (outputs p) c ≡ true) → missing_failures cs p ≡ []
missing-written [] p written = refl
missing-written (c ∷ cs) p written =
    clean-append (checked (has (outputs p) c) [] (missing c)) (missing_failures cs p) (clean-checked (has (outputs p) c) [] (missing c) (written c (ap (λ b. b || has cs c) (same_channel-itself c)))) (missing-written cs p (λ d is. written d (later (same_channel c d) (has cs d) is)))
  where
    later : (a b : Bool) → b ≡ true → (a || b) ≡ true
    later true b is = refl
    later false b is = is

-- a protocol that has the interface has no failure there
pub interface-HasInterface : (sig : Signature) (interface : Interface) (p : Protocol) → HasInterface sig interface p → interface_failures sig interface p ≡ []
interface-HasInterface sig interface p t =
    let scope = scope_of (interface.inputs ++ interface.outputs) in
    let names = port_names interface.outputs in
    clean-append (protocol_failures sig scope (has names) [] [] p) (missing_failures names p) (protocol-IsTyped sig scope (has names) [] [] p t.typed (λ c is. sym (t.writes c) ∙ is) (λ c is. refl)) (missing-written names p (λ c is. t.writes c ∙ is))
