-- The boundaries that are entered on the way to a place give what is around it.
use Rattle.std.proofs.Common.{◌≡◌, ℕ, zero, suc, List, [], ◌∷◌, ◌++◌, map, reverse, length, Bool, true, false, Option, Some, None, refl, sym, ap, ◌∙◌, append_assoc}
use Rattle.std.proofs.lemmas.List.{append-nil, reverse-append, reverse-reverse}
use Rattle.std.specs.Prelude.{IfSome, if◌then◌else◌}
use Rattle.std.specs.Option.{option_map_or}
use Rattle.ipdl_term.specs.Channels.{same_channel}
use Rattle.ipdl_term.specs.Terms.{Channel, application, exclusive, conjunction, negation, concatenation, segment, equality, selection, returning, branching, binding, Protocol, assignment, parallel, hiding, Term, protocol_term, reaction_term, expression_term}
use Rattle.ipdl_term.specs.Typing.{Scope, scope_of, scope_with}
use Rattle.ipdl_term.specs.declared.interface.Port.{Port}
use Rattle.ipdl_term.specs.Places.{Child, child}
use Rattle.ipdl_term.specs.Surroundings.{Condition, Surroundings, outermost, in_arm, under_binder, around_child, around}
use Rattle.ipdl_cursor.specs.Boundaries.{Boundary, channel, binder, arm, boundary_at, with_boundary, boundaries_to, binder_widths, channel_ports, arm_conditions}
use Rattle.ipdl_cursor.specs.Hidden.{hidden_port, hidden_ports}
use Rattle.ipdl_cursor.proofs.Lifts.{lifted_by, map_lifted-none, map_lifted-more}

-- ---- the surroundings behind boundaries

-- behind one boundary
abbrev behind : Surroundings → Boundary → Surroundings
behind s (channel c w) = record s { scope = scope_with c w s.scope }
behind s (binder w) = under_binder s w
behind s (arm e value) = in_arm s e value

-- behind boundaries, of which the first is the outermost
abbrev behind_all : Surroundings → List Boundary → Surroundings
behind_all s [] = s
behind_all s (b ∷ bs) = behind_all (behind s b) bs

-- around a protocol there are no binders and no conditions
abbrev IsBare : Surroundings → Term → Type 0
IsBare s (protocol_term p) = s ≡ outermost s.scope
IsBare s _ = Unit {0}

-- around a child it is so too, and what is around it is behind the boundary
around_child-behind : (s : Surroundings) (t : Term) (n : ℕ) → IfSome (child t n) (λ c. IsBare s t →
    (around_child s t n ≡ behind_all s (with_boundary (boundary_at t n) [])) × IsBare (behind_all s (with_boundary (boundary_at t n) [])) c.part)
around_child-behind s (expression_term (application f a)) zero = λ bare. (refl, tt)
around_child-behind s (expression_term (exclusive a b)) zero = λ bare. (refl, tt)
around_child-behind s (expression_term (exclusive a b)) (suc zero) = λ bare. (refl, tt)
around_child-behind s (expression_term (conjunction a b)) zero = λ bare. (refl, tt)
around_child-behind s (expression_term (conjunction a b)) (suc zero) = λ bare. (refl, tt)
around_child-behind s (expression_term (negation a)) zero = λ bare. (refl, tt)
around_child-behind s (expression_term (concatenation a b)) zero = λ bare. (refl, tt)
around_child-behind s (expression_term (concatenation a b)) (suc zero) = λ bare. (refl, tt)
around_child-behind s (expression_term (segment i n a)) zero = λ bare. (refl, tt)
around_child-behind s (expression_term (equality a b)) zero = λ bare. (refl, tt)
around_child-behind s (expression_term (equality a b)) (suc zero) = λ bare. (refl, tt)
around_child-behind s (expression_term (selection c a b)) zero = λ bare. (refl, tt)
around_child-behind s (expression_term (selection c a b)) (suc zero) = λ bare. (refl, tt)
around_child-behind s (expression_term (selection c a b)) (suc (suc zero)) = λ bare. (refl, tt)
around_child-behind s (reaction_term (returning e)) zero = λ bare. (refl, tt)
around_child-behind s (reaction_term (branching e r q)) zero = λ bare. (refl, tt)
around_child-behind s (reaction_term (branching e r q)) (suc zero) = λ bare. (refl, tt)
around_child-behind s (reaction_term (branching e r q)) (suc (suc zero)) = λ bare. (refl, tt)
around_child-behind s (reaction_term (binding w r q)) zero = λ bare. (refl, tt)
around_child-behind s (reaction_term (binding w r q)) (suc zero) = λ bare. (refl, tt)
around_child-behind s (protocol_term (assignment c r)) zero = λ bare. (sym bare, tt)
around_child-behind s (protocol_term (parallel p q)) zero = λ bare. (refl, bare)
around_child-behind s (protocol_term (parallel p q)) (suc zero) = λ bare. (refl, bare)
around_child-behind s (protocol_term (hiding c w p)) zero = λ bare. (refl, ap (λ (x : Surroundings). record x { scope = scope_with c w x.scope }) bare)
around_child-behind s _ _ = tt

behind_all-with : (s : Surroundings) (b : Option Boundary) (bs : List Boundary) → behind_all s (with_boundary b bs) ≡ behind_all (behind_all s (with_boundary b [])) bs
behind_all-with s None bs = refl
behind_all-with s (Some b) bs = refl

around_in : (s next : Surroundings) (o : Option Child) (b : Option Boundary) (t : Term) (place : List ℕ) →
    IfSome o (λ c. IsBare s t → (next ≡ behind_all s (with_boundary b [])) × IsBare (behind_all s (with_boundary b [])) c.part) →
    ((x : Surroundings) (c : Child) → IsBare x c.part → around x c.part place ≡ behind_all x (boundaries_to c.part place)) → IsBare s t →
    option_map_or (λ c. around next c.part place) o s ≡ behind_all s (option_map_or (λ c. with_boundary b (boundaries_to c.part place)) o [])
around_in s next None b t place here deeper bare = refl
around_in s next (Some c) b t place here deeper bare =
    let both = here bare in
    ap (λ x. around x c.part place) both.0
    ∙ deeper (behind_all s (with_boundary b [])) c both.1
    ∙ sym (behind_all-with s b (boundaries_to c.part place))

around-boundaries : (s : Surroundings) (t : Term) (place : List ℕ) → IsBare s t → around s t place ≡ behind_all s (boundaries_to t place)
around-boundaries s t [] bare = refl
around-boundaries s t (n ∷ place) bare =
    around_in s (around_child s t n) (child t n) (boundary_at t n) t place (around_child-behind s t n) (λ x c. around-boundaries x c.part place) bare

-- ---- what is behind boundaries

widths-behind_all : (s : Surroundings) (bs : List Boundary) → (behind_all s bs).widths ≡ reverse (binder_widths bs) ++ s.widths
widths-behind_all s [] = refl
widths-behind_all s (channel c w ∷ bs) = widths-behind_all (behind s (channel c w)) bs
widths-behind_all s (arm e value ∷ bs) = widths-behind_all (behind s (arm e value)) bs
widths-behind_all s (binder w ∷ bs) =
    widths-behind_all (behind s (binder w)) bs
    ∙ sym (append_assoc (reverse (binder_widths bs)) (w ∷ []) s.widths)
    ∙ ap (λ ws. ws ++ s.widths) (sym (reverse-append (w ∷ []) (binder_widths bs)))

conditions-behind_all : (s : Surroundings) (bs : List Boundary) → (behind_all s bs).conditions ≡ reverse (arm_conditions bs) ++ map (lifted_by (length (binder_widths bs))) s.conditions
conditions-behind_all s [] = sym (map_lifted-none s.conditions)
conditions-behind_all s (channel c w ∷ bs) = conditions-behind_all (behind s (channel c w)) bs
conditions-behind_all s (binder w ∷ bs) =
    conditions-behind_all (behind s (binder w)) bs ∙ ap (λ cs. reverse (arm_conditions bs) ++ cs) (map_lifted-more (length (binder_widths bs)) s.conditions)
conditions-behind_all s (arm e value ∷ bs) =
    let n = length (binder_widths bs) in
    let c : Condition = lifted_by n (record { test = e; value = value }) in
    conditions-behind_all (behind s (arm e value)) bs
    ∙ sym (append_assoc (reverse (arm_conditions bs)) (c ∷ []) (map (lifted_by n) s.conditions))
    ∙ ap (λ cs. cs ++ map (lifted_by n) s.conditions) (sym (reverse-append (c ∷ []) (arm_conditions bs)))

scope_of-push : (ports : List Port) (p : Port) (d : Channel) → scope_of (ports ++ p ∷ []) d ≡ (if same_channel p.name d then Some p.width else scope_of ports d)
scope_of-push [] p d = refl
scope_of-push (q ∷ ports) p d = go (same_channel p.name d) (scope_of-push ports p d)
  where
    go : (b : Bool) → scope_of (ports ++ p ∷ []) d ≡ (if b then Some p.width else scope_of ports d) → scope_of (q ∷ (ports ++ p ∷ [])) d ≡ (if b then Some p.width else scope_of (q ∷ ports) d)
    go true is = rw is
    go false is = rw is

scope-behind_all : (s : Surroundings) (bs : List Boundary) (ports : List Port) → ((c : Channel) → s.scope c ≡ scope_of ports c) → (c : Channel) → (behind_all s bs).scope c ≡ scope_of (ports ++ channel_ports bs) c
scope-behind_all s [] ports same c = same c ∙ ap (λ l. scope_of l c) (sym (append-nil ports))
scope-behind_all s (binder w ∷ bs) ports same c = scope-behind_all (behind s (binder w)) bs ports same c
scope-behind_all s (arm e value ∷ bs) ports same c = scope-behind_all (behind s (arm e value)) bs ports same c
scope-behind_all s (channel name w ∷ bs) ports same c =
    let p : Port = record { name = name; width = w } in
    let next = λ (d : Channel). ap (λ (x : Option ℕ). if same_channel name d then Some w else x) (same d) ∙ sym (scope_of-push ports p d) in
    scope-behind_all (behind s (channel name w)) bs (ports ++ p ∷ []) next c ∙ ap (λ l. scope_of l c) (append_assoc ports (p ∷ []) (channel_ports bs))

-- ---- around a place

channel_ports-with : (t : Term) (n : ℕ) (bs : List Boundary) → channel_ports (with_boundary (boundary_at t n) bs) ≡ hidden_port t n ++ channel_ports bs
channel_ports-with (protocol_term (hiding c w p)) zero bs = refl
channel_ports-with (reaction_term (branching e r s)) (suc zero) bs = refl
channel_ports-with (reaction_term (branching e r s)) (suc (suc zero)) bs = refl
channel_ports-with (reaction_term (binding w r s)) (suc zero) bs = refl
channel_ports-with _ _ bs = refl

hidden_ports_in : (t : Term) (n : ℕ) (o : Option Child) (place : List ℕ) →
    ((c : Child) → channel_ports (boundaries_to c.part place) ≡ hidden_ports c.part place) →
    channel_ports (option_map_or (λ c. with_boundary (boundary_at t n) (boundaries_to c.part place)) o []) ≡ option_map_or (λ c. hidden_port t n ++ hidden_ports c.part place) o []
hidden_ports_in t n None place deeper = refl
hidden_ports_in t n (Some c) place deeper = channel_ports-with t n (boundaries_to c.part place) ∙ ap (λ ports. hidden_port t n ++ ports) (deeper c)

-- the channels that are entered are the hidden ones
pub channel_ports-boundaries : (t : Term) (place : List ℕ) → channel_ports (boundaries_to t place) ≡ hidden_ports t place
channel_ports-boundaries t [] = refl
channel_ports-boundaries t (n ∷ place) = hidden_ports_in t n (child t n) place (λ c. channel_ports-boundaries c.part place)

-- the widths of the binders are those around the place
pub binder_widths-around : (scope : Scope) (p : Protocol) (place : List ℕ) →
    binder_widths (boundaries_to (protocol_term p) place) ≡ reverse (around (outermost scope) (protocol_term p) place).widths
binder_widths-around scope p place =
    let s = outermost scope in
    let bs = boundaries_to (protocol_term p) place in
    let e = around-boundaries s (protocol_term p) place refl in
    sym (ap (λ (x : Surroundings). reverse x.widths) e
    ∙ ap reverse (widths-behind_all s bs ∙ append-nil (reverse (binder_widths bs)))
    ∙ reverse-reverse (binder_widths bs))

-- and so are the conditions
pub arm_conditions-around : (scope : Scope) (p : Protocol) (place : List ℕ) →
    reverse (arm_conditions (boundaries_to (protocol_term p) place)) ≡ (around (outermost scope) (protocol_term p) place).conditions
arm_conditions-around scope p place =
    let s = outermost scope in
    let bs = boundaries_to (protocol_term p) place in
    let e = around-boundaries s (protocol_term p) place refl in
    sym (ap (λ (x : Surroundings). x.conditions) e ∙ conditions-behind_all s bs ∙ append-nil (reverse (arm_conditions bs)))

-- the scope is that of the ports outside with the hidden channels
pub scope-around : (ports : List Port) (p : Protocol) (place : List ℕ) (c : Channel) →
    (around (outermost (scope_of ports)) (protocol_term p) place).scope c ≡ scope_of (ports ++ hidden_ports (protocol_term p) place) c
scope-around ports p place c =
    let s = outermost (scope_of ports) in
    let bs = boundaries_to (protocol_term p) place in
    ap (λ (x : Surroundings). x.scope c) (around-boundaries s (protocol_term p) place refl)
    ∙ scope-behind_all s bs ports (λ d. refl) c
    ∙ ap (λ hidden. scope_of (ports ++ hidden) c) (channel_ports-boundaries (protocol_term p) place)
