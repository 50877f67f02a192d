-- What each change makes of a term: the term itself, the lifted one, that with a value put in, the settled one.
use Rattle.std.proofs.Common.{◌≡◌, ℕ, suc, refl}
use Rattle.ipdl_term.specs.Terms.{Expression, literal, variable, outer, application, exclusive, conjunction, negation, concatenation, segment, equality, selection, Reaction, returning, flipping, reading, branching, binding, Protocol, nil, assignment, parallel, hiding}
use Rattle.ipdl_term.specs.Variables.{lifted_expression, lifted_reaction, put_expression, put_reaction, settled_expression, settled_reaction, settled_protocol}
use Rattle.ipdl_term.specs.Changes.{keep, lift, put, settle, changed_expression, changed_reaction, changed_protocol}

-- ---- nothing is changed

pub changed_expression-keep : (depth : ℕ) (e : Expression) → changed_expression keep depth e ≡ e
changed_expression-keep depth (literal bits) = refl
changed_expression-keep depth (variable n) = refl
changed_expression-keep depth (outer n) = refl
changed_expression-keep depth (application f e) = rw (changed_expression-keep depth e)
changed_expression-keep depth (exclusive a b) = rw (changed_expression-keep depth a, changed_expression-keep depth b)
changed_expression-keep depth (conjunction a b) = rw (changed_expression-keep depth a, changed_expression-keep depth b)
changed_expression-keep depth (negation a) = rw (changed_expression-keep depth a)
changed_expression-keep depth (concatenation a b) =
    rw (changed_expression-keep depth a, changed_expression-keep depth b)
changed_expression-keep depth (segment i n a) = rw (changed_expression-keep depth a)
changed_expression-keep depth (equality a b) = rw (changed_expression-keep depth a, changed_expression-keep depth b)
changed_expression-keep depth (selection c a b) =
    rw (changed_expression-keep depth c, changed_expression-keep depth a, changed_expression-keep depth b)

pub changed_reaction-keep : (depth : ℕ) (r : Reaction) → changed_reaction keep depth r ≡ r
changed_reaction-keep depth (returning e) = rw (changed_expression-keep depth e)
changed_reaction-keep depth (flipping w) = refl
changed_reaction-keep depth (reading c) = refl
changed_reaction-keep depth (branching e r s) =
    rw (changed_expression-keep depth e, changed_reaction-keep depth r, changed_reaction-keep depth s)
changed_reaction-keep depth (binding w r s) = rw (changed_reaction-keep depth r, changed_reaction-keep (suc depth) s)

pub changed_protocol-keep : (depth : ℕ) (p : Protocol) → changed_protocol keep depth p ≡ p
changed_protocol-keep depth nil = refl
changed_protocol-keep depth (assignment c r) = rw (changed_reaction-keep depth r)
changed_protocol-keep depth (parallel p q) = rw (changed_protocol-keep depth p, changed_protocol-keep depth q)
changed_protocol-keep depth (hiding c w p) = rw (changed_protocol-keep depth p)

pub ruleset kept = (changed_expression-keep, changed_reaction-keep, changed_protocol-keep)

-- ---- variables grow

pub changed_expression-lift : (by depth : ℕ) (e : Expression) → changed_expression (lift by) depth e ≡ lifted_expression e depth by
changed_expression-lift by depth (literal bits) = refl
changed_expression-lift by depth (variable n) = refl
changed_expression-lift by depth (outer n) = refl
changed_expression-lift by depth (application f e) = rw (changed_expression-lift by depth e)
changed_expression-lift by depth (exclusive a b) =
    rw (changed_expression-lift by depth a, changed_expression-lift by depth b)
changed_expression-lift by depth (conjunction a b) =
    rw (changed_expression-lift by depth a, changed_expression-lift by depth b)
changed_expression-lift by depth (negation a) = rw (changed_expression-lift by depth a)
changed_expression-lift by depth (concatenation a b) =
    rw (changed_expression-lift by depth a, changed_expression-lift by depth b)
changed_expression-lift by depth (segment i n a) = rw (changed_expression-lift by depth a)
changed_expression-lift by depth (equality a b) =
    rw (changed_expression-lift by depth a, changed_expression-lift by depth b)
changed_expression-lift by depth (selection c a b) =
    rw (changed_expression-lift by depth c, changed_expression-lift by depth a, changed_expression-lift by depth b)

pub changed_reaction-lift : (by depth : ℕ) (r : Reaction) → changed_reaction (lift by) depth r ≡ lifted_reaction r depth by
changed_reaction-lift by depth (returning e) = rw (changed_expression-lift by depth e)
changed_reaction-lift by depth (flipping w) = refl
changed_reaction-lift by depth (reading c) = refl
changed_reaction-lift by depth (branching e r s) =
    rw (changed_expression-lift by depth e, changed_reaction-lift by depth r, changed_reaction-lift by depth s)
changed_reaction-lift by depth (binding w r s) = rw (changed_reaction-lift by depth r, changed_reaction-lift by (suc depth) s)

pub ruleset lifted = (changed_expression-lift, changed_reaction-lift)

-- ---- a value stands for a variable

pub changed_expression-put : (v : Expression) (depth : ℕ) (e : Expression) → changed_expression (put v) depth e ≡ put_expression depth e v
changed_expression-put v depth (literal bits) = refl
changed_expression-put v depth (variable n) = refl
changed_expression-put v depth (outer n) = refl
changed_expression-put v depth (application f e) = rw (changed_expression-put v depth e)
changed_expression-put v depth (exclusive a b) = rw (changed_expression-put v depth a, changed_expression-put v depth b)
changed_expression-put v depth (conjunction a b) =
    rw (changed_expression-put v depth a, changed_expression-put v depth b)
changed_expression-put v depth (negation a) = rw (changed_expression-put v depth a)
changed_expression-put v depth (concatenation a b) =
    rw (changed_expression-put v depth a, changed_expression-put v depth b)
changed_expression-put v depth (segment i n a) = rw (changed_expression-put v depth a)
changed_expression-put v depth (equality a b) = rw (changed_expression-put v depth a, changed_expression-put v depth b)
changed_expression-put v depth (selection c a b) =
    rw (changed_expression-put v depth c, changed_expression-put v depth a, changed_expression-put v depth b)

pub changed_reaction-put : (v : Expression) (depth : ℕ) (r : Reaction) → changed_reaction (put v) depth r ≡ put_reaction depth r v
changed_reaction-put v depth (returning e) = rw (changed_expression-put v depth e)
changed_reaction-put v depth (flipping w) = refl
changed_reaction-put v depth (reading c) = refl
changed_reaction-put v depth (branching e r s) =
    rw (changed_expression-put v depth e, changed_reaction-put v depth r, changed_reaction-put v depth s)
changed_reaction-put v depth (binding w r s) = rw (changed_reaction-put v depth r, changed_reaction-put v (suc depth) s)

pub ruleset with_value = (changed_expression-put, changed_reaction-put)

-- ---- outer variables are settled

pub changed_expression-settle : (depth : ℕ) (e : Expression) → changed_expression settle depth e ≡ settled_expression depth e
changed_expression-settle depth (literal bits) = refl
changed_expression-settle depth (variable n) = refl
changed_expression-settle depth (outer n) = refl
changed_expression-settle depth (application f e) = rw (changed_expression-settle depth e)
changed_expression-settle depth (exclusive a b) =
    rw (changed_expression-settle depth a, changed_expression-settle depth b)
changed_expression-settle depth (conjunction a b) =
    rw (changed_expression-settle depth a, changed_expression-settle depth b)
changed_expression-settle depth (negation a) = rw (changed_expression-settle depth a)
changed_expression-settle depth (concatenation a b) =
    rw (changed_expression-settle depth a, changed_expression-settle depth b)
changed_expression-settle depth (segment i n a) = rw (changed_expression-settle depth a)
changed_expression-settle depth (equality a b) =
    rw (changed_expression-settle depth a, changed_expression-settle depth b)
changed_expression-settle depth (selection c a b) =
    rw (changed_expression-settle depth c, changed_expression-settle depth a, changed_expression-settle depth b)

pub changed_reaction-settle : (depth : ℕ) (r : Reaction) → changed_reaction settle depth r ≡ settled_reaction depth r
changed_reaction-settle depth (returning e) = rw (changed_expression-settle depth e)
changed_reaction-settle depth (flipping w) = refl
changed_reaction-settle depth (reading c) = refl
changed_reaction-settle depth (branching e r s) =
    rw (changed_expression-settle depth e, changed_reaction-settle depth r, changed_reaction-settle depth s)
changed_reaction-settle depth (binding w r s) = rw (changed_reaction-settle depth r, changed_reaction-settle (suc depth) s)

pub changed_protocol-settle : (depth : ℕ) (p : Protocol) → changed_protocol settle depth p ≡ settled_protocol depth p
changed_protocol-settle depth nil = refl
changed_protocol-settle depth (assignment c r) = rw (changed_reaction-settle depth r)
changed_protocol-settle depth (parallel p q) = rw (changed_protocol-settle depth p, changed_protocol-settle depth q)
changed_protocol-settle depth (hiding c w p) = rw (changed_protocol-settle depth p)

pub ruleset settled = (changed_expression-settle, changed_reaction-settle, changed_protocol-settle)
