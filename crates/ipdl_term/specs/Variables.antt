-- Variables: which occur, and what lifting, putting a value for variable 0, and settling the outer ones make of a term.
use Rattle.std.specs.Prelude.{ℕ, suc, ◌+◌, ◌-◌, Bool, true, false, ◌||◌, Option, Some, None, nat_eq, nat_lt, if◌then◌else◌}
use Rattle.ipdl_term.specs.Terms.{Expression, literal, variable, outer, application, exclusive, conjunction, negation, concatenation, segment, equality, selection, Reaction, returning, flipping, reading, branching, binding, Protocol, nil, assignment, parallel, hiding, Term, protocol_term, reaction_term, expression_term}

-- ---- what occurs

-- whether the variable of this number occurs
abbrev pub expression_uses : Expression → ℕ → Bool
expression_uses (literal bits) x = false
expression_uses (variable n) x = nat_eq n x
expression_uses (outer n) x = false
expression_uses (application f e) x = expression_uses e x
expression_uses (exclusive a b) x = expression_uses a x || expression_uses b x
expression_uses (conjunction a b) x = expression_uses a x || expression_uses b x
expression_uses (negation a) x = expression_uses a x
expression_uses (concatenation a b) x = expression_uses a x || expression_uses b x
expression_uses (segment i n a) x = expression_uses a x
expression_uses (equality a b) x = expression_uses a x || expression_uses b x
expression_uses (selection c a b) x = expression_uses c x || (expression_uses a x || expression_uses b x)

abbrev pub reaction_uses : Reaction → ℕ → Bool
reaction_uses (returning e) x = expression_uses e x
reaction_uses (flipping w) x = false
reaction_uses (reading c) x = false
reaction_uses (branching e r s) x = expression_uses e x || (reaction_uses r x || reaction_uses s x)
reaction_uses (binding w r s) x = reaction_uses r x || reaction_uses s (suc x)

-- whether a `flip` occurs, be it of no bits
abbrev pub has_flip : Reaction → Bool
has_flip (returning e) = false
has_flip (flipping w) = true
has_flip (reading c) = false
has_flip (branching e r s) = has_flip r || has_flip s
has_flip (binding w r s) = has_flip r || has_flip s

-- whether a `read` occurs
abbrev pub has_read : Reaction → Bool
has_read (returning e) = false
has_read (flipping w) = false
has_read (reading c) = true
has_read (branching e r s) = has_read r || has_read s
has_read (binding w r s) = has_read r || has_read s

-- ---- lifting: variables from a number on grow

abbrev pub lifted_number : ℕ → ℕ → ℕ → ℕ
lifted_number from by n = if nat_lt n from then n else (n + by)

abbrev pub lifted_expression : Expression → ℕ → ℕ → Expression
lifted_expression (literal bits) from by = literal bits
lifted_expression (variable n) from by = variable (lifted_number from by n)
lifted_expression (outer n) from by = outer n
lifted_expression (application f e) from by = application f (lifted_expression e from by)
lifted_expression (exclusive a b) from by = exclusive (lifted_expression a from by) (lifted_expression b from by)
lifted_expression (conjunction a b) from by = conjunction (lifted_expression a from by) (lifted_expression b from by)
lifted_expression (negation a) from by = negation (lifted_expression a from by)
lifted_expression (concatenation a b) from by = concatenation (lifted_expression a from by) (lifted_expression b from by)
lifted_expression (segment i n a) from by = segment i n (lifted_expression a from by)
lifted_expression (equality a b) from by = equality (lifted_expression a from by) (lifted_expression b from by)
lifted_expression (selection c a b) from by =
    selection (lifted_expression c from by) (lifted_expression a from by) (lifted_expression b from by)

-- under a binder the first variable that grows is one further
abbrev pub lifted_reaction : Reaction → ℕ → ℕ → Reaction
lifted_reaction (returning e) from by = returning (lifted_expression e from by)
lifted_reaction (flipping w) from by = flipping w
lifted_reaction (reading c) from by = reading c
lifted_reaction (branching e r s) from by =
    branching (lifted_expression e from by) (lifted_reaction r from by) (lifted_reaction s from by)
lifted_reaction (binding w r s) from by = binding w (lifted_reaction r from by) (lifted_reaction s (suc from) by)

-- ---- a value in the place of a variable

-- what stands for a variable under so many binders, where v stands for variable 0 outside of them
abbrev pub put_number : ℕ → Expression → ℕ → Expression
put_number depth v n =
    if nat_lt n depth then variable n else (if nat_eq n depth then lifted_expression v 0 depth else variable (n - 1))

abbrev pub put_expression : ℕ → Expression → Expression → Expression
put_expression depth (literal bits) v = literal bits
put_expression depth (variable n) v = put_number depth v n
put_expression depth (outer n) v = outer n
put_expression depth (application f e) v = application f (put_expression depth e v)
put_expression depth (exclusive a b) v = exclusive (put_expression depth a v) (put_expression depth b v)
put_expression depth (conjunction a b) v = conjunction (put_expression depth a v) (put_expression depth b v)
put_expression depth (negation a) v = negation (put_expression depth a v)
put_expression depth (concatenation a b) v = concatenation (put_expression depth a v) (put_expression depth b v)
put_expression depth (segment i n a) v = segment i n (put_expression depth a v)
put_expression depth (equality a b) v = equality (put_expression depth a v) (put_expression depth b v)
put_expression depth (selection c a b) v =
    selection (put_expression depth c v) (put_expression depth a v) (put_expression depth b v)

abbrev pub put_reaction : ℕ → Reaction → Expression → Reaction
put_reaction depth (returning e) v = returning (put_expression depth e v)
put_reaction depth (flipping w) v = flipping w
put_reaction depth (reading c) v = reading c
put_reaction depth (branching e r s) v =
    branching (put_expression depth e v) (put_reaction depth r v) (put_reaction depth s v)
put_reaction depth (binding w r s) v = binding w (put_reaction depth r v) (put_reaction (suc depth) s v)

-- ---- outer variables

-- the variable of the binder of depth n, counted from the outermost one, where there are so many binders in all
abbrev pub settled_number : ℕ → ℕ → Expression
settled_number binders n = variable (binders - 1 - n)

abbrev pub settled_expression : ℕ → Expression → Expression
settled_expression binders (literal bits) = literal bits
settled_expression binders (variable n) = variable n
settled_expression binders (outer n) = settled_number binders n
settled_expression binders (application f e) = application f (settled_expression binders e)
settled_expression binders (exclusive a b) = exclusive (settled_expression binders a) (settled_expression binders b)
settled_expression binders (conjunction a b) = conjunction (settled_expression binders a) (settled_expression binders b)
settled_expression binders (negation a) = negation (settled_expression binders a)
settled_expression binders (concatenation a b) = concatenation (settled_expression binders a) (settled_expression binders b)
settled_expression binders (segment i n a) = segment i n (settled_expression binders a)
settled_expression binders (equality a b) = equality (settled_expression binders a) (settled_expression binders b)
settled_expression binders (selection c a b) =
    selection (settled_expression binders c) (settled_expression binders a) (settled_expression binders b)

abbrev pub settled_reaction : ℕ → Reaction → Reaction
settled_reaction binders (returning e) = returning (settled_expression binders e)
settled_reaction binders (flipping w) = flipping w
settled_reaction binders (reading c) = reading c
settled_reaction binders (branching e r s) =
    branching (settled_expression binders e) (settled_reaction binders r) (settled_reaction binders s)
settled_reaction binders (binding w r s) = binding w (settled_reaction binders r) (settled_reaction (suc binders) s)

abbrev pub settled_protocol : ℕ → Protocol → Protocol
settled_protocol binders nil = nil
settled_protocol binders (assignment c r) = assignment c (settled_reaction binders r)
settled_protocol binders (parallel p q) = parallel (settled_protocol binders p) (settled_protocol binders q)
settled_protocol binders (hiding c w p) = hiding c w (settled_protocol binders p)

-- each outer variable n, under j binders of the term, is the variable depth + j - 1 - n
abbrev pub settled_term : ℕ → Term → Term
settled_term depth (protocol_term p) = protocol_term (settled_protocol depth p)
settled_term depth (reaction_term r) = reaction_term (settled_reaction depth r)
settled_term depth (expression_term e) = expression_term (settled_expression depth e)

-- the first of two numbers that is there
abbrev pub first_number : Option ℕ → Option ℕ → Option ℕ
first_number None n = n
first_number (Some m) n = Some m

-- the first outer variable in preorder that is not below the depth
abbrev pub unsettled_in_expression : ℕ → Expression → Option ℕ
unsettled_in_expression depth (literal bits) = None
unsettled_in_expression depth (variable n) = None
unsettled_in_expression depth (outer n) = if nat_lt n depth then None else Some n
unsettled_in_expression depth (application f e) = unsettled_in_expression depth e
unsettled_in_expression depth (exclusive a b) = first_number (unsettled_in_expression depth a) (unsettled_in_expression depth b)
unsettled_in_expression depth (conjunction a b) = first_number (unsettled_in_expression depth a) (unsettled_in_expression depth b)
unsettled_in_expression depth (negation a) = unsettled_in_expression depth a
unsettled_in_expression depth (concatenation a b) = first_number (unsettled_in_expression depth a) (unsettled_in_expression depth b)
unsettled_in_expression depth (segment i n a) = unsettled_in_expression depth a
unsettled_in_expression depth (equality a b) = first_number (unsettled_in_expression depth a) (unsettled_in_expression depth b)
unsettled_in_expression depth (selection c a b) =
    first_number (unsettled_in_expression depth c) (first_number (unsettled_in_expression depth a) (unsettled_in_expression depth b))

abbrev pub unsettled_in_reaction : ℕ → Reaction → Option ℕ
unsettled_in_reaction depth (returning e) = unsettled_in_expression depth e
unsettled_in_reaction depth (flipping w) = None
unsettled_in_reaction depth (reading c) = None
unsettled_in_reaction depth (branching e r s) =
    first_number (unsettled_in_expression depth e) (first_number (unsettled_in_reaction depth r) (unsettled_in_reaction depth s))
unsettled_in_reaction depth (binding w r s) = first_number (unsettled_in_reaction depth r) (unsettled_in_reaction depth s)

abbrev pub unsettled_in_protocol : ℕ → Protocol → Option ℕ
unsettled_in_protocol depth nil = None
unsettled_in_protocol depth (assignment c r) = unsettled_in_reaction depth r
unsettled_in_protocol depth (parallel p q) = first_number (unsettled_in_protocol depth p) (unsettled_in_protocol depth q)
unsettled_in_protocol depth (hiding c w p) = unsettled_in_protocol depth p

abbrev pub unsettled_number : ℕ → Term → Option ℕ
unsettled_number depth (protocol_term p) = unsettled_in_protocol depth p
unsettled_number depth (reaction_term r) = unsettled_in_reaction depth r
unsettled_number depth (expression_term e) = unsettled_in_expression depth e
