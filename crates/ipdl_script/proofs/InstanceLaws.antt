-- Instances at places: where the answer gives them, of which kinds their sides are, and that they are equal.
use Rattle.std.proofs.Common.{◌≡◌, ℕ, zero, nat_le, Bool, true, false, List, [], ◌∷◌, length, Some, None, refl, sym, ap, ◌∙◌, subst, inl, inr}
use Rattle.std.proofs.lemmas.Bool.{leb-true, le-leb}
use Rattle.std.specs.Prelude.{◌↔◌, ◌⊎◌, Option, if◌then◌else◌}
use Rattle.ipdl_laws.proofs.Sets.{if-true}
use Rattle.ipdl_norm.proofs.ShapeMeanings.{shaped_at_place}
use Rattle.ipdl_norm.proofs.TidyMeanings.{tidied_at_place}
use Rattle.ipdl_norm.specs.Repeated.{first_repeated_name}
use Rattle.ipdl_norm.specs.Shaped.{shaped}
use Rattle.ipdl_norm.specs.Tidied.{tidied}
use Rattle.ipdl_rules_p.proofs.InstanceLaws.{instance_answers as protocol_answers, answer_is_instance as answer_is_protocol_instance}
use Rattle.ipdl_rules_p.proofs.InstanceMeanings.{instance_at_place, typed_instance_at_place as typed_protocols_at_place}
use Rattle.ipdl_rules_p.specs.Instances.{IsProtocolInstance, KeepsTypes}
use Rattle.ipdl_rules_p.specs.Matching as P
use Rattle.ipdl_rules_r.proofs.ExpressionMeanings.{expression_instance_at_place}
use Rattle.ipdl_rules_r.proofs.FormAnswers.{forms_exactly}
use Rattle.ipdl_rules_r.proofs.InstanceLaws.{instance_answers as reaction_answers, answer_is_instance as answer_is_reaction_instance}
use Rattle.ipdl_rules_r.proofs.InstanceMeanings.{typed_instance_at_place as typed_reactions_at_place}
use Rattle.ipdl_rules_r.proofs.TruthRefusals.{truth_exactly}
use Rattle.ipdl_rules_r.specs.Expressions.{IsExpressionInstance, pair_at, question_at}
use Rattle.ipdl_rules_r.specs.Instances.{IsReactionInstance}
use Rattle.ipdl_rules_r.specs.Matching as Q
use Rattle.ipdl_rules_r.specs.Tables.{TablesAreWhole}
use Rattle.ipdl_script.specs.Instances.{IsInstanceAt, Answer, failing, gives, answer_of_protocols, answer_of_reactions, shape_answer, protocol_answer, reaction_answer, expression_answer, answer_at, truth_at}
use Rattle.ipdl_script.specs.NormalForms.{IsShaping, IsTidying}
use Rattle.ipdl_script.specs.Settling.{settled_rule}
use Rattle.ipdl_script.specs.Steps.{is_reversible, is_of_kind}
use Rattle.ipdl_script.specs.TestGroups.{keeps_type}
use Rattle.ipdl_term.specs.Equality.{Equal}
use Rattle.ipdl_term.specs.Interpretations.{Signature}
use Rattle.ipdl_term.specs.Places.{protocol_or, AreOfOneKind, term_at, term_with}
use Rattle.ipdl_term.specs.Rules.{Rule, RuleKind, at_reactions, at_expressions, at_protocols, row_of}
use Rattle.ipdl_term.specs.Rules as R
use Rattle.ipdl_term.specs.Surroundings.{Surroundings, Condition, outermost, around}
use Rattle.ipdl_term.specs.Terms.{Channel, Expression, literal, variable, Reaction, returning, flipping, reading, branching, binding, Protocol, nil, assignment, parallel, hiding, Term, protocol_term, reaction_term, expression_term}
use Rattle.ipdl_term.specs.Typing.{Scope, Typed}

-- ---- answers

-- the right side of an answer that has one
abbrev right_or : Term → Answer → Term
right_or t (gives right) = right
right_or t _ = t

-- a right side that is given is that of the answer
pub given_right : (new right : Term) → gives new ≡ gives right → new ≡ right
given_right new right h = ap (right_or right) h

-- a right side that is given comes from one of the rules for protocols
given_protocol : (answer : P.Answer) (right : Term) → answer_of_protocols answer ≡ gives right → (q : Protocol) × (answer ≡ P.gives q) × (right ≡ protocol_term q)
given_protocol P.other_shape right h = cc
given_protocol (P.failing number) right h = cc
given_protocol (P.gives q) right h = (q, refl, sym (ap (right_or right) h))

-- or from one of the rules for reactions
given_reaction : (answer : Q.Answer) (right : Term) → answer_of_reactions answer ≡ gives right → (r : Reaction) × (answer ≡ Q.gives r) × (right ≡ reaction_term r)
given_reaction Q.other_shape right h = cc
given_reaction (Q.failing number) right h = cc
given_reaction (Q.gives r) right h = (r, refl, sym (ap (right_or right) h))

-- `shape` gives the shape, where no name repeats
given_shape : (repeated : Option Channel) (left : Protocol) (right : Term) → shape_answer repeated left ≡ gives right → (repeated ≡ None) × (right ≡ protocol_term (shaped left))
given_shape None left right h = (refl, sym (ap (right_or right) h))
given_shape (Some c) left right h = cc

shape_answer-none : (repeated : Option Channel) (left : Protocol) → repeated ≡ None → shape_answer repeated left ≡ gives (protocol_term (shaped left))
shape_answer-none repeated left none = rw none refl

-- what is given at a protocol comes from one of the rules for protocols, or is the shape
pub given_at_protocol : (rule : Rule) (left : Protocol) (right : Term) → protocol_answer rule left ≡ gives right →
    (q : Protocol) × (right ≡ protocol_term q) × (IsProtocolInstance rule left q ⊎ IsShaping rule left q)
given_at_protocol R.shape left right h =
    let given = given_shape (first_repeated_name left) left right h in (shaped left, given.1, inr (given.0, refl))
given_at_protocol rule left right h =
    let given = given_protocol (P.answer rule left) right h in (given.0, given.2, inl (answer_is_protocol_instance rule left given.0 given.1))

-- what is given at a reaction comes from one of the rules for reactions, or is the tidy form
pub given_at_reaction : (sig : Signature) (rule : Rule) (left : Reaction) (right : Term) → reaction_answer sig rule left ≡ gives right →
    (r : Reaction) × (right ≡ reaction_term r) × (IsReactionInstance sig rule left r ⊎ IsTidying rule left r)
given_at_reaction sig R.tidy left right h = (tidied left, sym (ap (right_or right) h), inr refl)
given_at_reaction sig rule left right h =
    let given = given_reaction (Q.answer sig rule left) right h in (given.0, given.2, inl (answer_is_reaction_instance sig rule left given.0 given.1))

protocol_instance_answers : (rule : Rule) (left right : Protocol) → IsProtocolInstance rule left right → protocol_answer rule left ≡ gives (protocol_term right)
protocol_instance_answers R.shape left right h = absurd h
protocol_instance_answers rule left right h = ap answer_of_protocols (protocol_answers rule left right h)

shaping_answers : (rule : Rule) (left right : Protocol) → IsShaping rule left right → protocol_answer rule left ≡ gives (protocol_term right)
shaping_answers R.shape left right h = shape_answer-none (first_repeated_name left) left h.0 ∙ ap (λ p. gives (protocol_term p)) (sym h.1)
shaping_answers _ left right h = absurd h

reaction_instance_answers : (sig : Signature) (rule : Rule) (left right : Reaction) → IsReactionInstance sig rule left right → reaction_answer sig rule left ≡ gives (reaction_term right)
reaction_instance_answers sig R.tidy left right h = absurd h
reaction_instance_answers sig rule left right h = ap answer_of_reactions (reaction_answers sig rule left right h)

tidying_answers : (sig : Signature) (rule : Rule) (left right : Reaction) → IsTidying rule left right → reaction_answer sig rule left ≡ gives (reaction_term right)
tidying_answers sig R.tidy left right h = ap (λ r. gives (reaction_term r)) (sym h)
tidying_answers sig _ left right h = absurd h

-- or it is the expression of the rule, and there are so many conditions
pub given_expression : (b : Bool) (e right : Term) → (if b then gives e else failing 1) ≡ gives right → (b ≡ true) × (right ≡ e)
given_expression true e right h = (refl, sym (ap (right_or right) h))
given_expression false e right h = cc

module _ (sig : Signature) (s : Surroundings) where
  pub instance_answers : (rule : Rule) (left right : Term) → IsInstanceAt sig s rule left right → answer_at sig s rule left ≡ gives right
  instance_answers rule (protocol_term left) (protocol_term right) (inl h) = protocol_instance_answers rule left right h
  instance_answers rule (protocol_term left) (protocol_term right) (inr h) = shaping_answers rule left right h
  instance_answers rule (reaction_term left) (reaction_term right) (inl h) = reaction_instance_answers sig rule left right h
  instance_answers rule (reaction_term left) (reaction_term right) (inr h) = tidying_answers sig rule left right h
  instance_answers rule (expression_term left) (expression_term right) h = expression_answers rule left right h
    where
      expression_answers : (rule : Rule) (left right : Expression) → IsExpressionInstance sig s.widths s.conditions rule left right → expression_answer s.conditions rule ≡ gives (expression_term right)
      expression_answers (R.table k e) left right h =
          if-true (nat_le k (length s.conditions)) (gives (expression_term e)) (failing 1) (le-leb k (length s.conditions) h.0) ∙ ap (λ x. gives (expression_term x)) (sym h.2)
      expression_answers (R.lin e) left right h = ap (λ x. gives (expression_term x)) (sym h.1)
      expression_answers _ left right h = absurd h
  instance_answers _ _ _ h = absurd h

  -- the rules for other terms ask for no truth
  pub protocol_is_true : (rule : Rule) (left : Protocol) → truth_at sig s rule (protocol_term left) ≡ None
  protocol_is_true (R.table k e) left = refl
  protocol_is_true (R.lin e) left = refl
  protocol_is_true _ left = refl

  pub reaction_is_true : (rule : Rule) (left : Reaction) → truth_at sig s rule (reaction_term left) ≡ None
  reaction_is_true (R.table k e) left = refl
  reaction_is_true (R.lin e) left = refl
  reaction_is_true _ left = refl

  -- nor do those that have a step back
  pub reversible_is_true : (rule : Rule) (left : Term) → is_reversible (row_of rule).kind ≡ true → truth_at sig s rule left ≡ None
  reversible_is_true (R.table k e) left h = cc
  reversible_is_true (R.lin e) left h = cc
  reversible_is_true _ left h = refl

  pub instance_is_true : (rule : Rule) (left right : Term) → IsInstanceAt sig s rule left right → truth_at sig s rule left ≡ None
  instance_is_true rule (protocol_term left) (protocol_term right) h = protocol_is_true rule left
  instance_is_true rule (reaction_term left) (reaction_term right) h = reaction_is_true rule left
  instance_is_true rule (expression_term left) (expression_term right) h = expression_is_true rule left right h
    where
      expression_is_true : (rule : Rule) (left right : Expression) → IsExpressionInstance sig s.widths s.conditions rule left right → truth_at sig s rule (expression_term left) ≡ None
      expression_is_true (R.table k e) left right h = (truth_exactly (question_at sig s.widths s.conditions k left e)).0 h.1
      expression_is_true (R.lin e) left right h = (forms_exactly (pair_at sig s.widths left e)).0 h.0
      expression_is_true _ left right h = absurd h
  instance_is_true _ _ _ h = absurd h

  pub answer_is_instance : (rule : Rule) (left right : Term) → answer_at sig s rule left ≡ gives right → truth_at sig s rule left ≡ None → IsInstanceAt sig s rule left right
  answer_is_instance rule (protocol_term left) right h told =
      let given = given_at_protocol rule left right h in subst (IsInstanceAt sig s rule (protocol_term left)) (sym given.1) given.2
  answer_is_instance rule (reaction_term left) right h told =
      let given = given_at_reaction sig rule left right h in subst (IsInstanceAt sig s rule (reaction_term left)) (sym given.1) given.2
  answer_is_instance (R.table k e) (expression_term left) right h told =
      let given = given_expression (nat_le k (length s.conditions)) (expression_term e) right h in
      subst (IsInstanceAt sig s (R.table k e) (expression_term left)) (sym given.1)
      (leb-true k (length s.conditions) given.0, (truth_exactly (question_at sig s.widths s.conditions k left e)).1 told, refl)
  answer_is_instance (R.lin e) (expression_term left) right h told =
      subst (IsInstanceAt sig s (R.lin e) (expression_term left)) (ap (right_or right) h) ((forms_exactly (pair_at sig s.widths left e)).1 told, refl)
  answer_is_instance _ (expression_term left) right h told = cc

  pub instance_exactly : (rule : Rule) (left right : Term) → IsInstanceAt sig s rule left right ↔ ((answer_at sig s rule left ≡ gives right) × (truth_at sig s rule left ≡ None))
  instance_exactly rule left right =
      (λ h. (instance_answers rule left right h, instance_is_true rule left right h), λ h. answer_is_instance rule left right h.0 h.1)

-- ---- kinds

protocol_rule : (rule : Rule) (left right : Protocol) → IsProtocolInstance rule left right → (row_of rule).kind ≡ at_protocols
protocol_rule R.comm (parallel p q) right h = refl
protocol_rule R.assocl (parallel p (parallel q r)) right h = refl
protocol_rule R.assocr (parallel (parallel p q) r) right h = refl
protocol_rule R.unit (parallel p nil) right h = refl
protocol_rule R.newswap (hiding c v (hiding d w p)) right h = refl
protocol_rule R.scope (parallel p (hiding c w q)) right h = refl
protocol_rule (R.rename d) (hiding c w p) right h = refl
protocol_rule R.absorb (parallel p q) right h = refl
protocol_rule (R.fold place) (hiding c w (parallel (assignment o k) (assignment d r))) right h = refl
protocol_rule (R.subst place) (parallel (assignment a r) (assignment b k)) right h = refl
protocol_rule R.drop (parallel (assignment a r) (assignment b (binding w (reading e) s))) right h = refl
protocol_rule (R.subsume c w) (parallel (assignment a r) (assignment b s)) right h = refl
protocol_rule R.diverge (assignment a r) right h = refl
protocol_rule _ _ _ h = absurd h

shaping_rule : (rule : Rule) (left right : Protocol) → IsShaping rule left right → (row_of rule).kind ≡ at_protocols
shaping_rule R.shape left right h = refl
shaping_rule _ left right h = absurd h

tidying_rule : (rule : Rule) (left right : Reaction) → IsTidying rule left right → (row_of rule).kind ≡ at_reactions
tidying_rule R.tidy left right h = refl
tidying_rule _ left right h = absurd h

reaction_rule : (sig : Signature) (rule : Rule) (left right : Reaction) → IsReactionInstance sig rule left right → (row_of rule).kind ≡ at_reactions
reaction_rule sig R.beta (binding w (returning e) s) right h = refl
reaction_rule sig R.eta (binding w r (returning (variable zero))) right h = refl
reaction_rule sig R.assoc (binding w (binding v r s) t) right h = refl
reaction_rule sig R.swap (binding v r (binding w s t)) right h = refl
reaction_rule sig R.dropr (binding w r s) right h = refl
reaction_rule sig R.again (binding v r (binding w q t)) right h = refl
reaction_rule sig R.iftrue (branching (literal (true ∷ [])) r s) right h = refl
reaction_rule sig R.iffalse (branching (literal (false ∷ [])) r s) right h = refl
reaction_rule sig R.ifsame (branching e r s) right h = refl
reaction_rule sig R.ifbind (binding w (branching e r s) t) right h = refl
reaction_rule sig (R.mask e) (binding w (flipping v) s) right h = refl
reaction_rule sig (R.perm f) (binding w (flipping v) s) right h = refl
reaction_rule sig R.join (binding v (flipping n) (binding w (flipping m) s)) right h = refl
reaction_rule sig R.flip0 (flipping zero) right h = refl
reaction_rule _ _ _ _ h = absurd h

expression_rule : (sig : Signature) (widths : List ℕ) (conditions : List Condition) (rule : Rule) (left right : Expression) → IsExpressionInstance sig widths conditions rule left right → (row_of rule).kind ≡ at_expressions
expression_rule sig widths conditions (R.table k e) left right h = refl
expression_rule sig widths conditions (R.lin e) left right h = refl
expression_rule sig widths conditions _ left right h = absurd h

-- both sides are of the kind of the rule
pub instance_kinds : (sig : Signature) (s : Surroundings) (rule : Rule) (left right : Term) → IsInstanceAt sig s rule left right →
    (is_of_kind (row_of rule).kind left ≡ true) × (is_of_kind (row_of rule).kind right ≡ true)
instance_kinds sig s rule (protocol_term left) (protocol_term right) (inl h) = rw (protocol_rule rule left right h) (refl, refl)
instance_kinds sig s rule (protocol_term left) (protocol_term right) (inr h) = rw (shaping_rule rule left right h) (refl, refl)
instance_kinds sig s rule (reaction_term left) (reaction_term right) (inl h) = rw (reaction_rule sig rule left right h) (refl, refl)
instance_kinds sig s rule (reaction_term left) (reaction_term right) (inr h) = rw (tidying_rule rule left right h) (refl, refl)
instance_kinds sig s rule (expression_term left) (expression_term right) h = rw (expression_rule sig s.widths s.conditions rule left right h) (refl, refl)
instance_kinds _ _ _ _ _ h = absurd h

-- two terms of one kind
pub one_kind : (kind : RuleKind) (a b : Term) → is_of_kind kind a ≡ true → is_of_kind kind b ≡ true → AreOfOneKind a b
one_kind at_protocols (protocol_term p) (protocol_term q) h k = tt
one_kind at_reactions (reaction_term r) (reaction_term s) h k = tt
one_kind at_expressions (expression_term e) (expression_term f) h k = tt
one_kind _ _ _ h k = cc

-- a term of the kind of protocols is one
pub protocol_is : (p : Protocol) (t : Term) → AreOfOneKind (protocol_term p) t → t ≡ protocol_term (protocol_or p t)
protocol_is p (protocol_term q) h = refl
protocol_is p _ h = absurd h

-- ---- rules that keep the type

keeping_keeps : (rule : Rule) → keeps_type rule ≡ true → KeepsTypes rule
keeping_keeps (R.subsume c w) h = cc
keeping_keeps _ h = tt

keeping_kind : (rule : Rule) → keeps_type rule ≡ true → (row_of rule).kind ≡ at_protocols
keeping_kind (R.subsume c w) h = cc
keeping_kind rule h = by_kind (row_of rule).kind h
  where
    by_kind : (kind : RuleKind) → is_of_kind kind (protocol_term nil) ≡ true → kind ≡ at_protocols
    by_kind at_protocols h = refl
    by_kind _ h = cc

pub keeps_type-settled : (depth : ℕ) (rule : Rule) → keeps_type rule ≡ true → keeps_type (settled_rule depth rule) ≡ true
keeps_type-settled depth (R.mask e) h = h
keeps_type-settled depth (R.table k e) h = h
keeps_type-settled depth (R.lin e) h = h
keeps_type-settled depth rule h = h

pub keeping_is_true : (sig : Signature) (s : Surroundings) (rule : Rule) (left : Term) → keeps_type rule ≡ true → truth_at sig s rule left ≡ None
keeping_is_true sig s rule left h =
    reversible_is_true sig s rule left (subst (λ kind. is_reversible kind ≡ true) (sym (keeping_kind rule h)) refl)

-- ---- equality

module _ (sig : Signature) (scope : Scope) (written : List Channel) (p q : Protocol) (place : List ℕ) where
  shaping_is_equal : (rule : Rule) (left right : Protocol) → Typed sig scope p written →
      term_at (protocol_term p) place ≡ Some (protocol_term left) → term_with (protocol_term p) place (protocol_term right) ≡ protocol_term q →
      IsShaping rule left right → Equal sig scope written p q
  shaping_is_equal R.shape left right typed at with h =
      shaped_at_place sig scope written p q place left typed at (subst (λ x. term_with (protocol_term p) place (protocol_term x) ≡ protocol_term q) h.1 with) h.0
  shaping_is_equal _ left right typed at with h = absurd h

  tidying_is_equal : (rule : Rule) (left right : Reaction) → Typed sig scope p written →
      term_at (protocol_term p) place ≡ Some (reaction_term left) → term_with (protocol_term p) place (reaction_term right) ≡ protocol_term q →
      IsTidying rule left right → Equal sig scope written p q
  tidying_is_equal R.tidy left right typed at with h =
      tidied_at_place sig scope written p q place left typed at (subst (λ x. term_with (protocol_term p) place (reaction_term x) ≡ protocol_term q) h with)
  tidying_is_equal _ left right typed at with h = absurd h

  pub instance_is_equal : TablesAreWhole sig → (rule : Rule) (left right : Term) → Typed sig scope p written → Typed sig scope q written →
      term_at (protocol_term p) place ≡ Some left → term_with (protocol_term p) place right ≡ protocol_term q →
      IsInstanceAt sig (around (outermost scope) (protocol_term p) place) rule left right → Equal sig scope written p q
  instance_is_equal tables rule (protocol_term left) (protocol_term right) typed typed' at with (inl inst) =
      typed_protocols_at_place sig scope written p q place rule left right typed at with typed' inst
  instance_is_equal tables rule (protocol_term left) (protocol_term right) typed typed' at with (inr inst) =
      shaping_is_equal rule left right typed at with inst
  instance_is_equal tables rule (reaction_term left) (reaction_term right) typed typed' at with (inl inst) =
      typed_reactions_at_place sig tables scope written p q place rule left right typed typed' at with inst
  instance_is_equal tables rule (reaction_term left) (reaction_term right) typed typed' at with (inr inst) =
      tidying_is_equal rule left right typed at with inst
  instance_is_equal tables rule (expression_term left) (expression_term right) typed typed' at with inst =
      expression_instance_at_place sig scope written p q place rule left right typed typed' at with inst
  instance_is_equal tables rule _ _ typed typed' at with inst = absurd inst

  -- by a rule that keeps the type, the new whole is typed
  pub keeping_is_equal : (rule : Rule) (left right : Term) → keeps_type rule ≡ true → Typed sig scope p written →
      term_at (protocol_term p) place ≡ Some left → term_with (protocol_term p) place right ≡ protocol_term q →
      IsInstanceAt sig (around (outermost scope) (protocol_term p) place) rule left right → Equal sig scope written p q
  keeping_is_equal rule (protocol_term left) (protocol_term right) keeps typed at with (inl inst) =
      instance_at_place sig scope written p q place rule left right typed at with (keeping_keeps rule keeps) inst
  keeping_is_equal rule (protocol_term left) (protocol_term right) keeps typed at with (inr inst) =
      shaping_is_equal rule left right typed at with inst
  keeping_is_equal rule (reaction_term left) (reaction_term right) keeps typed at with inst =
      let s = around (outermost scope) (protocol_term p) place in
      let other : is_of_kind at_protocols (reaction_term left) ≡ true = subst (λ kind. is_of_kind kind (reaction_term left) ≡ true) (keeping_kind rule keeps) (instance_kinds sig s rule (reaction_term left) (reaction_term right) inst).0 in
      cc
  keeping_is_equal rule (expression_term left) (expression_term right) keeps typed at with inst =
      let s = around (outermost scope) (protocol_term p) place in
      let other : is_of_kind at_protocols (expression_term left) ≡ true = subst (λ kind. is_of_kind kind (expression_term left) ≡ true) (keeping_kind rule keeps) (instance_kinds sig s rule (expression_term left) (expression_term right) inst).0 in
      cc
  keeping_is_equal rule _ _ keeps typed at with inst = absurd inst
