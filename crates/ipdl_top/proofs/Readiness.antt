-- The theorems of a document that is spelled within the limits and typed are ready to be checked.
use Rattle.std.proofs.Common.{◌≡◌, ℕ, zero, suc, ◌≤◌, List, [], ◌∷◌, map, length, Option, Some, None, refl, sym, ap, subst, ◌∙◌}
use Rattle.std.specs.Prelude.{◌++◌, All, option_map, slice_get}
use Rattle.std.specs.List.{AllByRecursion}
use Rattle.std.proofs.lemmas.List.{length-map}
use Rattle.std.proofs.lemmas.List.Elements.{All-from_recursion}
use Rattle.std.proofs.lemmas.Option.{same_Some, slice_get-map}
use Rattle.ipdl_base.specs.Limits.{limit_number}
use Rattle.ipdl_base.specs.declared.limit.Limit.TheVariants.{Chain as ChainLimit}
use Rattle.ipdl_forms.specs.Documents.{Entry, symbol_entry, protocol_entry, assumption_entry, theorem_entry, entry_of, document_of}
use Rattle.ipdl_forms.specs.Items.{SpellsDocument, AreEntries, nothing_earlier, earlier_with}
use Rattle.ipdl_forms.specs.Limits.{IsStepWithin, IsEntryWithin, IsWithinLimits}
use Rattle.ipdl_forms.specs.Lists.{operand, operands}
use Rattle.ipdl_forms.specs.Lookups.{protocol_named}
use Rattle.ipdl_forms.specs.Scopes.{NameScope}
use Rattle.ipdl_forms.specs.Expressions.{SpellsExpression}
use Rattle.ipdl_forms.specs.Steps.{Earlier, step_scope, SpellsTerm, SpellsArguments, SpellsRule, SpellsStep, AreSteps}
use Rattle.ipdl_forms.specs.declared.document.Document.{Document as Held}
use Rattle.ipdl_forms.specs.declared.document.Item.{Item}
use Rattle.ipdl_forms.specs.declared.document.Item.TheVariants as I
use Rattle.ipdl_forms.specs.declared.document.ProtocolItem.{ProtocolItem}
use Rattle.ipdl_forms.specs.declared.document.TheoremItem.{TheoremItem}
use Rattle.ipdl_script.proofs.Fits.{argument_has_room, term_has_room}
use Rattle.ipdl_script.specs.Fitting.{StepFits, AreArgumentsWithin, IsTermWithin}
use Rattle.ipdl_script.specs.Ready.{neighbours_in, IsReady}
use Rattle.ipdl_script.specs.declared.theorem.Book.{Book}
use Rattle.ipdl_sig.specs.declared.symbol.Symbol.{Symbol}
use Rattle.ipdl_term.specs.Rules.{Rule, RuleKind, at_reactions, at_expressions, at_protocols, row_of, Argument, expression_argument, symbol_argument, number_argument, name_argument, path_argument, width_argument, rule_arguments}
use Rattle.ipdl_term.specs.Steps.{Step, plain, rev, invoke, step_of}
use Rattle.ipdl_term.specs.Terms.{Expression, Term, protocol_term, reaction_term, expression_term}
use Rattle.ipdl_term.specs.Views.{protocol_of}
use Rattle.ipdl_term.proofs.WithinLemmas.{IsProtocolWithin-typed}
use Rattle.ipdl_term.specs.Typing.{scope_of}
use Rattle.ipdl_term.specs.Within.{IsExpressionWithin, IsReactionWithin, IsProtocolWithin}
use Rattle.ipdl_term.specs.declared.step.Step.{Step as HeldStep}
use Rattle.ipdl_tree.specs.Trees.{Located, Forest, no_trees, tree}
use Rattle.ipdl_typing.specs.Signatures.{signature_of, symbol_of}
use Rattle.ipdl_uses.specs.Views.{IsKept}
use Rattle.ipdl_top.proofs.Fitting.{IsFitNetwork, AreFitNetworks, IsFitNetwork-named, AreFitNetworks-spelled, HasInterface-across}
use Rattle.ipdl_top.proofs.Named.{IsThere, HasSides, HaveSides, HaveSides-spelled}
use Rattle.ipdl_forms.proofs.Networks.{network_named-found}
use Rattle.ipdl_top.proofs.Spelled.{IsExpressionWithin-spelled, IsReactionWithin-spelled, IsProtocolWithin-spelled}
use Rattle.ipdl_top.specs.Books.{IsReadyItem}
use Rattle.ipdl_forms.specs.Networks.{Network, network_named, network_of}
use Rattle.ipdl_top.specs.Typed.{HaveSamePorts, IsTypedItem, AreTyped, IsTypedDocument}

-- ---- steps

term_within : (scope : NameScope) (kind : RuleKind) (term : Term) (t : Located) → scope.binders ≡ [] → SpellsTerm scope kind term t → IsTermWithin (length scope.symbols) term
term_within scope at_protocols (protocol_term p) t none spells = IsProtocolWithin-spelled scope p t none spells
term_within scope at_protocols (reaction_term r) t none spells = absurd spells
term_within scope at_protocols (expression_term e) t none spells = absurd spells
term_within scope at_reactions (protocol_term p) t none spells = absurd spells
term_within scope at_reactions (reaction_term r) t none spells =
    subst (λ (binders : List (List ℕ)). IsReactionWithin (length scope.symbols) (length binders) r) none
    (IsReactionWithin-spelled scope r t spells)
term_within scope at_reactions (expression_term e) t none spells = absurd spells
term_within scope at_expressions term t none spells = absurd spells

expression_within : (scope : NameScope) (e : Expression) (t : Located) → scope.binders ≡ [] → SpellsExpression scope e t → IsExpressionWithin (length scope.symbols) 0 e
expression_within scope e t none spells =
    subst (λ (binders : List (List ℕ)). IsExpressionWithin (length scope.symbols) (length binders) e) none
    (IsExpressionWithin-spelled scope e t spells)

arguments_within : (scope : NameScope) (arguments : List Argument) (ts : Forest) → scope.binders ≡ [] → SpellsArguments scope arguments ts → AreArgumentsWithin (length scope.symbols) arguments
arguments_within scope [] ts none spells = tt
arguments_within scope (a ∷ more) no_trees none spells = absurd spells
arguments_within scope (expression_argument binders e ∷ more) (tree t ts) none spells =
    (expression_within scope e t none spells.0, arguments_within scope more ts none spells.1)
arguments_within scope (symbol_argument f ∷ more) (tree t ts) none spells = arguments_within scope more ts none spells.1
arguments_within scope (number_argument k ∷ more) (tree t ts) none spells = arguments_within scope more ts none spells.1
arguments_within scope (name_argument c ∷ more) (tree t ts) none spells = arguments_within scope more ts none spells.1
arguments_within scope (path_argument path ∷ more) (tree t ts) none spells = arguments_within scope more ts none spells.1
arguments_within scope (width_argument w ∷ more) (tree t ts) none spells = arguments_within scope more ts none spells.1

rule_within : (earlier : Earlier) (place : List ℕ) (rule : Rule) (t : Located) → SpellsRule (step_scope earlier) place rule t → AreArgumentsWithin (length earlier.symbols) (rule_arguments rule)
rule_within earlier place rule t spells = arguments_within (step_scope earlier) (rule_arguments rule) _ refl spells.2

step_fits : (earlier : Earlier) (step : Step) (t : Located) → SpellsStep earlier step t → IsStepWithin step → StepFits step
step_fits earlier (plain place rule) t spells within =
    argument_has_room (length earlier.symbols) rule (rule_within earlier place rule t spells)
step_fits earlier (rev place rule term) t spells within =
    term_has_room (length earlier.symbols) rule term (rule_within earlier place rule (operand 0 t) spells.1) within
    (term_within (step_scope earlier) (row_of rule).kind term (operand 1 t) refl spells.2)
step_fits earlier (invoke place name direction pairs) t spells within = tt

steps_fit : (earlier : Earlier) (steps : List Step) (ts : Forest) → AreSteps earlier steps ts → AllByRecursion IsStepWithin steps → AllByRecursion StepFits steps
steps_fit earlier [] ts spell within = tt
steps_fit earlier (step ∷ steps) no_trees spell within = absurd spell
steps_fit earlier (step ∷ steps) (tree t ts) spell within =
    (step_fits earlier step t spell.0 within.0, steps_fit earlier steps ts spell.1 within.1)

-- ---- items

-- the steps of an item fit
HasFitSteps : Entry → Type 0
HasFitSteps (symbol_entry n s) = Unit {0}
HasFitSteps (protocol_entry name interface body) = Unit {0}
HasFitSteps (assumption_entry name left right) = Unit {0}
HasFitSteps (theorem_entry name left right lefts rights) = AllByRecursion StepFits lefts × AllByRecursion StepFits rights

-- what is known of each item
record IsFitItem (symbols : List Symbol) (entries : List Entry) (item : Entry) : Type 0 where
  sides : HasSides entries item
  typed : IsTypedItem symbols entries item
  steps : HasFitSteps item

fit_steps : (earlier : Earlier) (item : Entry) (items : List Entry) (t : Located) (ts : Forest) → AreEntries earlier (item ∷ items) (tree t ts) → IsEntryWithin item → HasFitSteps item
unfolding HasFitSteps
fit_steps earlier (symbol_entry n s) items t ts spelled within = tt
fit_steps earlier (protocol_entry name interface body) items t ts spelled within = tt
fit_steps earlier (assumption_entry name left right) items t ts spelled within = tt
fit_steps earlier (theorem_entry name left right lefts rights) items t ts spelled within = (
  steps_fit earlier lefts (operands (operand 3 t)) spelled.0.3.1 within.1,
  steps_fit earlier rights (operands (operand 4 t)) spelled.0.4.1 within.2,
)

item_fits : (symbols : List Symbol) (entries : List Entry) (earlier : Earlier) (items : List Entry) (ts : Forest) → AreEntries earlier items ts → AllByRecursion IsEntryWithin items → HaveSides entries items → AreTyped symbols entries items → (index : ℕ) (item : Entry) → slice_get items index ≡ Some item → IsFitItem symbols entries item
item_fits symbols entries earlier [] ts spelled within sides typed index item there = cc
item_fits symbols entries earlier (x ∷ items) no_trees spelled within sides typed index item there = absurd spelled
item_fits symbols entries earlier (x ∷ items) (tree t ts) spelled within sides typed zero item there =
    subst (IsFitItem symbols entries) (same_Some x item there)
    (record { sides = sides.0; typed = typed.0; steps = fit_steps earlier x items t ts spelled within.0 })
item_fits symbols entries earlier (x ∷ items) (tree t ts) spelled within sides typed (suc index) item there =
    item_fits symbols entries (earlier_with x earlier) items ts spelled.1 within.1 sides.1 typed.1 index item there

-- ---- a theorem

-- the protocol that is found stands for the network
found_protocol : (found : Option ProtocolItem) (n : Network) → option_map network_of found ≡ Some n → (p : ProtocolItem) × (found ≡ Some p) × (network_of p ≡ n)
found_protocol None n e = cc
found_protocol (Some p) n e = (p, refl, same_Some (network_of p) n e)

protocol_there : (symbols : List Symbol) (items : List Item) (name : List ℕ) → IsThere (map (entry_of symbols) items) name → (p : ProtocolItem) × (protocol_named items name ≡ Some p) × (network_named (map (entry_of symbols) items) name ≡ Some (network_of p))
protocol_there symbols items name there =
    let found = found_protocol (protocol_named items name) there.0 (sym (network_named-found symbols items name (protocol_named items name) refl) ∙ there.1) in
    (found.0, found.1, there.1 ∙ ap Some (sym found.2))

held_steps : (steps : List HeldStep) → AllByRecursion StepFits (map step_of steps) → AllByRecursion (λ step. StepFits (step_of step)) steps
held_steps [] fit = tt
held_steps (step ∷ steps) fit = (fit.0, held_steps steps fit.1)

same_ports : (from to : Option Network) (l r : Network) → from ≡ Some l → to ≡ Some r → HaveSamePorts from to → HaveSamePorts (Some l) (Some r)
same_ports from to l r e f same = subst (λ (x : Option Network). HaveSamePorts (Some l) x) f (subst (λ (x : Option Network). HaveSamePorts x to) e same)

-- the body of a network that fits may be printed
body_within : (symbols : List Symbol) (n : Network) → IsFitNetwork symbols n → IsProtocolWithin (length symbols) n.body
body_within symbols n fit =
    subst (λ count. IsProtocolWithin count n.body) (length-map symbols symbol_of)
    (IsProtocolWithin-typed (signature_of symbols) (scope_of (n.interface.inputs ++ n.interface.outputs)) n.body fit.typed.typed)

theorem_ready : (book : Book) (theorem : TheoremItem) → AreFitNetworks book.document.now.sig (document_of book.document.now).entries → IsFitItem book.document.now.sig (document_of book.document.now).entries (entry_of book.document.now.sig (I.Theorem theorem)) → neighbours_in book.chains ≤ limit_number ChainLimit → All (IsKept (length book.document.now.sig)) book.chains → IsReady book theorem
unfolding HasFitSteps
theorem_ready book theorem fit known short kept =
    let symbols = book.document.now.sig in
    let items = book.document.now.items in
    let entries = map (entry_of symbols) items in
    let l = protocol_there symbols items theorem.left known.sides.0 in
    let r = protocol_there symbols items theorem.right known.sides.1 in
    let fit_left = IsFitNetwork-named symbols entries theorem.left fit (network_of l.0) l.2 in
    let fit_right = IsFitNetwork-named symbols entries theorem.right fit (network_of r.0) r.2 in
    let same = same_ports (network_named entries theorem.left) (network_named entries theorem.right) (network_of l.0) (network_of r.0) l.2 r.2 known.typed in
    record {
      left = l.0;
      right = r.0;
      has_left = l.1;
      has_right = r.1;
      sides = record {
        left_limits = fit_left.limits;
        right_limits = fit_right.limits;
        left_typed = fit_left.typed;
        right_typed = HasInterface-across symbols (network_of l.0) (network_of r.0) fit_left fit_right same;
        left_steps = All-from_recursion (λ step. StepFits (step_of step)) theorem.left_steps (held_steps theorem.left_steps known.steps.0);
        right_steps = All-from_recursion (λ step. StepFits (step_of step)) theorem.right_steps (held_steps theorem.right_steps known.steps.1);
      };
      short = short;
      bodies = λ name p e.
          body_within symbols (network_of p)
          (IsFitNetwork-named symbols entries name fit (network_of p) (network_named-found symbols items name (Some p) (sym e)));
      kept = kept;
    }

-- what is known of a document whose theorem is checked
abbrev IsFitDocument : Held → TheoremItem → Type 0
IsFitDocument document theorem =
    AreFitNetworks document.sig (document_of document).entries
    × IsFitItem document.sig (document_of document).entries (entry_of document.sig (I.Theorem theorem))

-- the item of an index may be checked
pub IsReadyItem-there : (document : Held) (t : Located) (book : Book) (index : ℕ) (item : Item) → SpellsDocument (document_of document) t → IsWithinLimits (document_of document) → IsTypedDocument (document_of document) → book.document.now ≡ document → neighbours_in book.chains ≤ limit_number ChainLimit → All (IsKept (length book.document.now.sig)) book.chains → slice_get document.items index ≡ Some item → IsReadyItem book item
IsReadyItem-there document t book index (I.Symbol n) spelled within typed is short kept there = tt
IsReadyItem-there document t book index (I.Protocol p) spelled within typed is short kept there = tt
IsReadyItem-there document t book index (I.Assumption a) spelled within typed is short kept there = tt
IsReadyItem-there document t book index (I.Theorem theorem) spelled within typed is short kept there =
    let d = document_of document in
    let known : IsFitDocument document theorem = (
      AreFitNetworks-spelled d t spelled within typed,
      item_fits d.symbols d.entries nothing_earlier d.entries _ spelled.3 within.1 (HaveSides-spelled d t spelled) typed index (entry_of document.sig (I.Theorem theorem))
          (slice_get-map (entry_of document.sig) document.items index ∙ ap (option_map (entry_of document.sig)) there),
    ) in
    let here : IsFitDocument book.document.now theorem = subst (λ (h : Held). IsFitDocument h theorem) (sym is) known in
    theorem_ready book theorem here.0 here.1 short kept
