-- The expression at the place of a step and the one that its rule makes of it: both are typed there.
use Rattle.std.proofs.Common.{◌≡◌, ℕ, List, length, Some, sym, subst}
use Rattle.ipdl_laws.proofs.Replacing.{kept}
use Rattle.ipdl_laws.proofs.TypedParts.{typed_part}
use Rattle.ipdl_script.proofs.InstanceLaws.{protocol_is}
use Rattle.ipdl_script.proofs.PartTests.{plain_changed}
use Rattle.ipdl_script.specs.Fitting.{WholeFits}
use Rattle.ipdl_script.specs.Instances.{gives, answer_at}
use Rattle.ipdl_script.specs.Settling.{settled_rule}
use Rattle.ipdl_script.specs.Steps.{Setting, scope_in, around_place, after_step}
use Rattle.ipdl_term.specs.Places.{protocol_or, term_at, term_with}
use Rattle.ipdl_term.specs.Rules.{Rule}
use Rattle.ipdl_term.specs.Steps.{plain}
use Rattle.ipdl_term.specs.Surroundings.{outermost, IsTypedAt}
use Rattle.ipdl_term.specs.Terms.{Expression, Protocol, protocol_term, expression_term}
use Rattle.ipdl_term.specs.Typing.{HasWidth, HasInterface, IsTyped}

module _ (x : Setting) (before : Protocol) (place : List ℕ) (old : Expression) (at : term_at (protocol_term before) place ≡ Some (expression_term old)) where
  pub old_is_typed : WholeFits x before → IsTypedAt x.sig (around_place x before place) (expression_term old)
  old_is_typed whole = (typed_part x.sig (outermost (scope_in x)) (protocol_term before) whole.typed.typed tt place (expression_term old) at).0

  pub new_is_typed : (rule : Rule) (new : Expression) →
      answer_at x.sig (around_place x before place) (settled_rule (length (around_place x before place).widths) rule) (expression_term old) ≡ gives (expression_term new) →
      HasInterface x.sig x.interface (after_step x before (plain place rule)) → IsTypedAt x.sig (around_place x before place) (expression_term new)
  new_is_typed rule new answered typed =
      let s = outermost (scope_in x) in
      let result = term_with (protocol_term before) place (expression_term new) in
      let keeps = kept s (protocol_term before) place (expression_term old) (expression_term new) at tt in
      let after : IsTyped x.sig (scope_in x) (protocol_or before result) =
      subst (IsTyped x.sig (scope_in x)) (plain_changed x before place rule (expression_term old) at (expression_term new) answered).whole typed.typed in
      let whole : IsTypedAt x.sig s result = subst (IsTypedAt x.sig s) (sym (protocol_is before result keeps.0)) after in
      subst (λ t. IsTypedAt x.sig t (expression_term new)) keeps.2 (typed_part x.sig s result whole tt place (expression_term new) keeps.1).0
