use Rattle.std.proofs.Common.{◌++◌, codes, ap, ◌∙◌}
use Rattle.ipdl_forms.specs.Steps.{direction_word}
use Rattle.ipdl_printing.specs.Texts.{place_text}
use Rattle.ipdl_term.specs.Steps.{direction_of}
use Rattle.ipdl_chain.specs.ChainTexts.{renaming_text}
use Rattle.ipdl_chain.proofs.Lines.{rule_mark-pieces, theorem_mark-pieces, assumption_mark-pieces}
use Rattle.ipdl_chain.proofs.texts.push_mark.Goals.{in-ByRule+in_ok-push_by-in-ByRule, in-ByTheorem+in_ok-push_by-in-ByTheorem+in_ok-push_names-in-ByTheorem, in-ByAssumption+in_ok-push_by-in-ByAssumption+in_ok-push_names-in-ByAssumption+in_ok-push_context-in-ByAssumption}
use Rattle.ipdl_chain.proofs.texts.push_mark.Goals as goal

pub returns : goal.returns
returns c = elim c.match-mark.branch [
  | in-ByRule+in_ok-push_by-in-ByRule w ↦
      let m = w.in-ByRule in
      rw m.is (rule_mark-pieces (codes "by rule") (direction_word (direction_of m.dir)) m.word (place_text m.path) _ _ _
      w.in_ok-push_by-in-ByRule.ensures (c.in_ok-push.ensures.items ∙ ap (λ text. text.items ++ codes "\n") w.text-is))
  | in-ByTheorem+in_ok-push_by-in-ByTheorem+in_ok-push_names-in-ByTheorem w ↦
      let m = w.in-ByTheorem in
      rw m.is (theorem_mark-pieces (codes "by theorem") (direction_word (direction_of m.dir)) m.name (place_text m.path)
      (renaming_text m.renaming) _ _ _ _ w.in_ok-push_by-in-ByTheorem.ensures w.in_ok-push_names-in-ByTheorem.ensures
      (c.in_ok-push.ensures.items ∙ ap (λ text. text.items ++ codes "\n") w.text-is))
  | in-ByAssumption+in_ok-push_by-in-ByAssumption+in_ok-push_names-in-ByAssumption+in_ok-push_context-in-ByAssumption w ↦
      let m = w.in-ByAssumption in
      rw m.is (assumption_mark-pieces (codes "by assume") (direction_word (direction_of m.dir)) m.name (place_text m.path)
      (renaming_text m.renaming) _ _ _ _ _ _ w.in_ok-push_by-in-ByAssumption.ensures
      w.in_ok-push_names-in-ByAssumption.ensures w.in_ok-push_context-in-ByAssumption.ensures
      (c.in_ok-push.ensures.items ∙ ap (λ text. text.items ++ codes "\n") w.text-is))
]
