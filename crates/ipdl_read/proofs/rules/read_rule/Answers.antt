use Rattle.std.proofs.Common.{◌≡◌, List, [], sym, ◌∙◌, subst}
use Rattle.std.specs.Prelude.{IfErr}
use Rattle.ipdl_term.specs.Rules.{heading_named}
use Rattle.ipdl_tree.specs.Views.{all_located}
use Rattle.ipdl_forms.specs.declared.fault.DocFault.{DocFault}
use Rattle.ipdl_forms.specs.Faults.{TellsFirst}
use Rattle.ipdl_forms.specs.Steps.{rule_faults}
use Rattle.ipdl_forms.proofs.Faults.{OnOk-map}
use Rattle.ipdl_read_terms.specs.Binders.{scope_of}
use Rattle.ipdl_read.specs.Rules.{kinds_asked, word_list_faults}
use Rattle.ipdl_read.proofs.RuleForms.{rule_faults-asked}
use Rattle.ipdl_read.proofs.rules.read_rule.Goals as goal

pub returns-clause-clean : goal.returns-clause-clean
returns-clause-clean c =
    let e = rule_faults-asked (scope_of c.args.scope.now) c.args.list.0 c.args.word.now (all_located c.args.operands.now) in
    OnOk-map c.read_by_word.result (word_list_faults (scope_of c.args.scope.now) c.args.list.0 (kinds_asked c.args.word.now) (all_located c.args.operands.now) ≡ []) (rule_faults (scope_of c.args.scope.now) c.args.list.0 (heading_named c.args.word.now) (all_located c.args.operands.now) ≡ []) (λ clean. e ∙ clean) c.read_by_word.ensures.clean

pub returns-clause-first : goal.returns-clause-first
returns-clause-first c =
    let e = rule_faults-asked (scope_of c.args.scope.now) c.args.list.0 c.args.word.now (all_located c.args.operands.now) in
    let P : List DocFault → Type 0 = λ fs. IfErr c.read_by_word.result (λ fault. TellsFirst fault fs) in
    subst P (sym e) c.read_by_word.ensures.first
