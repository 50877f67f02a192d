use Rattle.std.proofs.Common.{rules, ◌≡◌, None, sym, ap, ◌∙◌}
use Rattle.ipdl_term.specs.Rules.{rule_words, rule_number}
use Rattle.ipdl_term.proofs.words.rule_number.Goals as goal

pub returns : goal.returns
unfolding rule_words
returns c = sym c.in_ok-number.was ∙ c.index_of.ensures ∙ ap rule_number c.text.ensures.value

pub returns-in_err-number : goal.returns-in_err-number
unfolding rule_words
returns-in_err-number c =
    let found : c.index_of.result ≡ rule_number c.args.word.now = c.index_of.ensures ∙ ap rule_number c.text.ensures.value in
    let none : c.from_residual.result ≡ None = search rules in
    none ∙ sym c.in_err-number.was ∙ found
