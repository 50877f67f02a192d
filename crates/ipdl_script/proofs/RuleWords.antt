-- The word of each rule is a name.
use Rattle.std.proofs.Common.{◌≡◌, true, refl}
use Rattle.ipdl_base.specs.Names.{is_name}
use Rattle.ipdl_printing.proofs.PlainNames.{is_name-word}
use Rattle.ipdl_term.specs.Rules.{Rule, rule_word}
use Rattle.ipdl_term.specs.Rules as R

pub words_are_names : (rule : Rule) → is_name (rule_word rule) ≡ true
words_are_names R.comm = is_name-word (rule_word R.comm) refl
words_are_names _ = is_name-word _ refl
