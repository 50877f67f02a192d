use Rattle.std.proofs.Common.{◌≡◌, ◌+◌, ◌++◌, List, drop, map, sym, ap, ◌∙◌, ◌||◌, subst}
use Rattle.std.proofs.lemmas.List.{at_drop_more}
use Rattle.ipdl_uses.proofs.HiddenSets.{first_added}
use Rattle.ipdl_uses.specs.Lemmas.{hidden_in_terms}
use Rattle.ipdl_term.specs.Channels.{has}
use Rattle.ipdl_term.specs.Renaming.{hidden_channels}
use Rattle.ipdl_term.specs.Terms.{Channel}
use Rattle.ipdl_term.specs.Views.{protocol_of}
use Rattle.ipdl_term.specs.declared.protocol.Proto.{Proto}
use Rattle.ipdl_uses.proofs.hidden.hidden_in.Goals as goal

hidden_in : List Proto → List Channel
hidden_in terms = hidden_in_terms (map protocol_of terms)

pub loop-term-preserved : goal.loop-term-preserved
unfolding hidden_in
loop-term-preserved c d =
    let terms = c.args.terms.now in
    let i = c.loop-term.term-index in
    let term = c.term-item.result in
    let rest = hidden_in (drop (i + 1) terms) in
    let first = hidden_channels (protocol_of term) in
    let split : hidden_in (drop i terms) ≡ first ++ rest = at_drop_more hidden_in terms i term c.loop-term-test.true ∙ ap (λ t. hidden_channels (protocol_of t) ++ rest) (sym c.term-item.is) in
    let Before : List Channel → Type 0 = λ names. (has names d || has c.loop-term.names d) ≡ has (hidden_in terms) d in
    first_added first rest c.loop-term.names c.add_hidden.new.names (hidden_in terms) d (c.in_ok-add_hidden.ensures d) (subst Before split (c.loop-term.invariant d))
